-- What a right shape holds can be followed. Assumes nothing.
use mathlib.Core.Bool.{true}
use mathlib.Core.Path.{◌≡◌}
use native.Mathlib.Omega.{arith}
use Rattle.following.specs.Promised.{Followable}
use Rattle.store.proofs.Shapes.{shape_elim}
use Rattle.store.specs.Shape.{right_shape}
use Rattle.store.specs.declared.Store.{Store}

pub followable : (s : Store) → right_shape s ≡ true → Followable s.held
followable s t = let h = (shape_elim s t).0 in record { right = h.right; low = omega (arith, h.few, h.claims) }
