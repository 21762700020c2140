-- What the right shape of a store says of the numbers that its lines print. Assumes nothing.
use mathlib.Core.Bool.{true}
use mathlib.Core.Path.{◌≡◌}
use Prim.Native.Nat.{◌+◌, ◌<◌, ◌≤◌, ℕ}
use lib.ListN.{get_or, length}
use Rattle.rules.proofs.Scan.{right_elim}
use Rattle.shape.proofs.Elim.{Shaped, label_few, lists_elim}
use Rattle.store.proofs.Shapes.{shape_elim}
use Rattle.store.specs.Shape.{right_shape, top}
use Rattle.store.specs.declared.Store.{Store}
use Rattle.theory.specs.Limits.{limits}

pub record Bounded (s : Store) : Type 0 where
  pub assumptions : s.held.assumptions ≤ limits.assumptions
  pub claims : s.held.claims ≤ limits.claims
  pub held : s.held.count ≤ limits.held
  pub depth : s.lists.depth ≤ limits.numbers + 1
  pub sizes : (i : ℕ) → i < limits.numbers → get_or s.lists.sizes i 0 ≤ limits.label
  pub nogoods : s.lists.count ≤ length s.lists.nogoods

pub bounded : (s : Store) → right_shape s ≡ true → Bounded s
bounded s t =
    let e = shape_elim s t in
    let h = s.held in
    let l : Shaped s.lists h.assumptions (top h) = lists_elim s.lists h.assumptions (top h) e.1 in
    record {
      assumptions = e.0.few;
      claims = e.0.claims;
      held = (right_elim h e.0.right).few;
      depth = l.depth;
      sizes = label_few s.lists h.assumptions (top h) l;
      nogoods = l.nogoods.few;
    }
