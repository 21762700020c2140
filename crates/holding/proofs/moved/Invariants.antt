-- `moved` meets its contract. The loop: the places above i hold what was one below. Assumes nothing.
use mathlib.Core.Path.{◌≡◌}
use Prim.Native.Nat.{◌≤◌}
use Rattle.holding.proofs.Moving.{Shifting}
use Rattle.holding.specs.Placing.{with_entries}
use Rattle.holding.proofs.moved.Given as goal

abbrev pub invariant-loop-i : goal.invariant-loop-i
invariant-loop-i l = (l.at ≤ l.i) × Shifting l.initial.held.entries l.held.entries l.i l.count × (l.held ≡ with_entries l.initial.held l.count l.held.entries)
