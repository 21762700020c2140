-- `closed` meets its contract. The loop: the places from `at` to i hold what was one above. Assumes nothing.
use mathlib.Core.Path.{◌≡◌}
use Prim.Native.Nat.{◌<◌}
use Rattle.holding.proofs.Removing.{Closing}
use Rattle.holding.specs.Placing.{with_entries}
use Rattle.theory.specs.Limits.{limits}
use Rattle.holding.proofs.closed.Given as goal

abbrev pub invariant-loop-i : goal.invariant-loop-i
invariant-loop-i l = (l.last < limits.held) × Closing l.initial.held.entries l.held.entries l.at l.i × (l.held ≡ with_entries l.initial.held l.initial.held.count l.held.entries)
