-- `spare` meets its contract. The loop: the unused places are zero if what was seen and those from here on are. Assumes nothing.
use mathlib.Core.Bool.{◌&&◌}
use mathlib.Core.Path.{◌≡◌}
use lib.Dec.{eqb}
use lib.ListN.{drop}
use Rattle.rules.specs.Held.{unused_entry}
use Rattle.theory.specs.Lists.{all_of}
use Rattle.rules.proofs.Held.spare.Given as goal

abbrev pub invariant-loop-entry : goal.invariant-loop-entry
invariant-loop-entry l = eqb 0 l.seen && all_of unused_entry (drop l.entry-index l.entry-items) ≡ all_of unused_entry l.entry-items
