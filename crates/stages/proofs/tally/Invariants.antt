-- `stages::tally` meets its contract. Assumes nothing.
use Rattle.std.proofs.Common.{◌≡◌, ◌+◌, length}
use Rattle.rules.specs.Held.{said_by}
use Rattle.stages.proofs.Parts.{Counted}
use Rattle.theory.specs.Limits.{limits}
use Rattle.stages.proofs.tally.Given as goal

abbrev pub invariant-loop-entry : goal.invariant-loop-entry
invariant-loop-entry l = (length l.tallies ≡ limits.numbers + 1) × Counted (said_by l.held) l.entry-index l.tallies
