-- `stages::touched` meets its contract. Assumes nothing.
use Rattle.std.proofs.Common.{◌≡◌, ◌+◌, length, map, take}
use Rattle.rules.specs.Held.{meaning}
use Rattle.stages.specs.Steps.{Touched}
use Rattle.theory.specs.Limits.{limits}
use Rattle.stages.proofs.touched.Given as goal

abbrev pub invariant-loop-entry : goal.invariant-loop-entry
invariant-loop-entry l = (length l.marks ≡ limits.numbers + 1) × Touched l.moved (map meaning (take l.entry-index l.entry-items)) l.marks
