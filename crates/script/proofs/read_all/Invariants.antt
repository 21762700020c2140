-- `script::read_all` meets its contract. The invariant: what is left to read from place `at` on, after `count` fields, gives the answer. Assumes nothing.
use Rattle.std.proofs.Common.{length, ◌-◌}
use Rattle.script.proofs.Reading.{Midway}
use Rattle.script.proofs.read_all.Given as goal

abbrev pub invariant-loop-from : goal.invariant-loop-from
invariant-loop-from g l = Midway g.T.FromField.reading l.line l.from l.initial.out l.at l.out l.count

abbrev pub decreases-loop-from : goal.decreases-loop-from
decreases-loop-from g l = length l.line - l.at
