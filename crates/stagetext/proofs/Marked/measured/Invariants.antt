-- The invariant: the sum is the length of the lines with the numbers before this one. Assumes nothing.
use Rattle.std.proofs.Common.{◌≡◌, length}
use Rattle.stagetext.specs.Stagetext.{rows_of}
use Rattle.stagetext.proofs.Marked.measured.Given as goal

abbrev pub invariant-loop-n : goal.invariant-loop-n
invariant-loop-n l = l.sum ≡ length (rows_of l.n l.self.marks.now l.count)
