-- The invariant: with the lines from here on the sum is the whole. Assumes nothing.
use Rattle.std.proofs.Common.{[], ◌≡◌, ◌+◌, length}
use Rattle.stagetext.proofs.Turns.{from_number}
use Rattle.stagetext.specs.Stagetext.{row_of, rows_of}
use Rattle.stagetext.proofs.empty_width.Given as goal

abbrev pub invariant-loop-k : goal.invariant-loop-k
invariant-loop-k l = l.sum + length (from_number (row_of 0 []) l.count l.k) ≡ length (rows_of 0 [] l.count)
