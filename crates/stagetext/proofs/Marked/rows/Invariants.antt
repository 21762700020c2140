-- The invariant: the lines from here on are left to be written. Assumes nothing.
use Rattle.std.proofs.Common.{length}
use Rattle.stagetext.proofs.Turns.{from_number}
use Rattle.stagetext.specs.Stagetext.{row_of, rows_of}
use Rattle.text.proofs.Added.{Left}
use Rattle.stagetext.proofs.Marked.rows.Given as goal

abbrev pub invariant-loop-k : goal.invariant-loop-k
invariant-loop-k l = Left (from_number (row_of (length l.self.marks.now) l.self.marks.now) l.count l.k) l.out (rows_of (length l.self.marks.now) l.self.marks.now l.count) l.initial.out
