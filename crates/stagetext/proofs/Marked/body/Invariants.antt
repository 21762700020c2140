-- The invariant: what the numbers from here on add is left to be written. Assumes nothing.
use Rattle.std.proofs.Common.{length}
use Rattle.stagetext.proofs.Turns.{from_number}
use Rattle.stagetext.specs.Stagetext.{body_of, part_of}
use Rattle.text.proofs.Added.{Left}
use Rattle.stagetext.proofs.Marked.body.Given as goal

abbrev pub invariant-loop-n : goal.invariant-loop-n
invariant-loop-n l = Left (from_number (part_of l.self.marks.now l.k) (length l.self.marks.now) l.n) l.out (body_of (length l.self.marks.now) l.self.marks.now l.k) l.initial.out
