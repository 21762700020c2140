-- The invariant: from assumption k on, the rest of the text is left to be written. Assumes nothing.
use Rattle.std.proofs.Common.{false}
use Rattle.text.proofs.Rests.{rest}
use Rattle.text.proofs.Added.{Left}
use Rattle.theory.specs.Limits.{limits}
use Rattle.text.proofs.Writer.braces.Given as goal

abbrev pub invariant-loop-k : goal.invariant-loop-k
invariant-loop-k l = Left (rest limits.assumptions l.e l.k l.later) l.self (rest limits.assumptions l.e 1 false) l.initial.self
