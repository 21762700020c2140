-- The invariant: the text of the rest of the list is left to be written. Assumes nothing.
use Rattle.std.proofs.Common.{drop}
use Rattle.text.specs.Texts.{spaced}
use Rattle.text.proofs.Added.{Left}
use Rattle.theory.specs.Limits.{limits}
use Rattle.text.proofs.Writer.members.Given as goal

abbrev pub invariant-loop-set : goal.invariant-loop-set
invariant-loop-set l = Left (spaced limits.assumptions (drop l.set-index l.list)) l.self (spaced limits.assumptions l.list) l.initial.self
