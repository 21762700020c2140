-- `differs` meets its contract: the library's words are those of the document. Assumes nothing.
use Rattle.std.proofs.Common.{◌∙◌, ap, eqb, not}
use Rattle.theory.proofs.Words.{alike_is}
use Rattle.theory.specs.Judge.{same_sets}
use Rattle.stages.proofs.differs.Goals as goal

pub returns : goal.returns
unfolding same_sets
returns c = c.ne.ensures ∙ ap not (alike_is eqb c.args.list.now c.args.old.now)
