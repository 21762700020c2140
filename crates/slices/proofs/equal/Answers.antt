-- `equal` meets its contract: the library's words are those of the document. Assumes nothing.
use Rattle.std.proofs.Common.{◌∙◌, eqb}
use Rattle.theory.proofs.Words.{alike_is}
use Rattle.theory.specs.Judge.{same_sets}
use Rattle.slices.proofs.equal.Goals as goal

pub returns : goal.returns
unfolding same_sets
returns c = c.eq.ensures ∙ alike_is eqb c.args.a.now c.args.b.now
