-- `same` meets its contract: by consequent, then by the supports. Assumes nothing.
use mathlib.Core.Path.{◌∙◌, ap₂}
use borrow.Author.Tests.{ne_eqb}
use lib.Dec.{eqb}
use Rattle.holding.proofs.Steps.{same_head, same_rest}
use Rattle.rules.specs.Held.{meaning}
use Rattle.theory.proofs.Words.{alike_is}
use Rattle.theory.specs.Judge.{same_sets}
use Rattle.holding.proofs.order.same.Goals as goal

pub returns-then-s-t : goal.returns-then-s-t
unfolding same_sets
returns-then-s-t c = same_rest (meaning c.args.s.now) (meaning c.args.t.now) c.if-s-t.true _ (c.eq.ensures ∙ alike_is eqb _ _ ∙ ap₂ same_sets c.supports.ensures c.supports-then-s-t.ensures)

pub returns-else-s-t : goal.returns-else-s-t
returns-else-s-t c = ne_eqb c.args.s.now.consequent c.args.t.now.consequent c.if-s-t.false ∙ same_head (meaning c.args.s.now) (meaning c.args.t.now) c.if-s-t.false
