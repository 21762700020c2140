-- `comes` meets its contract: by consequent, by number of supports, by the supports. Assumes nothing.
use mathlib.Core.Path.{◌∙◌}
use Rattle.holding.proofs.Steps.{comes_is}
use Rattle.rules.specs.Held.{meaning}
use Rattle.holding.proofs.order.comes.Goals as goal

pub returns : goal.returns
returns c = c.lt.ensures ∙ comes_is (meaning c.args.s.now) (meaning c.args.t.now) _ _ c.supports-mine.ensures c.supports-theirs.ensures
