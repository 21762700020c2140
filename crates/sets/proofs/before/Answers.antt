-- `sets::before` meets its contract. Assumes nothing.
use Rattle.std.proofs.Common.{◌∙◌}
use Rattle.sets.proofs.Operations.{before_pairs}
use Rattle.sets.proofs.before.Goals as goal

pub returns : goal.returns
returns c = c.lt.ensures ∙ before_pairs c.args.a c.args.b
