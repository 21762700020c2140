-- `sets::only` meets its contract. Assumes nothing.
use Rattle.sets.proofs.Operations.{shifted}
use Rattle.sets.proofs.only.Goals as goal

pub returns : goal.returns
returns c = shifted 32 c.args.k c.requires.0 c.requires.1
