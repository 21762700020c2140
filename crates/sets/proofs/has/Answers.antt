-- `sets::has` meets its contract. Assumes nothing.
use Rattle.sets.proofs.Operations.{digit_test}
use Rattle.sets.proofs.has.Goals as goal

pub returns : goal.returns
returns c = digit_test c.args.e c.args.k c.requires.0
