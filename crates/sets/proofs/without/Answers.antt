-- `sets::without` meets its contract. Assumes nothing.
use Rattle.sets.proofs.Operations.{and_not}
use Rattle.sets.proofs.without.Goals as goal

pub returns : goal.returns
returns c = and_not 32 c.args.a c.args.b c.ranges.a.fits c.ranges.b.fits
