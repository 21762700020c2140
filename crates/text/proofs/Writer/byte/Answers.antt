use Rattle.std.proofs.Common.{arith}
use Rattle.text.proofs.Added.{added_one}
use Rattle.text.proofs.Writer.byte.Goals as goal

pub returns : goal.returns
returns c = added_one c.args.x c.args.self.now (omega (arith, c.requires))
