-- `script::line_end` meets its contract. Assumes nothing.
use Rattle.std.proofs.Common.{arith}
use Rattle.std.proofs.lemmas.Bool.Decides.{nat_tests}
use Rattle.script.specs.Script.{line_end, other}
use Rattle.script.proofs.line_end.Goals as goal

pub returns : goal.returns
unfolding line_end
returns c = c.past.ensures (other 10) (λ b r e. grind (arith, nat_tests))
