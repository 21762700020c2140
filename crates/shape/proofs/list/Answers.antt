-- `list` meets its contract. Assumes nothing.
use Rattle.std.proofs.Common.{drop, arith}
use Rattle.std.proofs.lemmas.Bool.Decides.{nat_tests}
use Rattle.std.proofs.lemmas.Grind.{common_steps}
use Rattle.shape.proofs.Laws.{all_zero}
use Rattle.shape.specs.Shape.{standing}
use Rattle.slices.proofs.Laws.{turned}
use Rattle.shape.proofs.list.Goals as goal

pub returns-then-sorted : goal.returns-then-sorted
unfolding standing
returns-then-sorted c = let z = all_zero (drop c.args.count c.args.l.now) in let t = turned c.all.result 0 in grind (arith, nat_tests, common_steps)

pub returns-else-sorted : goal.returns-else-sorted
unfolding standing
returns-else-sorted c = grind (arith, nat_tests, common_steps)
