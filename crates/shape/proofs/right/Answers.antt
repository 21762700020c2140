-- `right` meets its contract. Assumes nothing.
use Rattle.std.proofs.Common.{arith}
use Rattle.std.proofs.lemmas.Bool.Decides.{nat_tests}
use Rattle.std.proofs.lemmas.Grind.{common_steps}
use Rattle.shape.proofs.Laws.{all_low, listed_by}
use Rattle.shape.specs.Shape.{lists_right}
use Rattle.shape.proofs.right.Goals as goal

pub returns-then-list : goal.returns-then-list
unfolding lists_right
returns-then-list c =
    let s = c.args in
    let u = all_low s.a s.lists.nogoods in
    let v = listed_by s.a s.lists.count s.lists.nogoods in
    grind (arith, nat_tests, common_steps)

pub returns-else-list : goal.returns-else-list
unfolding lists_right
returns-else-list c =
    let s = c.args in
    let u = all_low s.a s.lists.nogoods in
    let v = listed_by s.a s.lists.count s.lists.nogoods in
    grind (arith, nat_tests, common_steps)
