-- `labels` meets its contract. Assumes nothing.
use Rattle.std.proofs.Common.{◌*◌, drop, take, arith, rules}
use Rattle.std.proofs.lemmas.Bool.Decides.{nat_tests}
use Rattle.std.proofs.lemmas.Grind.{common_steps}
use Rattle.shape.proofs.Laws.{all_low, all_zero, labels_by}
use Rattle.slices.proofs.Laws.{turned}
use Rattle.theory.specs.Limits.{limits}
use Rattle.shape.proofs.labels.Goals as goal

pub returns-then-low : goal.returns-then-low
returns-then-low c =
    let a = c.args in
    let s = a.lists.now in
    let p = labels_by a.a a.top s.sizes s.members c.requires.1 (search rules) (search rules) in
    let z = all_zero (drop (limits.label * a.top) s.members) in
    let u = all_low a.a (take (limits.label * a.top) s.members) in
    grind (arith, nat_tests, common_steps, turned)

pub returns-else-low : goal.returns-else-low
returns-else-low c =
    let a = c.args in
    let s = a.lists.now in
    let p = labels_by a.a a.top s.sizes s.members c.requires.1 (search rules) (search rules) in
    let z = all_zero (drop (limits.label * a.top) s.members) in
    let u = all_low a.a (take (limits.label * a.top) s.members) in
    grind (arith, nat_tests, common_steps, turned)
