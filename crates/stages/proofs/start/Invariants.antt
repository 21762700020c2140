-- `stages::start` meets its contract. Assumes nothing.
use Rattle.std.proofs.Common.{◌≡◌, replicate}
use Rattle.stages.proofs.Stages.{members_to, sizes_to}
use Rattle.theory.specs.Limits.{limits}
use Rattle.stages.proofs.start.Given as goal

abbrev pub invariant-loop-i : goal.invariant-loop-i
invariant-loop-i l = record {
  sizes : l.lists.sizes ≡ sizes_to l.i;
  members : l.lists.members ≡ members_to l.i;
  count : l.lists.count ≡ 0;
  nogoods : l.lists.nogoods ≡ replicate limits.nogoods 0;
  depth : l.lists.depth ≡ 0;
}
