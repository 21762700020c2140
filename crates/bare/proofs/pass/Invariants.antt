-- `bare::pass`: the marks after the items so far. Assumes nothing.
use Rattle.std.proofs.Common.{◌≡◌, ◌+◌, take}
use Rattle.bare.specs.Bare.{barely}
use Rattle.following.specs.Marks.{pass_over}
use Rattle.bare.proofs.pass.Given as goal

abbrev pub invariant-loop-item : goal.invariant-loop-item
invariant-loop-item l = l.marks ≡ pass_over l.k (l.k + 1) l.fn.start (barely l.top (take l.item-index l.list))
