-- `Follower::pass` meets its contract. The loop: the marks are those after the justifications so far. Assumes nothing.
use Rattle.std.proofs.Common.{◌≡◌, take}
use Rattle.following.proofs.Places.{passed}
use Rattle.following.proofs.Follower.pass.Given as goal

abbrev pub invariant-loop-entry : goal.invariant-loop-entry
invariant-loop-entry l = l.marks ≡ passed l.t l.v l.initial.marks (take l.entry-index l.entry-items)
