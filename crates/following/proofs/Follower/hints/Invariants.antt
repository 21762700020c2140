-- `Follower::hints` is safe; its answer is a hint and nothing is said of it but its length. Assumes nothing.
use Rattle.std.proofs.Common.{◌≡◌, ◌+◌, length}
use Rattle.theory.specs.Limits.{limits}
use Rattle.following.proofs.Follower.hints.Given as goal

abbrev pub invariant-loop-j : goal.invariant-loop-j
invariant-loop-j l = length l.places ≡ limits.numbers + 1
