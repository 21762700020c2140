-- `Follower::chase` meets its contract. The loop: justifications held were gone over. Assumes nothing.
use Rattle.std.proofs.Common.{◌≤◌}
use Rattle.following.specs.Promised.{Hurried}
use Rattle.rules.specs.Held.{said_by}
use Rattle.theory.specs.Limits.{limits}
use Rattle.following.proofs.Follower.chase.Given as goal

abbrev pub invariant-loop : goal.invariant-loop
invariant-loop l = record {
  low : l.n ≤ limits.numbers;
  gone : Hurried (said_by l.self.held) l.initial.marks l.marks;
}
