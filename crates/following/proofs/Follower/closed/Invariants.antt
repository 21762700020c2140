-- `Follower::closed` meets its contract. The loop: so many passes were made. Assumes nothing.
use Rattle.std.proofs.Common.{◌≡◌, ◌+◌, length}
use Rattle.following.proofs.Closing.{Closing}
use Rattle.rules.specs.Held.{said_by}
use Rattle.theory.specs.Limits.{limits}
use Rattle.following.proofs.Follower.closed.Given as goal

abbrev pub invariant-loop : goal.invariant-loop
invariant-loop l = record {
  long : length l.marks ≡ limits.numbers + 1;
  closing : Closing (said_by l.self.held) l.initial.marks l.counter l.marks;
}
