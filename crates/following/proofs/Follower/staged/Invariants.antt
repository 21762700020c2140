-- `Follower::staged` meets its contract. The loop: from these marks on it comes to the same. Assumes nothing.
use Rattle.std.proofs.Common.{◌≡◌, ◌+◌, ◌-◌}
use Rattle.following.specs.First.{stages_from}
use Rattle.rules.specs.Held.{said_by}
use Rattle.theory.specs.Limits.{limits}
use Rattle.following.proofs.Follower.staged.Given as goal

abbrev pub invariant-loop-k : goal.invariant-loop-k
invariant-loop-k l = stages_from (said_by l.self.held) (limits.numbers + 1) 0 l.initial.marks ≡ stages_from (said_by l.self.held) ((limits.numbers + 1) - l.k) l.k l.marks
