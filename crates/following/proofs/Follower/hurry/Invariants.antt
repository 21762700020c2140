-- `Follower::hurry` meets its contract. The loop: justifications held were gone over. Assumes nothing.
use Rattle.following.specs.Promised.{Hurried}
use Rattle.rules.specs.Held.{said_by}
use Rattle.following.proofs.Follower.hurry.Given as goal

abbrev pub invariant-loop-n : goal.invariant-loop-n
invariant-loop-n l = Hurried (said_by l.self.held) l.initial.marks l.marks
