-- `Follower::hurry` meets its contract. The loop: justifications held were gone over. Assumes nothing.
use Rattle.following.proofs.Closing.{hurried_none, hurried_then}
use Rattle.following.proofs.Follower.hurry.Goals as goal

pub loop-n-init : goal.loop-n-init
loop-n-init c = hurried_none _ _

pub loop-n-preserved : goal.loop-n-preserved
loop-n-preserved c = hurried_then _ _ _ _ c.loop-n.invariant c.chase.ensures
