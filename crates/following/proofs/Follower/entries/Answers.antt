-- `Follower::entries` meets its contract: no more places are in use than there are. Assumes nothing.
use Rattle.rules.proofs.Scan.{right_elim}
use Rattle.following.proofs.Follower.entries.Goals as goal

pub shared_ref_as_front-result : goal.shared_ref_as_front-result
shared_ref_as_front-result c = (right_elim _ c.args.self.now.followable.right).few
