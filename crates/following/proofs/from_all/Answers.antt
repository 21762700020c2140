-- `following::from_all` meets its contract. Assumes nothing.
use Rattle.theory.specs.Demands.{follows_from_all}
use Rattle.theory.specs.Sets.{together}
use Rattle.following.proofs.from_all.Goals as goal

pub returns : goal.returns
unfolding follows_from_all
returns c = c.closed.ensures (together c.args.held.assumptions) c.all.ensures
