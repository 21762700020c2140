-- `sets::within` meets its contract. Assumes nothing.
use borrow.Author.Rules.{rules}
use Rattle.theory.specs.Sets.{within}
use Rattle.sets.proofs.within.Goals as goal

pub returns : goal.returns
unfolding within
returns c = search rules
