-- `insert` meets its contract: put in its place, the others moved up. Assumes nothing.
use Rattle.holding.proofs.Putting.{place_held, put_held}
use Rattle.holding.proofs.insert.Goals as goal

pub place-at-requires : goal.place-at-requires
place-at-requires c = c.requires.0

pub moved-requires : goal.moved-requires
moved-requires c =
    (place_held c.args.held c.requires.0 c.args.entry _ c.place-at.ensures, c.requires.1)

pub returns : goal.returns
returns c =
    put_held c.args.held c.requires.0 c.args.entry _ c.place-at.ensures c.requires.1 c.requires.2 _ c.moved.ensures
