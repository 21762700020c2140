-- `remove` meets its contract: found in its place, the others moved down. Assumes nothing.
use Rattle.holding.proofs.Removing.{remove_inside, removed_held}
use Rattle.holding.proofs.remove.Goals as goal

pub place-at-requires : goal.place-at-requires
place-at-requires c = c.requires.0

pub closed-requires : goal.closed-requires
closed-requires c =
    (c.requires.0, remove_inside c.args.held c.requires.0 c.args.entry c.requires.1 _ c.place-at.ensures)

pub returns : goal.returns
returns c =
    removed_held c.args.held c.requires.0 c.args.entry c.requires.1 _ c.place-at.ensures _ c.closed.ensures
