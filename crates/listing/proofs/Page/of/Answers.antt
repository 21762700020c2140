-- `Page::of` meets its contract. Assumes nothing.
use Rattle.lines.proofs.Follows.{followable}
use Rattle.listing.proofs.Page.of.Goals as goal

pub from_all-marks-requires : goal.from_all-marks-requires
from_all-marks-requires c = followable c.args.store.now c.requires.0
