-- The invariant: the lines of the numbers so far are counted. Assumes nothing.
use Rattle.std.proofs.Common.{◌≡◌, length}
use Rattle.listing.specs.Listing.{lines_below}
use Rattle.listing.proofs.Page.measured.Given as goal

abbrev pub invariant-loop-n : goal.invariant-loop-n
invariant-loop-n l = l.sum ≡ length (lines_below l.self.store.now l.n)
