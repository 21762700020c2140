-- The invariant: the lines of the numbers so far are written. Assumes nothing.
use Rattle.std.proofs.Common.{◌≡◌}
use Rattle.listing.specs.Listing.{lines_below}
use Rattle.text.specs.Writer.{added}
use Rattle.listing.proofs.Page.rows.Given as goal

abbrev pub invariant-loop-n : goal.invariant-loop-n
invariant-loop-n l = l.writer ≡ added (lines_below l.self.store.now l.n) l.initial.writer
