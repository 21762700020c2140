-- `supports` meets its contract. The loop: the places filled so far stand before what the rest gives. Assumes nothing.
use lib.ListN.{length}
use Rattle.items.proofs.Steps.{Partly}
use Rattle.items.proofs.supports.Given as goal

abbrev pub invariant-loop-place : goal.invariant-loop-place
invariant-loop-place l = Partly l.fn.reader l.ahead (length l.fn.places) l.place-items l.place-index
