-- `records` meets its contract. The loop: what the file says is what its rest says after what is held. Assumes nothing.
use Rattle.casefile.proofs.Midway.{Midway}
use Rattle.casefile.proofs.records.Given as goal

abbrev pub invariant-loop-done : goal.invariant-loop-done
invariant-loop-done l = Midway l.fn.reader l.reader l.counts.assumptions l.counts.claims l.counts.records l.held l.done
