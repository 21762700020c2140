-- `inplace` meets its contract. The loop: before the place looked at all is right, and the least number that may follow is known. Assumes nothing.
use Rattle.rules.proofs.Placed.{Past}
use Rattle.rules.proofs.Held.inplace.Given as goal

abbrev pub invariant-loop-entry : goal.invariant-loop-entry
invariant-loop-entry l = Past l.top l.fn.self.entries l.fn.self.count l.entry-index l.least
