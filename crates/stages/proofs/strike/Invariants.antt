-- `stages::strike` meets its contract. Assumes nothing.
use Rattle.stages.proofs.Spared.{Left}
use Rattle.stages.proofs.strike.Given as goal

abbrev pub invariant-loop-e : goal.invariant-loop-e
invariant-loop-e l = Left l.list l.struck l.sets l.count l.e-index
