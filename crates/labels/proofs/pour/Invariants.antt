-- `labels::pour` meets its contract. Assumes nothing.
use Rattle.std.proofs.Common.{drop}
use Rattle.joining.specs.Places.{filled}
use Rattle.labels.proofs.Walks.{Left}
use Rattle.labels.proofs.pour.Given as goal

abbrev pub invariant-loop-e : goal.invariant-loop-e
invariant-loop-e l = Left l.struck l.list (filled l.initial.pool) (drop l.e-index l.list) (filled l.pool)
