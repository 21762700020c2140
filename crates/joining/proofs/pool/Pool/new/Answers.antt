-- An empty pool is in order. Assumes nothing.
use Rattle.std.proofs.Common.{refl}
use Rattle.theory.specs.Lists.{sorted_by}
use Rattle.joining.proofs.pool.Pool.new.Goals as goal

pub invariant_of-result-clause-well : goal.invariant_of-result-clause-well
unfolding sorted_by
invariant_of-result-clause-well c = record { sorted = refl; ahead = λ x m. elim m [ ] }
