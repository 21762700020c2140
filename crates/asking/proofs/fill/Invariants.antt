-- `asking::fill`: the bytes so far. Assumes nothing.
use Rattle.std.proofs.Common.{◌≡◌, ℕ, ◌<◌, get_or}
use Rattle.asking.specs.Asking.{byte_of, standing}
use Rattle.store.specs.Reading.{contradicted_in}
use Rattle.asking.proofs.fill.Given as goal

abbrev pub invariant-loop-n : goal.invariant-loop-n
invariant-loop-n l = (k : ℕ) → k < l.n → get_or l.out k 0 ≡ byte_of (contradicted_in l.store k) (standing l.store.lists k l.e)
