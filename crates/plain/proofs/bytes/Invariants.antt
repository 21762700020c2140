-- `plain::bytes`: the bytes so far. Assumes nothing.
use Rattle.std.proofs.Common.{◌≡◌, ℕ, ◌<◌, get_or}
use Rattle.plain.specs.Plainly.{byte_of, read_from}
use Rattle.plain.proofs.bytes.Given as goal

abbrev pub invariant-loop-n : goal.invariant-loop-n
invariant-loop-n l = (k : ℕ) → k < l.n → get_or l.out k 0 ≡ byte_of (read_from l.marks k)
