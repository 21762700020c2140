-- `plain::sown`: the marks of the assumptions so far. Assumes nothing.
use Rattle.std.proofs.Common.{◌≡◌, ◌+◌}
use Rattle.plain.proofs.Laws.{sowing}
use Rattle.theory.specs.Limits.{limits}
use Rattle.theory.specs.Places.{table}
use Rattle.plain.proofs.sown.Given as goal

abbrev pub invariant-loop-k : goal.invariant-loop-k
invariant-loop-k l = l.marks ≡ table (limits.numbers + 1) (sowing l.e l.k)
