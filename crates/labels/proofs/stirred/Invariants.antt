-- `labels::stirred` meets its contract. Assumes nothing.
use Rattle.std.proofs.Common.{◌≡◌, drop}
use Rattle.labels.specs.Moved.{marked, stirs}
use Rattle.theory.specs.Lists.{some_of}
use Rattle.labels.proofs.stirred.Given as goal

abbrev pub invariant-loop-s : goal.invariant-loop-s
invariant-loop-s l = stirs l.moved l.s-items ≡ some_of (marked l.moved) (drop l.s-index l.s-items)
