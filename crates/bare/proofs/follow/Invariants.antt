-- `bare::follow`: the marks by a stage. Assumes nothing.
use Rattle.std.proofs.Common.{◌≡◌, ◌+◌}
use Rattle.bare.specs.Bare.{barely}
use Rattle.following.specs.First.{up_to}
use Rattle.theory.specs.Limits.{limits}
use Rattle.theory.specs.Places.{table}
use Rattle.bare.proofs.follow.Given as goal

abbrev pub invariant-loop-k : goal.invariant-loop-k
invariant-loop-k l = l.marks ≡ table (limits.numbers + 1) (up_to (barely l.top l.list) l.fn.e l.k)
