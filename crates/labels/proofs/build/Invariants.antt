-- `labels::build` meets its contract. Assumes nothing.
use Rattle.std.proofs.Common.{◌-◌, map, length}
use Rattle.joining.specs.Layout.{lying}
use Rattle.joining.specs.Places.{filled}
use Rattle.labels.proofs.Rounds.{Rounding}
use Rattle.rules.specs.Held.{meaning}
use Rattle.theory.specs.Step.{joins_for}
use Rattle.labels.proofs.build.Given as goal

abbrev pub invariant-loop-pool : goal.invariant-loop-pool
invariant-loop-pool l = Rounding l.struck l.old (joins_for (lying l.labels.members.now l.labels.sizes.now) l.n (map meaning l.rules)) l.limit (filled l.pool)

abbrev pub decreases-loop-pool : goal.decreases-loop-pool
decreases-loop-pool l = l.limit - length (filled l.pool).sets
