-- `joining::gather` meets its contract: its measure is the number of supports left. Assumes nothing.
use Rattle.std.proofs.Common.{length}
use Rattle.joining.proofs.Loops.{Turning}
use Rattle.joining.specs.Layout.{lying}
use Rattle.joining.specs.Places.{filled}
use Rattle.joining.proofs.+gather.Given as goal

-- the supports left
abbrev pub decreases-gather : goal.decreases-gather
decreases-gather l = length l.supports.now

abbrev pub invariant-loop-member : goal.invariant-loop-member
invariant-loop-member l = Turning l.struck (lying l.labels.members.now l.labels.sizes.now) l.member-items l.left l.joined (filled l.initial.pool) (filled l.pool) l.member-index l.spent l.n l.why
