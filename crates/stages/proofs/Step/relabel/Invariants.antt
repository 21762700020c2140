-- `stages::relabel` meets its contract. Assumes nothing.
use Rattle.stages.proofs.Relabels.{Relabelling}
use Rattle.stages.proofs.Step.relabel.Given as goal

abbrev pub invariant-loop-i : goal.invariant-loop-i
invariant-loop-i l = Relabelling l.self.held.now l.self.lists.now.depth l.later.members l.later.sizes l.marks l.hi l.i
