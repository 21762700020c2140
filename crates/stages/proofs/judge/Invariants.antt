-- `stages::judge` meets its contract. Assumes nothing.
use Rattle.std.proofs.Common.{◌≡◌, ◌+◌, ◌-◌}
use Rattle.rules.specs.Held.{said_by}
use Rattle.stages.proofs.Walk.{from_stage, most}
use Rattle.stages.specs.Steps.{Fresh, Reached}
use Rattle.theory.specs.Judge.{judge}
use Rattle.theory.specs.Limits.{limits}
use Rattle.stages.proofs.judge.Given as goal

abbrev pub invariant-loop-lists : goal.invariant-loop-lists
invariant-loop-lists l = record {
  reached : Reached l.held l.lists;
  course : judge limits l.held.assumptions (l.held.assumptions + l.held.claims) (said_by l.held) ≡ from_stage l.held l.lists.depth;
  fresh : Fresh l.held l.lists.depth l.moved;
  same : l.later ≡ l.lists;
}

abbrev pub decreases-loop-lists : goal.decreases-loop-lists
decreases-loop-lists l = most l.held - l.lists.depth
