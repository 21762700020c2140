-- `stages::strike` meets its contract. Assumes nothing.
use Rattle.std.proofs.Common.{◌∙◌, ap, not, arith}
use Rattle.stages.proofs.Spared.{left_all, left_came, left_more, left_none, left_on, left_room}
use Rattle.stages.proofs.strike.Goals as goal
use Rattle.stages.proofs.strike.Goals.{else-is_none, then-is_none}

pub loop-e-init : goal.loop-e-init
loop-e-init c = left_none _ _

pub offset_bounds-sets-count : goal.offset_bounds-sets-count
offset_bounds-sets-count c = omega (arith, left_room _ _ _ _ _ c.loop-e.invariant c.loop-e-test.true c.requires)

pub bounds-sets-count : goal.bounds-sets-count
bounds-sets-count c = omega (arith, left_room _ _ _ _ _ c.loop-e.invariant c.loop-e-test.true c.requires)

pub overflow_add-count : goal.overflow_add-count
overflow_add-count c = omega (arith, left_room _ _ _ _ _ c.loop-e.invariant c.loop-e-test.true c.requires)

pub loop-e-preserved : goal.loop-e-preserved
loop-e-preserved c =
    let l = c.loop-e in
    let a = c.args in
    elim c.if-is_none.branch [
      | then-is_none w ↦ left_came a.list.now a.struck.now _ w.sets-is w.count-is (left_more a.list.now a.struck.now l.sets l.count l.e-index l.invariant c.loop-e-test.true _ c.first_within.ensures c.requires (c.is_none.ensures ∙ ap not w.if-is_none.true))
      | else-is_none w ↦ left_came a.list.now a.struck.now _ w.sets-is w.count-is (left_on a.list.now a.struck.now l.sets l.count l.e-index l.invariant c.loop-e-test.true _ c.first_within.ensures (c.is_none.ensures ∙ ap not w.if-is_none.false))
    ]

pub returns : goal.returns
returns c = left_all _ _ _ _ _ c.loop-e.invariant c.loop-e-test.false
