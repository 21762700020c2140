-- `rises` meets its contract. The loop: the list rises and has no n if the last number is at most the top and the rest rises from it and has none. Assumes nothing.
use mathlib.Core.Path.{◌∙◌, sym}
use native.Mathlib.Omega.{arith}
use Rattle.rules.proofs.Steps.{rises_end, rises_low, rises_more, rises_own, rises_start}
use Rattle.rules.proofs.lists.rises.Goals as goal
use Rattle.rules.proofs.lists.rises.Goals.{then-x-last-via-then-x-last, then-x-last-via-else-x-last+then-x-n}

pub loop-x-init : goal.loop-x-init
loop-x-init c = let a = c.args in (omega arith, rises_start a.top 0 a.l.now 0 _)

pub returns-then-x-last : goal.returns-then-x-last
returns-then-x-last c =
    let l = c.loop-x in
    let a = c.args in
    elim c.then-x-last.branch [
      | then-x-last-via-then-x-last w ↦ sym (l.invariant.1 ∙ rises_low a.top l.last a.l.now l.x-index a.n (omega arith) w.if-x-last.true)
      | then-x-last-via-else-x-last+then-x-n w ↦ sym (l.invariant.1 ∙ rises_own a.top l.last a.l.now l.x-index a.n (omega arith) w.if-x-n.true)
    ]

pub loop-x-preserved : goal.loop-x-preserved
loop-x-preserved c = let l = c.loop-x in let a = c.args in (omega (arith, c.type_inv.l l.x-index), l.invariant.1 ∙ rises_more a.top l.last a.l.now l.x-index a.n (omega arith) (omega (arith, c.if-x-last.false)) c.if-x-n.false)

pub returns : goal.returns
returns c = let l = c.loop-x in let a = c.args in sym (l.invariant.1 ∙ rises_end a.top l.last a.l.now l.x-index a.n (omega arith))
