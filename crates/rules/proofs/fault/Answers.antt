-- `fault` meets its contract: the refusals in their order. Assumes nothing.
use mathlib.Core.Path.{◌∙◌, ap, sym}
use Rattle.replies.specs.Replies.{checked}
use Rattle.rules.proofs.Faults.{fault_above, fault_head, fault_many, fault_none, fault_own, fault_zero}
use Rattle.rules.proofs.fault.Goals as goal

pub returns-then-supports-gt-SUPPORTS : goal.returns-then-supports-gt-SUPPORTS
unfolding checked
returns-then-supports-gt-SUPPORTS c = ap checked (fault_many _ _ _ c.if-supports-gt-SUPPORTS.true)

pub returns-then-highest-consequent : goal.returns-then-highest-consequent
unfolding checked
returns-then-highest-consequent c = ap checked (fault_head _ _ _ c.if-supports-gt-SUPPORTS.false c.if-highest-consequent.true)

pub returns-then-over : goal.returns-then-over
unfolding checked
returns-then-over c = ap checked (fault_above _ _ _ c.if-supports-gt-SUPPORTS.false c.if-highest-consequent.false (sym c.over.ensures ∙ c.if-over.true))

pub returns-then-has : goal.returns-then-has
unfolding checked
returns-then-has c = ap checked (fault_zero _ _ _ c.if-supports-gt-SUPPORTS.false c.if-highest-consequent.false (sym c.over.ensures ∙ c.if-over.false) (sym c.has.ensures ∙ c.if-has.true))

pub returns-then-has-2 : goal.returns-then-has-2
unfolding checked
returns-then-has-2 c =
    ap checked (fault_own _ _ _ c.if-supports-gt-SUPPORTS.false c.if-highest-consequent.false (sym c.over.ensures ∙ c.if-over.false) (sym c.has.ensures ∙ c.if-has.false)
    (sym c.has-2.ensures ∙ c.if-has-2.true))

pub returns : goal.returns
unfolding checked
returns c =
    ap checked (fault_none _ _ _ c.if-supports-gt-SUPPORTS.false c.if-highest-consequent.false (sym c.over.ensures ∙ c.if-over.false) (sym c.has.ensures ∙ c.if-has.false)
    (sym c.has-2.ensures ∙ c.if-has-2.false))
