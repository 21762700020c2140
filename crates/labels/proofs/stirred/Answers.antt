-- `labels::stirred` meets its contract. Assumes nothing.
use Rattle.labels.proofs.Stirring.{stirs_first, stirs_here, stirs_none, stirs_on, stirs_rest}
use Rattle.labels.proofs.stirred.Goals as goal

pub returns-then-moved-ne0 : goal.returns-then-moved-ne0
returns-then-moved-ne0 c = stirs_first _ _ c.if-moved-ne0.true

pub loop-s-init : goal.loop-s-init
loop-s-init c = stirs_rest _ _ c.if-moved-ne0.false

pub returns-then-moved-s-ne0 : goal.returns-then-moved-s-ne0
returns-then-moved-s-ne0 c = stirs_here _ _ c.loop-s.s-index c.loop-s.invariant c.loop-s-test.true c.if-moved-s-ne0.true

pub loop-s-preserved : goal.loop-s-preserved
loop-s-preserved c = stirs_on _ _ c.loop-s.s-index c.loop-s.invariant c.loop-s-test.true c.if-moved-s-ne0.false

pub returns : goal.returns
returns c = stirs_none _ _ c.loop-s.s-index c.loop-s.invariant c.loop-s-test.false
