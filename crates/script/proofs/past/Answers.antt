-- `script::past` meets its contract. The invariant: looking from `i` on gives the same place. Assumes nothing.
use Rattle.std.proofs.Common.{arith, sym, ◌∙◌}
use Rattle.script.proofs.Places.{past_end, past_here, past_more}
use Rattle.script.proofs.past.Goals as goal

pub returns-then-not-passes : goal.returns-then-not-passes
returns-then-not-passes g c = λ p h. sym (c.loop-i.invariant.1 p h ∙ past_here p c.args.bytes.now c.loop-i.i (omega arith) (let e = h _ _ c.passes.ensures in grind arith))

pub loop-i-preserved : goal.loop-i-preserved
loop-i-preserved g c = (c.loop-i.invariant.0, λ p h. c.loop-i.invariant.1 p h ∙ past_more p c.args.bytes.now c.loop-i.i (omega arith) (let e = h _ _ c.passes.ensures in grind arith))

pub returns : goal.returns
returns g c = λ p h. sym (c.loop-i.invariant.1 p h ∙ past_end p c.args.bytes.now c.loop-i.i (omega arith))
