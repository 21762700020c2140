-- `joining::pool::squeeze` meets its contract. Assumes nothing.
use Rattle.std.proofs.Common.{refl, arith, ◌∙◌, sym, length-take, ◌<◌, length, ◌≡◌}
use Rattle.joining.proofs.Pools.{squeeze_end, squeeze_keep, squeeze_last, squeeze_swap}
use Rattle.joining.proofs.pool.squeeze.Goals as goal
use Rattle.joining.proofs.pool.squeeze.Goals.{then-before-2, else-before-2}

pub returns-then-before : goal.returns-then-before
returns-then-before c = squeeze_last c.args.list.now c.args.count c.args.e c.requires.0 c.requires.1 c.if-count-gt0.true _ c.before-then-count-gt0.ensures c.if-before.true

pub loop-x-init : goal.loop-x-init
loop-x-init c = refl

pub loop-x-preserved : goal.loop-x-preserved
loop-x-preserved c =
    let l = c.loop-x in
    let h : l.x-index < length l.x-items = omega (arith, c.loop-x-test.true, l.auto.x-items) in
    elim c.if-before-2.branch [
      | then-before-2 w ↦ squeeze_swap _ l.x-items l.carried l.x-index l.invariant h (sym c.before-in-loop-x.ensures ∙ w.if-before-2.true) _ _ _ _ w.x-items-is w.swap.ensures.x_after w.carried-is w.swap.ensures.y_after
      | else-before-2 w ↦ squeeze_keep _ l.x-items l.carried l.x-index l.invariant h (sym c.before-in-loop-x.ensures ∙ w.if-before-2.false) _ _ w.x-items-is w.carried-is
    ]

pub returns : goal.returns
returns c =
    let l = c.loop-x in
    let long : length l.x-items ≡ c.args.count = omega (arith, c.requires.0, l.auto.x-items, length-take c.args.count c.args.list.now) in
    squeeze_end _ l.x-items l.carried l.x-index l.invariant (omega (arith, c.loop-x-test.false, l.auto.x-items)) c.args.count long _
