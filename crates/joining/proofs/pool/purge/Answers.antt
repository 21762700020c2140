-- `joining::pool::purge` meets its contract. Assumes nothing.
use Rattle.std.proofs.Common.{arith, ap, not, ◌∙◌, ◌≤◌, length}
use mir.Val.{bool_byte}
use Rattle.joining.proofs.Pools.{purge_end, purge_low, purge_turn}
use Rattle.joining.proofs.pool.purge.Goals as goal

pub loop-i-preserved : goal.loop-i-preserved
loop-i-preserved c =
    let l = c.loop-i in
    let room : c.args.count ≤ length l.list = omega (arith, c.requires, l.auto.list) in
    let e = c.from-kept.ensures ∙ ap (λ b. bool_byte (not b)) c.within.ensures in
    (purge_low c.args.e _ l.list c.args.count l.kept l.i room l.invariant.1 l.invariant.0 _ e, purge_turn c.args.e _ l.list c.args.count l.kept l.i room l.invariant.1 l.invariant.0 c.loop-i-test.true _ e)

pub returns : goal.returns
returns c = let l = c.loop-i in (omega arith, purge_end c.args.e _ l.list c.args.count l.kept l.i (omega (arith, c.requires, l.auto.list)) l.invariant.1 l.invariant.0 (omega arith))
