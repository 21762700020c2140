-- `labels::pour` meets its contract. Assumes nothing.
use Rattle.std.proofs.Common.{◌∙◌, sym}
use lib.ListN.{drop_of_length-le}
use Rattle.joining.specs.Layout.{lying}
use Rattle.joining.specs.Places.{filled}
use Rattle.labels.proofs.Walks.{alone_offered, late_offered, left_end, left_turn, list_on}
use Rattle.labels.proofs.pour.Goals as goal

pub loop-e-preserved-then-late : goal.loop-e-preserved-then-late
loop-e-preserved-then-late c =
    let l = c.loop-e in
    left_turn _ _ _ _ _ _ _ (filled l.pool) l.invariant (list_on _ l.e-index c.loop-e-test.true) (late_offered _ _ (filled l.pool) (sym c.late.ensures ∙ c.if-late.true))

pub loop-e-preserved : goal.loop-e-preserved
loop-e-preserved c =
    let l = c.loop-e in
    left_turn _ _ _ _ _ _ (filled l.pool) (filled c.gather.new.pool) l.invariant (list_on _ l.e-index c.loop-e-test.true)
    (alone_offered _ (lying c.args.labels.now.members.now c.args.labels.now.sizes.now) _ (filled l.pool) (filled c.gather.new.pool) c.gather.ensures.0)

pub returns : goal.returns
returns c = left_end _ _ _ _ _ c.loop-e.invariant (drop_of_length-le _ {i = c.loop-e.e-index} c.loop-e-test.false)
