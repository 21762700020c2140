-- `labels::pooled` meets its contract. Assumes nothing.
use Rattle.joining.specs.Layout.{lying}
use Rattle.joining.specs.Places.{filled}
use Rattle.labels.proofs.Candidates.{joins_on, joins_over}
use Rattle.labels.proofs.Ranges.{one_hushed}
use Rattle.labels.proofs.Walks.{hushed_stays, left_end, left_turn}
use Rattle.labels.proofs.pooled.Goals as goal

pub joined-requires : goal.joined-requires
joined-requires c =
    let l = c.loop-entry in
    (c.requires.0.few l.entry-index _ c.loop-entry-test.true, c.requires.0.ranged l.entry-index _ c.loop-entry-test.true, one_hushed c.args.rules.now l.entry-index _ c.loop-entry-test.true _ _ _ _ _ l.invariant.hushed)

pub loop-entry-preserved : goal.loop-entry-preserved
loop-entry-preserved c =
    let l = c.loop-entry in record {
      left = left_turn _ _ _ _ _ _ (filled l.pool) (filled c.joined.new.pool) l.invariant.left (joins_on (lying c.args.labels.now.members.now c.args.labels.now.sizes.now) _ c.args.rules.now l.entry-index _ c.loop-entry-test.true) c.joined.ensures;
      hushed = hushed_stays _ _ (filled l.pool) (filled c.joined.new.pool) l.pool.well c.joined.ensures _ _ _ _ l.invariant.hushed;
    }

pub returns : goal.returns
returns c = left_end _ _ _ _ _ c.loop-entry.invariant.left (joins_over (lying c.args.labels.now.members.now c.args.labels.now.sizes.now) _ c.args.rules.now c.loop-entry.entry-index c.loop-entry-test.false)
