-- `labels::joined` meets its contract. Assumes nothing.
use Rattle.std.proofs.Common.{◌∙◌, sym}
use Rattle.joining.specs.Layout.{lying}
use Rattle.joining.specs.Places.{filled}
use Rattle.labels.proofs.Candidates.{joins_not, joins_so}
use Rattle.labels.proofs.Stirring.{hushed_offered}
use Rattle.labels.proofs.Walks.{all_late, as_offered, none_offered}
use Rattle.rules.specs.Held.{meaning}
use Rattle.labels.proofs.joined.Goals as goal

pub returns-then-entry-n : goal.returns-then-entry-n
returns-then-entry-n c = none_offered _ _ (filled c.args.pool.now) (joins_not (lying c.args.labels.now.members.now c.args.labels.now.sizes.now) _ (meaning c.args.entry) c.if-entry-n.true)

pub returns-then-not-stirred : goal.returns-then-not-stirred
returns-then-not-stirred c =
    hushed_offered (lying c.args.labels.now.members.now c.args.labels.now.sizes.now) _ (meaning c.args.entry) _ c.args.moved.now (filled c.args.pool.now) c.requires.2 c.if-entry-n.false (sym c.stirred.ensures ∙ c.if-not-stirred.true)

pub returns-then-late : goal.returns-then-late
returns-then-late c = all_late _ _ (filled c.args.pool.now) (sym c.late.ensures ∙ c.if-late.true)

pub returns : goal.returns
returns c = as_offered _ _ _ (filled c.args.pool.now) (filled c.gather.new.pool) (joins_so (lying c.args.labels.now.members.now c.args.labels.now.sizes.now) _ (meaning c.args.entry) c.if-entry-n.false) c.gather.ensures.0
