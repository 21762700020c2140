-- `labels::drawn` meets its contract. Assumes nothing.
use Rattle.labels.proofs.Drawing.{drawn_fits, drawn_full}
use Rattle.labels.proofs.drawn.Goals as goal

pub returns-then-limit-count : goal.returns-then-limit-count
returns-then-limit-count c = drawn_full c.args.limit c.args.pool.now c.requires c.copy_from_slice.new.self c.if-limit-count.true c.copy_from_slice.ensures.after

pub returns : goal.returns
returns c = drawn_fits c.args.limit c.args.pool.now c.requires c.copy_from_slice-2.new.self c.if-limit-count.false c.copy_from_slice-2.ensures.after
