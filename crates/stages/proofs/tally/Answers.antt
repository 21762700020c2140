-- `stages::tally` meets its contract. Assumes nothing.
use Rattle.std.proofs.Common.{◌<◌, refl, ◌∙◌, get_or, take, arith}
use lib.ListN.{length-set}
use Rattle.rules.proofs.Scan.{right_elim}
use Rattle.stages.proofs.Parts.{count_all, count_few, count_none, count_turn, entry_low, held_many}
use Rattle.rules.proofs.Steps.{beyond}
use Rattle.stages.proofs.tally.Goals as goal

pub shared_ref_as_front-entry-items : goal.shared_ref_as_front-entry-items
shared_ref_as_front-entry-items c = omega (arith, (right_elim _ c.requires.right).few)

pub loop-entry-init : goal.loop-entry-init
loop-entry-init c = (refl, count_none _)

pub offset_bounds-entry-items-entry-index : goal.offset_bounds-entry-items-entry-index
offset_bounds-entry-items-entry-index c = omega (arith, (right_elim _ c.requires.right).few, held_many _ c.requires, c.loop-entry-test.true)

pub bounds-tallies-entry : goal.bounds-tallies-entry
bounds-tallies-entry c = omega (arith, entry_low _ c.requires c.loop-entry.entry-index beyond (omega (arith, held_many _ c.requires, c.loop-entry-test.true)))

pub overflow_add-tallies : goal.overflow_add-tallies
overflow_add-tallies c =
    let l = c.loop-entry in
    omega (arith, count_few _ c.requires l.entry-index l.tallies l.invariant.1 (get_or (take c.args.held.now.count c.args.held.now.entries) l.entry-index beyond).consequent (entry_low _ c.requires l.entry-index beyond (omega (arith, held_many _ c.requires, c.loop-entry-test.true))))

pub bounds-tallies-entry-in-loop-entry : goal.bounds-tallies-entry-in-loop-entry
bounds-tallies-entry-in-loop-entry c = omega (arith, entry_low _ c.requires c.loop-entry.entry-index beyond (omega (arith, held_many _ c.requires, c.loop-entry-test.true)))

pub loop-entry-preserved : goal.loop-entry-preserved
loop-entry-preserved c =
    let l = c.loop-entry in
    let low : l.entry-index < c.args.held.now.count = omega (arith, held_many _ c.requires, c.loop-entry-test.true) in
    (length-set l.tallies _ _ ∙ l.invariant.0, count_turn _ c.requires l.entry-index _ low l.tallies l.invariant.0 (entry_low _ c.requires l.entry-index _ low) l.invariant.1)

pub returns : goal.returns
returns c = count_all _ c.requires c.loop-entry.entry-index (omega (arith, held_many _ c.requires, c.loop-entry-test.false)) _ c.loop-entry.invariant.0 c.loop-entry.invariant.1
