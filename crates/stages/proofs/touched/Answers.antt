-- `stages::touched` meets its contract. Assumes nothing.
use Rattle.std.proofs.Common.{◌<◌, length, refl, sym, ap, ◌∙◌, arith}
use lib.ListN.{length-set}
use Rattle.rules.proofs.Scan.{right_elim}
use Rattle.stages.proofs.Marks.{touched_end, touched_none, touched_passed, touched_stirred}
use Rattle.stages.proofs.Parts.{entry_few, entry_low, entry_ranged, held_many}
use Rattle.rules.proofs.Steps.{beyond}
use Rattle.stages.proofs.touched.Goals as goal
use Rattle.stages.proofs.touched.Goals.{then-stirred, else-stirred}

pub shared_ref_as_front-entry-items : goal.shared_ref_as_front-entry-items
shared_ref_as_front-entry-items c = omega (arith, (right_elim _ c.requires.right).few)

pub loop-entry-init : goal.loop-entry-init
loop-entry-init c = (refl, touched_none _ _ refl)

pub offset_bounds-entry-items-entry-index : goal.offset_bounds-entry-items-entry-index
offset_bounds-entry-items-entry-index c = omega (arith, (right_elim _ c.requires.right).few, held_many _ c.requires, c.loop-entry-test.true)

pub stirred-requires : goal.stirred-requires
stirred-requires c =
    let low : c.loop-entry.entry-index < c.args.held.now.count = omega (arith, held_many _ c.requires, c.loop-entry-test.true) in
    (entry_few _ c.requires c.loop-entry.entry-index _ low, entry_ranged _ c.requires c.loop-entry.entry-index _ low)

pub bounds-marks-entry : goal.bounds-marks-entry
bounds-marks-entry c = omega (arith, entry_low _ c.requires c.loop-entry.entry-index beyond (omega (arith, held_many _ c.requires, c.loop-entry-test.true)))

pub loop-entry-preserved : goal.loop-entry-preserved
loop-entry-preserved c =
    let l = c.loop-entry in
    let low = entry_low _ c.requires l.entry-index beyond (omega (arith, held_many _ c.requires, c.loop-entry-test.true)) in
    elim c.if-stirred.branch [
      | then-stirred w ↦ (ap length w.marks-is ∙ length-set l.marks _ _ ∙ l.invariant.0, touched_stirred _ _ l.entry-index _ c.loop-entry-test.true l.marks l.invariant.1 (omega (arith, low, l.invariant.0)) (sym c.stirred.ensures ∙ w.if-stirred.true) _ w.marks-is)
      | else-stirred w ↦ (ap length w.marks-is ∙ l.invariant.0, touched_passed _ _ l.entry-index _ c.loop-entry-test.true l.marks l.invariant.1 (omega (arith, low, l.invariant.0)) (sym c.stirred.ensures ∙ w.if-stirred.false) _ w.marks-is)
    ]

pub returns : goal.returns
returns c = touched_end _ _ c.loop-entry.entry-index c.loop-entry-test.false c.loop-entry.marks c.loop-entry.invariant.1
