-- `stages::relabel` meets its contract. Assumes nothing.
use Rattle.std.proofs.Common.{◌≡◌, ℕ, ◌+◌, ◌≤◌, get_or, length, ap, sym, ◌∙◌, List, [], arith}
use Rattle.joining.proofs.Lying.{lying_few}
use Rattle.labels.specs.Promised.{placed_list}
use Rattle.labels.specs.declared.Built.{Built}
use Rattle.rules.specs.Held.{said_by}
use Rattle.stages.proofs.Keeps.{label_kept}
use Rattle.stages.proofs.Marks.{label_still}
use Rattle.stages.proofs.Nexts.{built_is, built_over, label_built, over_at}
use Rattle.stages.proofs.Parts.{first_on, part_is, part_joinable, tally_end, tally_inside, tally_low, tally_on, wide}
use Rattle.stages.proofs.Relabels.{old_is, relabelling_end, relabelling_kept, relabelling_none, relabelling_put}
use Rattle.stages.proofs.Spared.{struck_is, struck_short}
use Rattle.stages.proofs.Stages.{layout, members_are, room_short, sizes_are}
use Rattle.stages.specs.Steps.{stage_by}
use Rattle.stages.specs.declared.Lists.{Lists}
use Rattle.theory.proofs.Judgement.{stage_length}
use Rattle.theory.specs.Limits.{limits}
use Rattle.stages.proofs.Step.relabel.Goals as goal

counted : (X : List ℕ) (b : Built) → b ≡ placed_list X → b.count ≡ length X
unfolding placed_list
counted X b e = ap (λ (x : Built). x.count) e

pub loop-i-init : goal.loop-i-init
loop-i-init c =
    let p = c.args.self.now in
    let r = c.requires in
    relabelling_none _ _ _ _ _ _ r.4 (first_on _ p.reached.judgeable _ p.counted)
    (ap (λ (x : Lists). x.sizes) r.3 ∙ sizes_are _ _ p.reached.room c.args.self.now.lists.now p.reached.is) (ap (λ (x : Lists). x.members) r.3 ∙ members_are _ _ p.reached.room c.args.self.now.lists.now p.reached.is)

pub overflow_add-hi-in-loop-i : goal.overflow_add-hi-in-loop-i
overflow_add-hi-in-loop-i c =
    let p = c.args.self.now in
    let r = c.requires in
    let l = c.loop-i in
    omega (arith, tally_low _ p.reached.judgeable _ p.counted (l.i + 1) l.hi (omega (arith, wide _ p.reached.judgeable, c.loop-i-test.true)) l.invariant.part)

pub invariant_of-labels : goal.invariant_of-labels
invariant_of-labels c = record { layout = layout _ _ c.args.self.now.reached.room c.args.self.now.lists.now c.args.self.now.reached.is }

pub offset_bounds-held-lo : goal.offset_bounds-held-lo
offset_bounds-held-lo c =
    let p = c.args.self.now in
    let r = c.requires in
    let l = c.loop-i in
    omega (arith, tally_low _ p.reached.judgeable _ p.counted (l.i + 1) l.hi (omega (arith, wide _ p.reached.judgeable, c.loop-i-test.true)) l.invariant.part)

pub slice_bounds-build-end : goal.slice_bounds-build-end
slice_bounds-build-end c =
    let p = c.args.self.now in
    let r = c.requires in
    let l = c.loop-i in
    omega (arith, tally_low _ p.reached.judgeable _ p.counted (l.i + 1) l.hi (omega (arith, wide _ p.reached.judgeable, c.loop-i-test.true)) l.invariant.part)

pub build-requires : goal.build-requires
build-requires c =
    let p = c.args.self.now in
    let r = c.requires in
    let h = c.args.self.now.held.now in
    let l = c.loop-i in
    let top : l.i + 1 ≤ limits.numbers = omega (arith, wide h p.reached.judgeable, c.loop-i-test.true) in
    let hi = l.hi + get_or c.args.self.now.tallies.now (l.i + 1) 0 in (
      part_joinable h p.reached.judgeable l.hi hi (tally_inside h p.reached.judgeable _ p.counted (l.i + 1) l.hi top l.invariant.part),
      omega arith,
      label_still h c.args.self.now.lists.now p.reached _ p.fresh (l.i + 1) (omega (arith, c.loop-i-test.true)) _ (part_is h p.reached.judgeable (l.i + 1) l.hi hi l.invariant.part (tally_end h p.reached.judgeable _ p.counted (l.i + 1) l.hi top l.invariant.part)) _ _ r.0 c.of-old.ensures,
    )

pub returns-in_default : goal.returns-in_default
returns-in_default c =
    let p = c.args.self.now in
    let r = c.requires in
    let h = c.args.self.now.held.now in
    let l = c.loop-i in
    let n = stage_length h.assumptions (h.assumptions + h.claims) (said_by h) (c.args.self.now.lists.now.depth + 1) in
    let b = label_built h c.args.self.now.lists.now p.reached c.args.self.now.tallies.now p.counted _ r.0 l.i l.hi c.loop-i-test.true l.invariant.part _ c.of-old.ensures _ c.build.ensures in
    over_at h c.args.self.now.lists.now.depth l.i l.invariant.short (omega (arith, c.loop-i-test.true))
    (built_over limits.label (get_or (stage_by h (c.args.self.now.lists.now.depth + 1)).labels l.i []) _ (sym c.in_default.is ∙ b)) _ _ _

pub put-requires : goal.put-requires
put-requires c =
    let p = c.args.self.now in
    let r = c.requires in
    let h = c.args.self.now.held.now in
    let l = c.loop-i in
    let b = built_is limits.label (get_or (stage_by h (c.args.self.now.lists.now.depth + 1)).labels l.i []) c.in-Ok.label
    (sym c.in-Ok.is ∙ label_built h c.args.self.now.lists.now p.reached c.args.self.now.tallies.now p.counted _ r.0 l.i l.hi c.loop-i-test.true l.invariant.part _ c.of-old.ensures _ c.build.ensures) in
    (omega (arith, b.0, counted _ _ b.1), omega (arith, wide h p.reached.judgeable, c.loop-i-test.true))

pub loop-i-preserved-then-stale-at-ne0 : goal.loop-i-preserved-then-stale-at-ne0
loop-i-preserved-then-stale-at-ne0 c =
    let p = c.args.self.now in
    let r = c.requires in
    let h = c.args.self.now.held.now in
    let l = c.loop-i in
    let w = wide h p.reached.judgeable in
    let b = built_is limits.label (get_or (stage_by h (c.args.self.now.lists.now.depth + 1)).labels l.i []) c.in-Ok.label
    (sym c.in-Ok.is ∙ label_built h c.args.self.now.lists.now p.reached c.args.self.now.tallies.now p.counted _ r.0 l.i l.hi c.loop-i-test.true l.invariant.part _ c.of-old.ensures _ c.build.ensures) in
    relabelling_put h c.args.self.now.lists.now.depth _ _ _ l.hi l.i l.invariant w c.loop-i-test.true _ (tally_on h p.reached.judgeable _ p.counted (l.i + 1) l.hi (omega (arith, w, c.loop-i-test.true)) l.invariant.part) c.in-Ok.label b.1 b.0 _
    (old_is h c.args.self.now.lists.now p.reached l.i c.loop-i-test.true _ c.of-old.ensures) _ _ _ c.put.ensures

pub loop-i-preserved-then-not-news : goal.loop-i-preserved-then-not-news
loop-i-preserved-then-not-news c =
    let p = c.args.self.now in
    let r = c.requires in
    let h = c.args.self.now.held.now in
    let l = c.loop-i in
    let w = wide h p.reached.judgeable in
    relabelling_kept h c.args.self.now.lists.now.depth _ _ _ l.hi l.i l.invariant w c.loop-i-test.true _ (tally_on h p.reached.judgeable _ p.counted (l.i + 1) l.hi (omega (arith, w, c.loop-i-test.true)) l.invariant.part)
    (label_kept h p.reached.judgeable c.args.self.now.lists.now.depth _ r.1 l.i c.loop-i-test.true c.if-stale-at-ne0.false (r.2 c.if-not-news.true)) (room_short _ p.reached.room l.i)

pub strike-requires : goal.strike-requires
strike-requires c = omega (arith, ap length c.of-old.ensures, lying_few _ _ (layout _ _ c.args.self.now.reached.room c.args.self.now.lists.now c.args.self.now.reached.is) (c.loop-i.i + 1))

pub put-requires-in-loop-i : goal.put-requires-in-loop-i
put-requires-in-loop-i c =
    let p = c.args.self.now in
    let r = c.requires in
    let h = c.args.self.now.held.now in
    let l = c.loop-i in
    let e = c.strike.ensures ∙ struck_is h c.args.self.now.lists.now p.reached _ r.1 l.i c.loop-i-test.true c.if-stale-at-ne0.false _ r.0 _ c.of-old.ensures in
    (omega (arith, counted _ _ e, struck_short h c.args.self.now.lists.now p.reached _ r.1 l.i c.loop-i-test.true c.if-stale-at-ne0.false), omega (arith, wide h p.reached.judgeable, c.loop-i-test.true))

pub loop-i-preserved : goal.loop-i-preserved
loop-i-preserved c =
    let p = c.args.self.now in
    let r = c.requires in
    let h = c.args.self.now.held.now in
    let l = c.loop-i in
    let w = wide h p.reached.judgeable in
    let e = c.strike.ensures ∙ struck_is h c.args.self.now.lists.now p.reached _ r.1 l.i c.loop-i-test.true c.if-stale-at-ne0.false _ r.0 _ c.of-old.ensures in
    relabelling_put h c.args.self.now.lists.now.depth _ _ _ l.hi l.i l.invariant w c.loop-i-test.true _ (tally_on h p.reached.judgeable _ p.counted (l.i + 1) l.hi (omega (arith, w, c.loop-i-test.true)) l.invariant.part) c.strike.result e
    (struck_short h c.args.self.now.lists.now p.reached _ r.1 l.i c.loop-i-test.true c.if-stale-at-ne0.false) _ (old_is h c.args.self.now.lists.now p.reached l.i c.loop-i-test.true _ c.of-old.ensures) _ _ _ c.put-in-loop-i.ensures

pub returns : goal.returns
returns c = relabelling_end _ _ _ _ _ _ _ c.loop-i.invariant c.loop-i-test.false
