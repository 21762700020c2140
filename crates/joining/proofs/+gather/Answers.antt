-- `joining::gather` meets its contract: its measure is the number of supports left. Assumes nothing.
use Rattle.std.proofs.Common.{◌≤◌, ◌∙◌, length, sym, subst, arith}
use Rattle.std.proofs.lemmas.List.{nil_from_length}
use lib.Seq.{length-take-le}
use Rattle.theory.specs.Limits.{limits}
use Rattle.joining.proofs.Gathers.{gather_barred, gather_end}
use Rattle.joining.proofs.Loops.{turn_late, turn_passed, turn_visited, turning_end, turning_none}
use Rattle.joining.proofs.Lying.{left_ranged, lying_few}
use Rattle.joining.specs.Layout.{lying}
use Rattle.joining.specs.Places.{filled}
use Rattle.joining.specs.Pool.{Barred}
use Rattle.joining.proofs.+gather.Goals as goal

pub returns-in-Some : goal.returns-in-Some
returns-in-Some t c = gather_barred c.args.struck.now (lying c.args.labels.now.members.now c.args.labels.now.sizes.now) c.args.supports.now c.args.joined (filled c.args.pool.now) c.in-Some.bar (subst (Barred c.args.struck.now (filled c.args.pool.now).sets c.args.joined) c.in-Some.is c.barred.ensures)

pub returns-in_default-split_first : goal.returns-in_default-split_first
returns-in_default-split_first t c =
    gather_end c.args.struck.now (lying c.args.labels.now.members.now c.args.labels.now.sizes.now) c.args.supports.now c.args.joined (filled c.args.pool.now)
    (subst (Barred c.args.struck.now (filled c.args.pool.now).sets c.args.joined) c.in_default.is c.barred.ensures)
    c.args.pool.now.well c.requires.1 (nil_from_length c.args.supports.now c.in_default-split_first.ensures.cases) (filled c.enter.new.self) c.enter.ensures

pub loop-member-init : goal.loop-member-init
loop-member-init t c =
    let room : length c.of-member-items.result.now ≤ limits.label = subst (λ l. length l ≤ limits.label) (sym c.of-member-items.ensures) (lying_few c.args.labels.now.members.now c.args.labels.now.sizes.now c.args.labels.now.layout c.in-Some-split_first.first.now) in
    turning_none _ _ _ _ _ _ c.args.pool.now.well room 0

pub loop-member-preserved-then-late : goal.loop-member-preserved-then-late
loop-member-preserved-then-late t c =
    let l = c.loop-member in
    turn_late _ _ _ _ _ _ (filled l.pool) l.member-index l.spent l.n l.why l.invariant c.loop-member-test.true _ c.union-g.ensures (sym c.late.ensures ∙ c.if-late.true) _ c.union-why.ensures

pub slice_bounds-spent-end : goal.slice_bounds-spent-end
slice_bounds-spent-end t c = let i = c.loop-member.invariant in omega (arith, i.few, i.long, i.short, c.loop-member-test.true)

pub slice_bounds-first_within-end : goal.slice_bounds-first_within-end
slice_bounds-first_within-end t c = let i = c.loop-member.invariant in sym (length-take-le c.loop-member.n c.loop-member.spent (omega (arith, i.few, i.long, i.short, c.loop-member-test.true)))

pub loop-member-preserved-then-is_some : goal.loop-member-preserved-then-is_some
loop-member-preserved-then-is_some t c =
    let l = c.loop-member in
    turn_passed _ _ _ _ _ _ (filled l.pool) l.member-index l.spent l.n l.why l.invariant c.loop-member-test.true _ c.union-g.ensures _ c.first_within.ensures (sym c.is_some.ensures ∙ c.if-is_some.true)

pub gather-within-requires : goal.gather-within-requires
gather-within-requires t c =
    (omega (arith, c.in-Some-split_first.ensures.cases.1), (left_ranged c.in-Some-split_first.ensures.cases.0 c.requires.0, sym c.late.ensures ∙ c.if-late.false))

pub bounds-spent-n : goal.bounds-spent-n
bounds-spent-n t c = let i = c.loop-member.invariant in omega (arith, i.few, i.long, i.short, c.loop-member-test.true)

pub loop-member-preserved : goal.loop-member-preserved
loop-member-preserved t c =
    let l = c.loop-member in
    turn_visited _ _ _ _ _ _ (filled l.pool) l.member-index l.spent l.n l.why l.invariant c.loop-member-test.true _ c.union-g.ensures _ _ (c.gather-within.ensures.0, c.gather-within.ensures.1) _ c.union-why-in-loop-member.ensures _ c.meet.ensures

pub returns : goal.returns
returns t c =
    let l = c.loop-member in
    turning_end _ _ _ _ _ _ (filled l.pool) l.member-index l.spent l.n l.why l.invariant c.loop-member-test.false _ c.of-member-items.ensures c.args.supports.now c.in-Some-split_first.ensures.cases.0
