-- `script::read_all` meets its contract. The invariant: what is left to read from place `at` on, after `count` fields, gives the answer. Assumes nothing.
use Rattle.std.proofs.Common.{arith}
use Rattle.script.proofs.Fields.{field_inside}
use Rattle.script.proofs.Reading.{mid_bad, mid_end, mid_full, mid_more, mid_start}
use Rattle.script.proofs.read_all.Goals as goal

pub loop-from-init : goal.loop-from-init
loop-from-init g c = let a = c.args in mid_start g.T.FromField.reading a.line.now a.from a.out.now

pub returns-then-start-end : goal.returns-then-start-end
returns-then-start-end g c = mid_end c.loop-from.invariant c.field-span.ensures c.if-start-end.true

pub slice_bounds-from_field-count : goal.slice_bounds-from_field-count
slice_bounds-from_field-count g c = omega (arith, field_inside c.args.line.now c.loop-from.at c.field-span.result c.field-span.ensures c.if-start-end.false)

pub slice_bounds-from_field-start : goal.slice_bounds-from_field-start
slice_bounds-from_field-start g c = omega (arith, field_inside c.args.line.now c.loop-from.at c.field-span.result c.field-span.ensures c.if-start-end.false)

pub slice_bounds-from_field-end : goal.slice_bounds-from_field-end
slice_bounds-from_field-end g c = omega (arith, field_inside c.args.line.now c.loop-from.at c.field-span.result c.field-span.ensures c.if-start-end.false)

pub returns-in_err-said : goal.returns-in_err-said
returns-in_err-said g c = rw c.from_residual.ensures (mid_bad c.loop-from.invariant c.field-span.ensures c.if-start-end.false c.in_err-said.ensures)

pub returns-then-count-out : goal.returns-then-count-out
returns-then-count-out g c = mid_full c.loop-from.invariant c.field-span.ensures c.if-start-end.false c.in_ok-said.ensures c.if-count-out.true

pub loop-from-smaller : goal.loop-from-smaller
loop-from-smaller g c = omega (arith, field_inside c.args.line.now c.loop-from.at c.field-span.result c.field-span.ensures c.if-start-end.false)

pub loop-from-preserved : goal.loop-from-preserved
loop-from-preserved g c = mid_more c.loop-from.invariant c.field-span.ensures c.if-start-end.false c.in_ok-said.ensures c.if-count-out.false
