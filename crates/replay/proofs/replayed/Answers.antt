-- `replay::replayed`: a line lies within the script, its first field within the line. Assumes nothing.
use Rattle.std.proofs.Common.{length, ◌≤◌}
use native.Mathlib.Omega.{arith}
use Rattle.script.proofs.Fields.{field_order, field_within}
use Rattle.script.proofs.Lines.{line_on, line_within}
use Rattle.replay.proofs.replayed.Goals as goal

pub slice_bounds-line-count : goal.slice_bounds-line-count
slice_bounds-line-count c = omega (arith, c.line_end-end.ensures, line_on c.args.bytes.now c.loop-at.at (omega arith))

pub slice_bounds-line-start : goal.slice_bounds-line-start
slice_bounds-line-start c = omega (arith, c.line_end-end.ensures, line_on c.args.bytes.now c.loop-at.at (omega arith), line_within c.args.bytes.now c.loop-at.at)

pub slice_bounds-line-end : goal.slice_bounds-line-end
slice_bounds-line-end c = omega (arith, c.line_end-end.ensures, line_on c.args.bytes.now c.loop-at.at (omega arith), line_within c.args.bytes.now c.loop-at.at)

pub slice_bounds-word-count : goal.slice_bounds-word-count
slice_bounds-word-count c = omega (arith, field_order _ _ _ c.field-first.ensures)

pub slice_bounds-word-start : goal.slice_bounds-word-start
slice_bounds-word-start c = omega (arith, field_order _ _ _ c.field-first.ensures, field_within _ _ _ c.field-first.ensures)

pub slice_bounds-word-end : goal.slice_bounds-word-end
slice_bounds-word-end c = omega (arith, field_order _ _ _ c.field-first.ensures, field_within _ _ _ c.field-first.ensures)

pub slice_bounds-rest-count : goal.slice_bounds-rest-count
slice_bounds-rest-count c = omega (arith, field_within _ _ _ c.field-first.ensures)

pub slice_bounds-rest-start : goal.slice_bounds-rest-start
slice_bounds-rest-start c = omega (arith, field_within _ _ _ c.field-first.ensures)

pub loop-at-smaller : goal.loop-at-smaller
loop-at-smaller c = omega (arith, c.line_end-end.ensures, line_on c.args.bytes.now c.loop-at.at (omega arith), line_within c.args.bytes.now c.loop-at.at)

pub loop-at-preserved : goal.loop-at-preserved
loop-at-preserved c =
    let on : c.loop-at.at ≤ c.line_end-end.result = omega (arith, c.line_end-end.ensures, line_on c.args.bytes.now c.loop-at.at (omega arith)) in
    let within : c.line_end-end.result ≤ length c.args.bytes.now = omega (arith, c.line_end-end.ensures, line_within c.args.bytes.now c.loop-at.at) in
    (omega arith, omega arith)
