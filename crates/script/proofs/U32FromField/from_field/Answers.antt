-- A field's decimal number meets its contract. The invariant: the digits from here on, after those that say `value`, make the same number. Assumes nothing.
use Rattle.std.proofs.Common.{arith, sym, ◌∙◌}
use Rattle.script.proofs.Numerals.{numeral_bad, numeral_empty, numeral_end, numeral_large, numeral_more, numeral_start}
use Rattle.script.proofs.U32FromField.from_field.Goals as goal

pub returns-then-is_empty : goal.returns-then-is_empty
returns-then-is_empty c = sym (numeral_empty c.args.field.now (grind arith))

pub loop-b-init : goal.loop-b-init
loop-b-init c = (omega arith, numeral_start c.args.field.now (grind arith))

pub returns-in_err-digit : goal.returns-in_err-digit
returns-in_err-digit c =
    let l = c.loop-b in
    rw c.from_residual.ensures (sym (l.invariant.1 ∙ numeral_bad c.args.field.now l.b-index l.value (omega arith) (λ d. c.in_err-digit.ensures.value (grind arith))))

pub returns-in_err-checked_mul : goal.returns-in_err-checked_mul
returns-in_err-checked_mul c =
    let l = c.loop-b in
    rw c.from_residual-in_err-checked_mul.ensures (sym (l.invariant.1 ∙ numeral_large c.args.field.now l.b-index l.value (omega arith) (grind arith) (grind arith)))

pub returns-in_err-value : goal.returns-in_err-value
returns-in_err-value c =
    let l = c.loop-b in
    rw c.from_residual-in_err-value.ensures (sym (l.invariant.1 ∙ numeral_large c.args.field.now l.b-index l.value (omega arith) (grind arith) (grind arith)))

pub loop-b-preserved : goal.loop-b-preserved
loop-b-preserved c =
    let l = c.loop-b in
    let more = numeral_more c.args.field.now l.b-index l.value (omega arith) (grind arith) in
    (grind arith, grind arith)

pub returns : goal.returns
returns c = let l = c.loop-b in sym (l.invariant.1 ∙ numeral_end c.args.field.now l.b-index l.value (omega arith) l.invariant.0)
