-- A field's hex byte meets its contract. Assumes nothing.
use Rattle.std.proofs.Common.{arith, ap, ap₂, sym, ◌∙◌}
use Rattle.std.specs.Prelude.{None, Option, Some, get_or, ℕ}
use Rattle.script.proofs.Numerals.{hex_other, hex_two, hex_value}
use Rattle.script.specs.Script.{hex_digit, paired}
use Rattle.script.proofs.U8FromField.from_field.Goals as goal

pub returns-in_default : goal.returns-in_default
returns-in_default c = sym (hex_other c.args.field.now (omega (arith, c.in_default.len_below)))

pub returns-in_default-2 : goal.returns-in_default-2
returns-in_default-2 c = sym (hex_other c.args.field.now (omega (arith, c.in_default.len_at_least)))

pub returns-in_err-high : goal.returns-in_err-high
returns-in_err-high c =
    let f = c.args.field.now in
    let two = hex_two f (omega (arith, c.in-len2.len_at_least, c.in-len2.len_below)) in
    let high = hex_value (get_or f 0 0) _ None c.from.ensures c.in_err-high.ensures.value in
    c.from_residual.ensures ∙ ap (λ (o : Option ℕ). paired o (hex_digit (get_or f 1 0))) high ∙ sym two

pub returns-in_err-low : goal.returns-in_err-low
returns-in_err-low c =
    let f = c.args.field.now in
    let two = hex_two f (omega (arith, c.in-len2.len_at_least, c.in-len2.len_below)) in
    let high = hex_value (get_or f 0 0) _ (Some c.in_ok-high.high) c.from.ensures c.in_ok-high.ensures.value in
    let low = hex_value (get_or f 1 0) _ None c.from-2.ensures c.in_err-low.ensures.value in
    c.from_residual-in_err-low.ensures ∙ ap₂ paired high low ∙ sym two

pub returns : goal.returns
returns c =
    let f = c.args.field.now in
    let two = hex_two f (omega (arith, c.in-len2.len_at_least, c.in-len2.len_below)) in
    let high = hex_value (get_or f 0 0) _ (Some c.in_ok-high.high) c.from.ensures c.in_ok-high.ensures.value in
    let low = hex_value (get_or f 1 0) _ (Some c.in_ok-low.low) c.from-2.ensures c.in_ok-low.ensures.value in
    ap₂ paired high low ∙ sym two
