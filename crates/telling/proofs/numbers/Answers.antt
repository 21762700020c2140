-- `telling::numbers` meets its contract: what was read stands at the front of the room. Assumes nothing.
use Rattle.std.proofs.Common.{◌∙◌, ap, ap₂, arith, sym, rules, ℕ, Option, take, length-take}
use Rattle.std.proofs.Math.Seq.{take-append_seam}
use Rattle.script.proofs.Reading.{read_count, read_refused}
use Rattle.script.specs.Script.{fields_of, numeral}
use Rattle.telling.proofs.numbers.Goals as goal

pub slice_bounds-result-end : goal.slice_bounds-result-end
slice_bounds-result-end c =
    let read = ap (λ (o : Option ℕ). (o, c.numbers.new.out)) (sym c.in_ok-count.ensures.ok_part) ∙ c.numbers.ensures in
    omega (arith, read_count numeral (fields_of c.args.rest.now) c.args.room.now c.numbers.new.out c.in_ok-count.count read, length-take c.in_ok-count.count c.numbers.new.out)

pub returns-clause-all : goal.returns-clause-all
returns-clause-all c =
    let read = ap (λ (o : Option ℕ). (o, c.numbers.new.out)) (sym c.in_ok-count.ensures.ok_part) ∙ c.numbers.ensures in
    let filled = read_count numeral (fields_of c.args.rest.now) c.args.room.now c.numbers.new.out c.in_ok-count.count read in
    (λ _. (filled.values ∙ filled.fields, omega (arith, filled), omega (arith, filled)), λ _. search rules)

pub returns-clause-values : goal.returns-clause-values
returns-clause-values c =
    let read = ap (λ (o : Option ℕ). (o, c.numbers.new.out)) (sym c.in_ok-count.ensures.ok_part) ∙ c.numbers.ensures in
    let filled = read_count numeral (fields_of c.args.rest.now) c.args.room.now c.numbers.new.out c.in_ok-count.count read in
    ap₂ take (sym filled.values) filled.out ∙ take-append_seam _ _

pub returns-in_err-count-clause-all : goal.returns-in_err-count-clause-all
returns-in_err-count-clause-all c =
    let read = ap (λ (o : Option ℕ). (o, c.numbers.new.out)) (sym c.in_err-count.ensures.ok_part) ∙ c.numbers.ensures in
    (λ k. search rules, λ h. absurd (read_refused numeral (fields_of c.args.rest.now) c.args.room.now c.numbers.new.out read h.0 h.1))

pub returns-then-count-gt-MOST-clause-all : goal.returns-then-count-gt-MOST-clause-all
returns-then-count-gt-MOST-clause-all c =
    let read = ap (λ (o : Option ℕ). (o, c.numbers.new.out)) (sym c.in_ok-count.ensures.ok_part) ∙ c.numbers.ensures in
    let filled = read_count numeral (fields_of c.args.rest.now) c.args.room.now c.numbers.new.out c.in_ok-count.count read in
    (λ k. search rules, λ h. absurd (omega (arith, filled, h.2)))
