-- `bare::ask` meets its contract: the counts, the items, the set, then what the marks say. Assumes nothing.
use Rattle.std.proofs.Common.{◌∙◌, sym, arith, rules}
use Rattle.std.proofs.lemmas.Result.{err_from_is_err_and}
use Rattle.bare.proofs.Answers.{asked_fault, asked_over, asked_set, asked_told}
use Rattle.bare.proofs.Steps.{counts_low}
use Rattle.replies.proofs.Checked.{checked_done}
use Rattle.bare.proofs.ask.Goals as goal

pub returns-then-over : goal.returns-then-over
returns-then-over c = let a = c.args in asked_over a.query a.list.now a.out.now (sym c.over.ensures ∙ c.if-over.true)

pub returns-in_err-judge : goal.returns-in_err-judge
returns-in_err-judge c =
    let a = c.args in
    let p = err_from_is_err_and c.from_residual.result c.from_residual.ensures.1 in
    rw (p.1, p.2) (asked_fault a.query a.list.now a.out.now (sym c.over.ensures ∙ c.if-over.false) _ c.in_err-judge.ensures)

pub returns-then-not-low : goal.returns-then-not-low
returns-then-not-low c =
    let a = c.args in
    asked_set a.query a.list.now a.out.now (sym c.over.ensures ∙ c.if-over.false) tt c.in_ok-judge.ensures (sym c.low.ensures ∙ search rules)

pub follow-marks-requires : goal.follow-marks-requires
follow-marks-requires c =
    let few = counts_low c.args.query (sym c.over.ensures ∙ c.if-over.false) in
    (omega (arith, few.0, few.1), checked_done _ tt (sym c.in_ok-judge.ensures))

pub returns : goal.returns
returns c =
    let a = c.args in
    let few = counts_low a.query (sym c.over.ensures ∙ c.if-over.false) in
    asked_told a.query a.list.now a.out.now (sym c.over.ensures ∙ c.if-over.false) tt c.in_ok-judge.ensures (sym c.low.ensures ∙ search rules)
    (omega (arith, few.0, few.1)) _ c.follow-marks.ensures _ _ c.tell.ensures
