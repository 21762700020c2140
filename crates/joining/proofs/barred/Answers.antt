-- `joining::barred` meets its contract. Assumes nothing.
use Rattle.std.proofs.Common.{◌∙◌, List, None, Some, get_or, sym, subst, ℕ}
use Rattle.joining.proofs.Bars.{bar_list, bar_none, bar_struck}
use Rattle.joining.specs.Pool.{Barred}
use Rattle.joining.proofs.barred.Goals as goal

pub returns-in-Some : goal.returns-in-Some
returns-in-Some c = bar_struck c.args.struck.now _ c.args.e c.in-Some.place (sym c.first_within.ensures ∙ c.in-Some.is)

pub returns-in_err-place : goal.returns-in_err-place
returns-in_err-place c =
    subst (Barred c.args.struck.now _ c.args.e) (sym c.from_residual.ensures)
    (subst (λ (l : List ℕ). Barred c.args.struck.now l c.args.e None) c.sets-sets.ensures
    (bar_none c.args.struck.now c.sets-sets.result.now c.args.e (sym c.first_within.ensures ∙ c.in_default.is) (sym c.in_err-place.ensures)))

pub returns : goal.returns
returns c =
    subst (λ (l : List ℕ). Barred c.args.struck.now l c.args.e (Some (get_or c.sets-sets.result.now c.in_ok-place.place 0))) c.sets-sets.ensures
    (bar_list c.args.struck.now c.sets-sets.result.now c.args.e c.in_ok-place.place (sym c.in_ok-place.ensures))
