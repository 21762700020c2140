-- `supports` meets its contract. The loop: the places filled so far stand before what the rest gives. Assumes nothing.
use mathlib.Core.Path.{refl}
use Rattle.std.proofs.lemmas.Result.{err_from_is_err_and}
use Rattle.items.proofs.Steps.{partly_all, partly_bad, partly_more, partly_none}
use Rattle.items.proofs.supports.Goals as goal

pub loop-place-init : goal.loop-place-init
loop-place-init c = partly_none _ _ _ refl

pub returns-in_err-place : goal.returns-in_err-place
returns-in_err-place c =
    let p = err_from_is_err_and c.from_residual.result c.from_residual.ensures.1 in
    rw (p.1, p.2) (partly_bad _ _ _ _ _ c.loop-place.invariant c.loop-place-test.true _ _ c.in_err-place.ensures)

pub loop-place-preserved : goal.loop-place-preserved
loop-place-preserved c = partly_more _ _ _ _ _ c.loop-place.invariant c.loop-place-test.true _ _ c.in_ok-place.ensures

pub returns : goal.returns
returns c = partly_all _ _ _ _ _ c.loop-place.invariant c.loop-place-test.false
