-- `stagetext::followed` meets its contract: the refusals, then the rows. Assumes nothing.
use native.Mathlib.Omega.{arith}
use Rattle.std.proofs.lemmas.Result.{err_from_is_err_and}
use Rattle.plain.proofs.Laws.{followed_known, refusal_known, top_known}
use Rattle.stagetext.proofs.Laws.{lines_put, lines_refused}
use Rattle.stagetext.proofs.followed.Goals as goal

pub returns-in_err-marks : goal.returns-in_err-marks
returns-in_err-marks c =
    let a = c.args in
    let p = err_from_is_err_and c.from_residual.result c.from_residual.ensures.1 in
    rw (p.1, p.2) (lines_refused a.store a.e a.out.now _ (refusal_known a.store 0 a.e _ c.in_err-marks.ensures))

pub overflow_add-held : goal.overflow_add-held
overflow_add-held c = let a = c.args in omega (arith, top_known a.store a.e a.out.now _ c.in_ok-marks.ensures)

pub returns : goal.returns
returns c =
    let a = c.args in
    let known = followed_known a.store 0 a.e c.in_ok-marks.marks c.in_ok-marks.ensures in
    lines_put a.store a.e a.out.now known.0 c.in_ok-marks.marks known.1 _ _ c.put.ensures
