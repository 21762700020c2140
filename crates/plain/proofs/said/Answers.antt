-- `plain::said` meets its contract where the call is refused. Assumes nothing.
use Rattle.std.proofs.lemmas.Result.{err_from_is_err_and}
use Rattle.plain.proofs.Laws.{question_refused}
use Rattle.plain.proofs.said.Goals as goal

pub returns-in_err-marks : goal.returns-in_err-marks
returns-in_err-marks c =
    let p = err_from_is_err_and c.from_residual.result c.from_residual.ensures.1 in
    rw (p.1, p.2) (question_refused c.args.store c.args.n c.args.e _ c.in_err-marks.ensures)
