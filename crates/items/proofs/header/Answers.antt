-- `header` meets its contract: the first fault decides, else the limits do. Assumes nothing.
use Rattle.std.proofs.lemmas.Result.{err_from_is_err_and}
use Rattle.items.proofs.Steps.{header_first, header_over, header_second, header_whole}
use Rattle.items.proofs.header.Goals as goal

pub returns-in_err-assumptions : goal.returns-in_err-assumptions
returns-in_err-assumptions c =
    let p = err_from_is_err_and c.from_residual.result c.from_residual.ensures.1 in
    rw (p.1, p.2) (header_first _ _ _ c.in_err-assumptions.ensures)

pub returns-in_err-records : goal.returns-in_err-records
returns-in_err-records c =
    let p = err_from_is_err_and c.from_residual-in_err-records.result c.from_residual-in_err-records.ensures.1 in
    rw (p.1, p.2) (header_second _ _ _ _ c.in_ok-assumptions.ensures _ _ c.in_err-records.ensures)

pub returns-in_err-counts : goal.returns-in_err-counts
returns-in_err-counts c =
    let p = err_from_is_err_and c.from_residual-in_err-counts.result c.from_residual-in_err-counts.ensures.1 in
    rw (p.1, p.2) (header_over _ _ _ _ c.in_ok-assumptions.ensures _ _ c.in_ok-records.ensures _ c.in_err-counts.ensures)

pub returns : goal.returns
returns c = header_whole _ _ _ _ c.in_ok-assumptions.ensures _ _ c.in_ok-records.ensures _ c.in_ok-counts.ensures
