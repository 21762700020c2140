-- `plain::follow` meets its contract where the call is refused. Assumes nothing.
use Rattle.std.proofs.lemmas.Result.{err_from_is_err_and}
use Rattle.plain.proofs.Laws.{followed_refused}
use Rattle.plain.proofs.follow.Goals as goal

pub returns-in_err-refusal : goal.returns-in_err-refusal
returns-in_err-refusal c =
    let p = err_from_is_err_and c.from_residual.result c.from_residual.ensures.1 in
    rw (p.1, p.2) (followed_refused c.args.store c.args.n c.args.e _ c.in_err-refusal.ensures)
