-- `plain::write` meets its contract: the refusals, then what is filled in. Assumes nothing.
use Rattle.std.proofs.lemmas.Result.{err_from_is_err_and}
use Rattle.plain.proofs.Laws.{context_filled_bytes, context_filled_reply, context_refused_reply}
use Rattle.plain.proofs.write.Goals as goal

pub returns-in_err-marks-clause-reply : goal.returns-in_err-marks-clause-reply
returns-in_err-marks-clause-reply c =
    let p = err_from_is_err_and c.from_residual.result c.from_residual.ensures.1 in
    rw (p.1, p.2) (context_refused_reply c.args.store c.args.e c.args.out.now _ c.in_err-marks.ensures)

pub returns-clause-reply : goal.returns-clause-reply
returns-clause-reply c = context_filled_reply c.args.store c.args.e c.args.out.now _ c.in_ok-marks.ensures _ c.fill.ensures.reply

pub returns-clause-bytes : goal.returns-clause-bytes
returns-clause-bytes c = context_filled_bytes c.args.store c.args.e c.args.out.now _ c.in_ok-marks.ensures _ c.fill.ensures.bytes
