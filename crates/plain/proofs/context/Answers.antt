-- `plain::context` meets its contract: a refusal keeps the reply and the bytes of the writing. Assumes nothing.
use Rattle.asking.proofs.Laws.{reply_refused}
use Rattle.plain.proofs.context.Goals as goal

pub returns-in-Err : goal.returns-in-Err
returns-in-Err c = rw (reply_refused _ _ c.in-Err.ensures.reply, c.write.ensures.bytes)
