-- `following::mark` meets its contract. Assumes nothing.
use Rattle.std.proofs.Common.{◌∙◌, sym, arith}
use Rattle.following.proofs.Passing.{mark_kept, mark_new, mark_old}
use Rattle.following.proofs.mark.Goals as goal

pub returns-then-old-v : goal.returns-then-old-v
returns-then-old-v c = mark_kept _ _ _ _ (omega arith) c.if-old-v.true

pub returns-then-reached : goal.returns-then-reached
returns-then-reached c = mark_new _ _ _ _ (omega arith) c.if-old-v.false (sym c.reached.ensures ∙ c.if-reached.true)

pub returns : goal.returns
returns c = mark_old _ _ _ _ (omega arith) (sym c.reached.ensures ∙ c.if-reached.false)
