-- `changing::placed` meets its contract: the fault, then the place. Assumes nothing.
use mathlib.Core.Path.{sym}
use Rattle.std.proofs.lemmas.Result.{err_from_is_err_and}
use Rattle.changing.proofs.Laws.{placed_done, placed_fault}
use Rattle.replies.proofs.Checked.{checked_done}
use Rattle.changing.proofs.placed.Goals as goal

pub returns-in_err-fault : goal.returns-in_err-fault
returns-in_err-fault c = let p = err_from_is_err_and c.from_residual.result c.from_residual.ensures.1 in rw (p.1, p.2) (placed_fault c.args.top c.args.consequent c.args.supports.now c.in_err-fault.ensures)

pub canonical-requires : goal.canonical-requires
canonical-requires c = (c.requires, checked_done _ _ (sym c.in_ok-fault.ensures))

pub returns : goal.returns
returns c = placed_done c.args.top c.args.consequent c.args.supports.now (checked_done _ _ (sym c.in_ok-fault.ensures)) c.canonical.ensures
