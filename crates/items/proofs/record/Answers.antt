-- `record` meets its contract: the first fault decides, else the record is held as it is. Assumes nothing.
use mathlib.Core.Path.{sym}
use lib.Seq.{length-take-le}
use Rattle.std.proofs.lemmas.Result.{err_from_is_err_and}
use Rattle.items.proofs.Steps.{record_faulty, record_first, record_many, record_short, record_whole, zeros}
use Rattle.replies.proofs.Checked.{checked_done}
use Rattle.items.proofs.record.Goals as goal

pub returns-in_err-consequent : goal.returns-in_err-consequent
returns-in_err-consequent c =
    let p = err_from_is_err_and c.from_residual.result c.from_residual.ensures.1 in
    rw (p.1, p.2) (record_first _ _ _ _ c.in_err-consequent.ensures)

pub returns-then-count-gt-SUPPORTS : goal.returns-then-count-gt-SUPPORTS
returns-then-count-gt-SUPPORTS c = record_many _ _ _ _ _ c.in_ok-consequent.ensures c.if-count-gt-SUPPORTS.true

pub returns-in_err-supports : goal.returns-in_err-supports
returns-in_err-supports c =
    let p = err_from_is_err_and c.from_residual-in_err-supports.result c.from_residual-in_err-supports.ensures.1 in
    let few = c.if-count-gt-SUPPORTS.false in
    rw (p.1, p.2) (record_short _ _ _ _ _ c.in_ok-consequent.ensures few _ _ (rw (length-take-le c.in_ok-consequent.count zeros few) at c.in_err-supports.ensures))

pub returns-in_err-fault : goal.returns-in_err-fault
returns-in_err-fault c =
    let p = err_from_is_err_and c.from_residual-in_err-fault.result c.from_residual-in_err-fault.ensures.1 in
    let few = c.if-count-gt-SUPPORTS.false in
    rw (p.1, p.2) (record_faulty _ _ _ _ _ c.in_ok-consequent.ensures few _ _ (rw (length-take-le c.in_ok-consequent.count zeros few) at c.in_ok-supports.ensures) _ c.in_err-fault.ensures)

pub canonical-entry-requires : goal.canonical-entry-requires
canonical-entry-requires c = (c.requires, checked_done _ _ (sym c.in_ok-fault.ensures))

pub returns : goal.returns
returns c =
    let few = c.if-count-gt-SUPPORTS.false in
    record_whole _ _ _ _ _ c.in_ok-consequent.ensures few _ _ (rw (length-take-le c.in_ok-consequent.count zeros few) at c.in_ok-supports.ensures) _ c.in_ok-fault.ensures _ c.canonical-entry.ensures
