-- `Reader::number` meets its contract: the number at its place. Assumes nothing.
use mathlib.Core.Path.{sym}
use Rattle.std.proofs.lemmas.Result.{err_from_is_err_and}
use Rattle.numbers.proofs.Numbers.{bad_from, fault, number_there, takes}
use Rattle.numbers.specs.Numbers.{number_from}
use Rattle.numbers.proofs.Reader.number.Goals as goal

pub returns-in_err-number : goal.returns-in_err-number
returns-in_err-number c =
    let p = err_from_is_err_and c.from_residual.result c.from_residual.ensures.1 in
    rw (p.1, p.2) (fault number_from _ _ (bad_from _ _ _ (sym c.in_err-number.ensures)))

pub returns : goal.returns
returns c = takes number_from _ _ _ (number_there _ _ (sym c.in_ok-number.ensures))
