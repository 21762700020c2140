-- `Reader::two` meets its contract: the two numbers at its place. Assumes nothing.
use Rattle.std.proofs.lemmas.Result.{err_from_is_err_and}
use Rattle.numbers.proofs.Numbers.{bad_from, fault, number_there, pair_first, pair_second, takes, first_faulted, two_faulted, two_taken}
use Rattle.numbers.specs.Numbers.{two_from}
use Rattle.numbers.proofs.Reader.two.Goals as goal

pub returns-in_err-first : goal.returns-in_err-first
returns-in_err-first c =
    let p = err_from_is_err_and c.from_residual.result c.from_residual.ensures.1 in
    rw (p.1, p.2) (fault two_from _ _ (first_faulted c.args.self.now _ (bad_from _ _ _ (pair_first _ _ _ c.two-pair.ensures c.in_err-first.was))))

pub returns-in_err-second : goal.returns-in_err-second
returns-in_err-second c =
    let p = err_from_is_err_and c.from_residual-in_err-second.result c.from_residual-in_err-second.ensures.1 in
    let m = number_there c.args.self.now c.in_ok-first.first (pair_first _ _ _ c.two-pair.ensures c.in_ok-first.was) in
    rw (p.1, p.2) (fault two_from _ _ (two_faulted _ _ _ m _ (bad_from _ _ _ (pair_second _ _ _ c.two-pair.ensures _ c.in_ok-first.was c.in_err-second.was))))

pub returns : goal.returns
returns c =
    let m = number_there c.args.self.now c.in_ok-first.first (pair_first _ _ _ c.two-pair.ensures c.in_ok-first.was) in
    takes two_from _ _ _ (two_taken _ _ _ m _ _ (number_there _ _ (pair_second _ _ _ c.two-pair.ensures _ c.in_ok-first.was c.in_ok-second.was)))
