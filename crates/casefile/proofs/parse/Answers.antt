-- `parse` meets its contract: the header's fault, else its records. Assumes nothing.
use mathlib.Core.Path.{◌≡◌}
use Rattle.std.proofs.Common.{rules}
use Rattle.std.proofs.lemmas.Result.{err_from_is_err_and}
use Rattle.std.specs.Prelude.{Ok, Err}
use Rattle.casefile.proofs.Midway.{mapped_err, mapped_ok, parse_fault, parse_held, parse_ready, parse_refused}
use Rattle.casefile.proofs.parse.Goals as goal

pub returns-in_err-counts : goal.returns-in_err-counts
returns-in_err-counts c =
    let p = err_from_is_err_and c.from_residual.result c.from_residual.ensures.1 in
    let m = mapped_err _ _ _ _ c.map_err.ensures.cases c.in_err-counts.was in
    let e : c.header.result ≡ Err m.0 = m.1 in
    let d : c.in_err-counts.field-0.0 ≡ record { reply = m.0; «record» = 0 } = search (rules, m.2) in
    rw (p.1, p.2, d) (parse_refused _ _ _ (rw e at c.header.ensures))

pub records-requires : goal.records-requires
records-requires c =
    let m : c.header.result ≡ Ok c.in_ok-counts.counts = mapped_ok _ _ _ _ c.map_err.ensures.cases c.in_ok-counts.was in
    parse_ready _ _ _ (rw m at c.header.ensures)

pub returns-in_err-held : goal.returns-in_err-held
returns-in_err-held c =
    let p = err_from_is_err_and c.from_residual-in_err-held.result c.from_residual-in_err-held.ensures.1 in
    let m : c.header.result ≡ Ok c.in_ok-counts.counts = mapped_ok _ _ _ _ c.map_err.ensures.cases c.in_ok-counts.was in
    rw (p.1, p.2) (parse_fault _ _ _ (rw m at c.header.ensures) _ c.in_err-held.ensures)

pub returns : goal.returns
returns c =
    let m : c.header.result ≡ Ok c.in_ok-counts.counts = mapped_ok _ _ _ _ c.map_err.ensures.cases c.in_ok-counts.was in
    parse_held _ _ _ (rw m at c.header.ensures) _ c.in_ok-held.ensures
