-- `records` meets its contract. The loop: what the file says is what its rest says after what is held. Assumes nothing.
use mathlib.Core.Path.{◌≡◌}
use Rattle.std.proofs.Common.{rules, ◌+◌}
use Rattle.std.specs.Prelude.{Ok, Err}
use Rattle.std.proofs.lemmas.Result.{err_from_is_err_and}
use Rattle.casefile.proofs.Midway.{mapped_err, mapped_ok, midway_none, midway_bad, midway_room, midway_more, midway_after, midway_all}
use Rattle.casefile.proofs.records.Goals as goal

pub loop-done-init : goal.loop-done-init
loop-done-init c = midway_none _ _ _ _ _ c.nothing-held.ensures

pub returns-in_err-entry : goal.returns-in_err-entry
returns-in_err-entry c =
    let p = err_from_is_err_and c.from_residual.result c.from_residual.ensures.1 in
    let m = mapped_err _ _ _ _ c.map_err.ensures.cases c.in_err-entry.was in
    let e : c.record.result ≡ Err m.0 = m.1 in
    let d : c.in_err-entry.field-0.0 ≡ record { reply = m.0; «record» = c.loop-done.done + 1 } = search (rules, m.2) in
    rw (p.1, p.2, d) (midway_bad _ _ _ _ _ _ _ c.loop-done.invariant c.loop-done-test.true _ _ (rw e at c.record.ensures))

pub with-held-requires : goal.with-held-requires
with-held-requires c =
    let m : c.record.result ≡ Ok c.in_ok-entry.entry = mapped_ok _ _ _ _ c.map_err.ensures.cases c.in_ok-entry.was in
    midway_room _ _ _ _ _ _ _ c.loop-done.invariant c.loop-done-test.true _ _ (rw m at c.record.ensures) c.requires.1

pub loop-done-preserved : goal.loop-done-preserved
loop-done-preserved c =
    let m : c.record.result ≡ Ok c.in_ok-entry.entry = mapped_ok _ _ _ _ c.map_err.ensures.cases c.in_ok-entry.was in
    midway_more _ _ _ _ _ _ _ c.loop-done.invariant c.loop-done-test.true _ _ (rw m at c.record.ensures) c.requires.1 _ c.with-held.ensures

pub returns-then-reader : goal.returns-then-reader
returns-then-reader c = midway_after _ _ _ _ _ _ _ c.loop-done.invariant c.loop-done-test.false c.if-reader.true

pub returns : goal.returns
returns c = midway_all _ _ _ _ _ _ _ c.loop-done.invariant c.loop-done-test.false c.if-reader.false
