-- `changing::more` meets its contract: the fault, then what is held. Assumes nothing.
use mathlib.Core.Path.{◌∙◌, sym}
use Rattle.std.proofs.lemmas.Result.{err_from_is_err_and}
use Rattle.changing.proofs.Laws.{item, more_done, more_fault, more_full, more_held}
use Rattle.changing.proofs.more.Goals as goal

pub returns-in_err-entry : goal.returns-in_err-entry
returns-in_err-entry c = let p = err_from_is_err_and c.from_residual.result c.from_residual.ensures.1 in rw (p.1, p.2) (more_fault c.args.held c.args.consequent c.args.supports.now c.in_err-entry.ensures)

pub holds-requires : goal.holds-requires
holds-requires c = c.requires.0

pub returns-then-holds : goal.returns-then-holds
returns-then-holds c = let a = c.args in more_held a.held a.consequent a.supports.now (item _ _ _ c.in_ok-entry.ensures) (sym c.holds.ensures ∙ c.if-holds.true)

pub returns-then-held-ge-HELD : goal.returns-then-held-ge-HELD
returns-then-held-ge-HELD c = let a = c.args in more_full a.held a.consequent a.supports.now (item _ _ _ c.in_ok-entry.ensures) (sym c.holds.ensures ∙ c.if-holds.false) c.if-held-ge-HELD.true

pub insert-requires : goal.insert-requires
insert-requires c = let i = item _ _ _ c.in_ok-entry.ensures in (c.requires.0, c.if-held-ge-HELD.false, i.fits)

pub returns : goal.returns
returns c = let a = c.args in more_done a.held a.consequent a.supports.now (item _ _ _ c.in_ok-entry.ensures) (sym c.holds.ensures ∙ c.if-holds.false) c.if-held-ge-HELD.false c.insert.result c.insert.ensures
