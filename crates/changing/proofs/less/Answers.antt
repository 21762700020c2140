-- `changing::less` meets its contract: the fault, then what is held. Assumes nothing.
use mathlib.Core.Path.{◌∙◌, sym}
use Rattle.std.proofs.lemmas.Result.{err_from_is_err_and}
use Rattle.changing.proofs.Laws.{item, less_done, less_fault, less_unheld}
use Rattle.changing.proofs.less.Goals as goal

pub returns-in_err-entry : goal.returns-in_err-entry
returns-in_err-entry c = let p = err_from_is_err_and c.from_residual.result c.from_residual.ensures.1 in rw (p.1, p.2) (less_fault c.args.held c.args.consequent c.args.supports.now c.in_err-entry.ensures)

pub holds-requires : goal.holds-requires
holds-requires c = c.requires.0

pub returns-then-not-holds : goal.returns-then-not-holds
returns-then-not-holds c = let a = c.args in less_unheld a.held a.consequent a.supports.now (item _ _ _ c.in_ok-entry.ensures) (sym c.holds.ensures ∙ c.if-not-holds.true)

pub remove-requires : goal.remove-requires
remove-requires c = (c.requires.0, sym c.holds.ensures ∙ c.if-not-holds.false)

pub returns : goal.returns
returns c = let a = c.args in less_done a.held a.consequent a.supports.now (item _ _ _ c.in_ok-entry.ensures) (sym c.holds.ensures ∙ c.if-not-holds.false) c.remove.result c.remove.ensures
