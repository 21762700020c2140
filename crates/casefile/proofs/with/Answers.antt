-- `with` meets its contract: held already, or put in its place. Assumes nothing.
use mathlib.Core.Path.{sym, ◌∙◌}
use Rattle.casefile.proofs.Gathering.{with_held, with_new}
use Rattle.casefile.proofs.with.Goals as goal

pub holds-requires : goal.holds-requires
holds-requires c = c.requires.0

pub returns-then-holds : goal.returns-then-holds
returns-then-holds c = with_held _ _ c.requires.0 (sym c.holds.ensures ∙ c.if-holds.true)

pub returns : goal.returns
returns c = c.insert.ensures ∙ with_new c.args.held _ (sym c.holds.ensures ∙ c.if-holds.false)
