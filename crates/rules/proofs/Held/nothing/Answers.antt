-- `nothing` meets its contract: every place holds nothing. Assumes nothing.
use mathlib.Core.Path.{refl}
use Rattle.rules.proofs.Entries.{held_nothing}
use Rattle.rules.proofs.Held.nothing.Goals as goal

pub returns : goal.returns
returns c = held_nothing _ _ _ refl
