-- `bits` meets its contract. Assumes nothing.
use mathlib.Core.Path.{◌≡◌}
use lib.ListN.{length}
use Rattle.rules.proofs.Keys.{bits_entry}
use borrow.Author.Rules.{rules}
use Rattle.theory.specs.Limits.{limits}
use Rattle.rules.proofs.Entry.bits.Goals as goal

pub returns : goal.returns
returns c = let s = c.args.self in let e : length s.supports ≡ limits.supports = search rules in bits_entry s e _ c.from_le_bytes.ensures
