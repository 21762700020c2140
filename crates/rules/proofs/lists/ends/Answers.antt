-- `ends` meets its contract. Assumes nothing.
use native.Mathlib.Omega.{arith}
use mathlib.Core.Path.{◌≡◌}
use lib.ListN.{length}
use Rattle.rules.proofs.Steps.{word_ends}
use borrow.Author.Rules.{rules}
use Rattle.theory.specs.Limits.{limits}
use Rattle.rules.proofs.lists.ends.Goals as goal

pub returns : goal.returns
returns c = let e : length c.args.bytes ≡ limits.supports = search rules in word_ends c.args.bytes c.args.n _ e c.from_le_bytes.ensures (search rules) (omega arith)
