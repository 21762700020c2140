-- `zeros` meets its contract: nothing is in any. Assumes nothing.
use Rattle.std.proofs.Common.{◌∙◌, ◌≡◌, ap, eqb, rules, ℕ}
use Rattle.std.proofs.iter.runs.Made.{chains}
use Rattle.std.specs.List.{fold}
use Rattle.slices.proofs.Laws.{joined_none}
use Rattle.theory.specs.Sets.{union}
use Rattle.slices.proofs.zeros.Goals as goal

pub returns : goal.returns
returns c = let e : c.fold.result ≡ fold union 0 c.args.l.now = search (rules, chains) in ap (λ (x : ℕ). eqb x 0) e ∙ joined_none c.args.l.now
