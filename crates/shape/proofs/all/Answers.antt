-- `all` meets its contract: the library's fold is from the other side. Assumes nothing.
use Rattle.std.proofs.Common.{◌∙◌, ◌≡◌, rules}
use Rattle.std.proofs.iter.runs.Made.{chains}
use Rattle.std.specs.List.{fold}
use Rattle.shape.proofs.Laws.{union_folded}
use Rattle.theory.specs.Sets.{union}
use Rattle.shape.proofs.all.Goals as goal

pub returns : goal.returns
returns c = let e : c.fold.result ≡ fold union 0 c.args.l.now = search (rules, chains) in e ∙ union_folded c.args.l.now
