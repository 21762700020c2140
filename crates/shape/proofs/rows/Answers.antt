-- `rows` meets its contract. Assumes nothing.
use Rattle.std.proofs.Common.{◌∙◌, ap, refl, arith, rules, tests}
use Rattle.std.proofs.lemmas.Iterator.{YieldsList-from_range}
use Rattle.std.proofs.lemmas.Iterator.Search.{all_from_yields_List}
use Rattle.shape.proofs.Laws.{row_places}
use Rattle.shape.specs.Shape.{row_right}
use Rattle.theory.proofs.Words.{all_is, below_is}
use Rattle.theory.specs.Lists.{all_of}
use Rattle.shape.proofs.rows.Goals as goal

pub returns : goal.returns
returns c =
    let s = c.args.lists.now in
    all_from_yields_List (row_right s.sizes s.members) _ _ _ c.all.ensures.ran (YieldsList-from_range 0 c.args.n c.args.n refl (omega arith)) (λ x b q k. search (rules, tests, row_places))
    ∙ all_is (row_right s.sizes s.members) _ ∙ ap (all_of (row_right s.sizes s.members)) (below_is c.args.n)
