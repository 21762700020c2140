-- `following::reached` meets its contract. Assumes nothing.
use Rattle.std.proofs.Common.{◌∙◌, leb, get_or, arith, rules, tests}
use Rattle.std.proofs.lemmas.Iterator.{YieldsList-from_slice}
use Rattle.std.proofs.lemmas.Iterator.Adapters.{serves_from_places}
use Rattle.std.proofs.lemmas.Iterator.Search.{all_from_yields_List}
use Rattle.following.proofs.Passing.{all_marked, has_place}
use Rattle.following.proofs.reached.Goals as goal

pub all-requires-clause-callable : goal.all-requires-clause-callable
all-requires-clause-callable c =
    let l = c.args.supports.now in
    serves_from_places (YieldsList-from_slice l cc) (λ x q h. search rules) (λ x k h e _ _ _ _ _ _. omega (arith, has_place l k x.now c.requires h e))

pub returns : goal.returns
returns c =
    all_from_yields_List (λ s. leb (get_or c.args.marks.now s 0) c.args.t) _ _ _ c.all.ensures.ran (YieldsList-from_slice c.args.supports.now cc) (λ x b q k. search (rules, tests))
    ∙ all_marked c.args.t c.args.marks.now c.args.supports.now (search rules) c.requires
