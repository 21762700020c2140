-- `over` meets its contract: the library's words are those of the document. Assumes nothing.
use Rattle.std.proofs.Common.{◌∙◌, ltb, rules, tests}
use Rattle.std.proofs.lemmas.Iterator.{YieldsList-from_slice}
use Rattle.std.proofs.lemmas.Iterator.Search.{any_from_yields_List}
use Rattle.theory.proofs.Words.{some_is}
use Rattle.slices.proofs.over.Goals as goal

pub returns : goal.returns
returns c =
    any_from_yields_List (ltb c.args.top) _ _ _ c.any.ensures.ran (YieldsList-from_slice c.args.l.now cc) (λ x b q k. search (rules, tests))
    ∙ some_is (ltb c.args.top) c.args.l.now
