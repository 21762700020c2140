-- `script::set_of` meets its contract: the numbers are taken one after the other. Assumes nothing.
use Rattle.std.proofs.Common.{◌≡◌, ℕ, List, [], ◌∷◌, refl, rules, ◌∙◌, fold}
use Rattle.std.proofs.lemmas.Iterator.{YieldsList-from_slice}
use Rattle.std.proofs.lemmas.Iterator.Consumers.{YieldsList-at, YieldsList-from_copied, fold_from_yields_List}
use Rattle.script.specs.Script.{taken, taken_all}
use Rattle.script.proofs.set_of.Goals as goal

taken_fold : (l : List ℕ) (E : ℕ) → fold taken E l ≡ taken_all E l
unfolding taken_all
taken_fold [] E = refl
taken_fold (k ∷ l) E = taken_fold l (taken E k)

pub returns : goal.returns
returns c =
    fold_from_yields_List _ taken 0 c.fold.result c.fold.ensures.ran (YieldsList-from_copied (YieldsList-at c.copied.ensures.source (YieldsList-from_slice c.args.values.now cc))) (λ a x b q k. search rules)
    ∙ taken_fold c.args.values.now 0
