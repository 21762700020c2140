-- Our list call adds one by one. Assumes nothing.
use mathlib.Core.Bool.{Bool, false, true}
use mathlib.Core.List.{List, [], ◌++◌, ◌∷◌}
use mathlib.Core.Path.{◌∙◌, ◌≡◌, ap, ap₂, refl, sym}
use Prim.Native.Nat.{ℕ}
use lib.ListN.{drop, length}
use Rattle.asking.specs.Asking.{left}
use Rattle.handed.specs.Supplied.{supplied_by}
use Rattle.handed.specs.declared.Handed.{Handed}
use Rattle.promises.proofs.Keeping.{add_keeps}
use Rattle.promises.specs.Calls.{ours}
use Rattle.promises.specs.Season.{OneByOne, after_each, numbers_each, passing}
use Rattle.replies.specs.Replies.{number_of}
use Rattle.replies.specs.declared.Reply.TheVariants.{Done}
use Rattle.handed.proofs.Supplied.{supplied_few}
use Rattle.season.proofs.Folds.{all_done, give_many}
use Rattle.season.specs.Season.{added_all, give_of, replies_of}
use Rattle.store.specs.Calls.{add_of, answer, is_done}
use Rattle.store.specs.declared.Outcome.{Outcome}
use Rattle.store.specs.declared.Store.{Store}
use Rattle.theory.proofs.Lists.{clash}
use Rattle.theory.specs.Lists.{choose}

-- a refused item hands back the store before it
passed_over : (s : Store) (h : Handed) → (give_of s h).store ≡ passing s (give_of s h)
passed_over s h = go (is_done (give_of s h).reply) refl
  where
    go : (b : Bool) → is_done (give_of s h).reply ≡ b → (give_of s h).store ≡ choose b (give_of s h).store s
    go true e = refl
    go false e = add_keeps s h.consequent (supplied_by h) (λ d. clash (ap is_done d) e)

each_one : (s : Store) (l : List Handed) → (added_all s l ≡ after_each add_of s l) × (replies_of s l ≡ numbers_each add_of s l)
unfolding added_all replies_of after_each numbers_each
each_one s [] = (refl, refl)
each_one s (h ∷ l) =
    let k = passed_over s h in
    let r = each_one (passing s (give_of s h)) l in (
      ap (λ (x : Store). added_all x l) k ∙ r.0,
      ap (λ (x : List ℕ). number_of (give_of s h).reply ∷ x) (ap (λ (x : Store). replies_of x l) k ∙ r.1),
    )

pub one_by_one : OneByOne ours
one_by_one = record {
  one_by_one = λ s l out right few.
      let d = all_done s l out right few in
      let e = each_one s l in
      ap₂ (λ (o : Outcome) (b : List ℕ). left o b) (sym d.0 ∙ ap (answer Done) e.0) (sym d.1 ∙ ap (λ (x : List ℕ). x ++ drop (length l) out) e.1);
  few = λ h p. sym (supplied_few h p);
  many = λ s h right p. sym (give_many s h right p);
}
