-- Of two lists the first set that lies within another. Assumes nothing.
use Rattle.std.specs.Prelude.{Bool, ◌&&◌, false, not, true, ◌≡◌, List, ℕ, Option, None, Some, is_some, get_or, refl}
use Rattle.std.proofs.Common.{ap, ◌∙◌}
use Rattle.members.proofs.First.{at_mem, contains_first, first_at}
use Rattle.members.specs.Promised.{first_within}
use Rattle.theory.proofs.Label.{contains_intro}
use Rattle.theory.proofs.Lists.{and_intro}
use Rattle.theory.proofs.Sets.{within_refl}
use Rattle.theory.specs.Sets.{contains}
use Rattle.theory.specs.Step.{free}
use Rattle.joining.specs.Pool.{Barred}

-- what is found is contained in itself
found_self : (l : List ℕ) (E i : ℕ) → first_within l E ≡ Some i → contains l (get_or l i 0) ≡ true
found_self l E i e = contains_intro (get_or l i 0) (at_mem l i (first_at l E i e).0) (within_refl (get_or l i 0))

none_found : (l : List ℕ) (E : ℕ) → first_within l E ≡ None → contains l E ≡ false
none_found l E e = contains_first l E ∙ ap (λ (o : Option ℕ). is_some o) e

module _ (struck list : List ℕ) (E : ℕ) where
  -- one struck
  pub bar_struck : (i : ℕ) → first_within struck E ≡ Some i → Barred struck list E (Some (get_or struck i 0))
  unfolding free
  bar_struck i e = (ap (λ (b : Bool). not b && not (contains list (get_or struck i 0))) (found_self struck E i e), (first_at struck E i e).1)

  -- one of the list
  pub bar_list : (i : ℕ) → first_within list E ≡ Some i → Barred struck list E (Some (get_or list i 0))
  unfolding free
  bar_list i e = (and_none (not (contains struck (get_or list i 0))) (ap not (found_self list E i e)), (first_at list E i e).1)
    where
      and_none : (a : Bool) {b : Bool} → b ≡ false → a && b ≡ false
      and_none true e = e
      and_none false e = refl

  -- none struck, and none of the list
  pub bar_none : first_within struck E ≡ None → first_within list E ≡ None → Barred struck list E None
  unfolding free
  bar_none n m = and_intro (ap not (none_found struck E n)) (ap not (none_found list E m))
