-- Whether a justification is stirred, support by support; what that says of its joins. Assumes nothing.
use Rattle.std.proofs.Common.{◌≡◌, ◌≢◌, ℕ, ◌+◌, ◌<◌, ◌≤◌, zero, Bool, false, true, not, ◌||◌, List, [], ◌∷◌, drop, get_or, length, refl, sym, ap, ap₂, ◌∙◌, add-one}
use mathlib.Core.List.Memᴰ.{head as here}
use lib.ListN.{drop_of_length-le}
use lib.Seq.{drop-cons}
use borrow.Author.Tests.{eq-eqb, ne_eqb}
use Rattle.joining.specs.Pool.{Filled, Offered}
use Rattle.labels.proofs.Candidates.{joins_so}
use Rattle.labels.proofs.Walks.{as_offered, skip_offered}
use Rattle.labels.specs.Moved.{Hushed, Still, marked, stirs}
use Rattle.theory.proofs.Lists.{clash}
use Rattle.theory.specs.Lists.{some_of}
use Rattle.theory.specs.Stages.{Justification}
use Rattle.theory.specs.Step.{joins, joins_for}

module _ (moved supports : List ℕ) where
  pub stirs_first : get_or moved 0 0 ≢ 0 → true ≡ stirs moved supports
  unfolding stirs some_of
  stirs_first h = sym (ap (λ (b : Bool). not b || some_of (marked moved) supports) (ne_eqb (get_or moved 0 0) 0 h))

  pub stirs_rest : get_or moved 0 0 ≡ 0 → stirs moved supports ≡ some_of (marked moved) (drop 0 supports)
  unfolding stirs some_of
  stirs_rest h = ap (λ (b : Bool). not b || some_of (marked moved) supports) (eq-eqb (get_or moved 0 0) 0 h)

  module _ (i : ℕ) (inv : stirs moved supports ≡ some_of (marked moved) (drop i supports)) where
    at_place : i < length supports → (b : Bool) → marked moved (get_or supports i 0) ≡ b → stirs moved supports ≡ b || some_of (marked moved) (drop (i + 1) supports)
    unfolding some_of
    at_place h b e =
        inv ∙ ap (some_of (marked moved)) (drop-cons supports i 0 h)
        ∙ ap₂ (λ (c : Bool) (k : ℕ). c || some_of (marked moved) (drop k supports)) e (sym (add-one i))

    pub stirs_here : i < length supports → get_or moved (get_or supports i 0) 0 ≢ 0 → true ≡ stirs moved supports
    stirs_here h n = sym (at_place h true (ap not (ne_eqb (get_or moved (get_or supports i 0) 0) 0 n)))

    pub stirs_on : i < length supports → get_or moved (get_or supports i 0) 0 ≡ 0 → stirs moved supports ≡ some_of (marked moved) (drop (i + 1) supports)
    stirs_on h n = at_place h false (ap not (eq-eqb (get_or moved (get_or supports i 0) 0) 0 n))

    pub stirs_none : length supports ≤ i → false ≡ stirs moved supports
    unfolding some_of
    stirs_none h = sym (inv ∙ ap (some_of (marked moved)) (drop_of_length-le supports {i = i} h))

-- one that is not stirred: its joins are refused already
pub hushed_offered : (L : ℕ → List ℕ) (n : ℕ) (r : Justification) (struck moved : List ℕ) (f : Filled) → Hushed L (r ∷ []) n struck moved f → r.consequent ≡ n → stirs moved r.supports ≡ false → Offered struck (joins_for L n (r ∷ [])) f f
hushed_offered L n r struck moved f h e u =
    as_offered struck (joins L zero r.supports) (joins_for L n (r ∷ [])) f f (joins_so L n r e) (skip_offered struck (joins L zero r.supports) f (λ H m. h.refused r (here refl) e u H m))

-- with a mark at place 0 every justification is stirred
pub still_marked : (L : ℕ → List ℕ) (J : List Justification) (n : ℕ) (old struck moved : List ℕ) → get_or moved 0 0 ≢ 0 → Still L J n old struck moved
still_marked L J n old struck moved h = record { quiet = λ r m e u. clash (sym (stirs_first moved r.supports h)) u }
