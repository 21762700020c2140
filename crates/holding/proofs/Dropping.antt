-- One taken out of a list in order: what `dropped` makes of it, and that `put` gives it back. Assumes nothing.
use mathlib.Core.Bool.{Bool, false, not, true}
use mathlib.Core.List.{List, Memᴰ as Mem, [], ◌∷◌}
use mathlib.Core.Logic.{◌⊎◌, inl, inr, ⊎_elim}
use mathlib.Core.Path.{◌∙◌, ◌≡◌, ap, refl, subst, sym}
use Prim.Native.Nat.{◌<◌, ◌≤◌, suc, ℕ}
use native.Mathlib.Decide.{dec_lt}
use native.Mathlib.Omega.{arith}
use lib.Dec.{ltb}
use lib.ListN.{get_or, length}
use borrow.Author.Tests.{le-ltb, lt-ltb, not-true}
use Rattle.holding.proofs.Putting.{place_le, put_cases, put_high, put_length, put_low, put_new, put_old, put_ordered}
use Rattle.holding.specs.Placing.{place_of}
use Rattle.rules.proofs.Order.{ahead_irrefl, one_same, ordered_cons, ordered_head, ordered_tail, ordered_unique, same_mem, same_one}
use Rattle.rules.specs.Held.{dropped, ordered, put}
use Rattle.rules.specs.Items.{same_justification}
use Rattle.theory.proofs.Lists.{clash, either, those_elim, those_intro}
use Rattle.theory.specs.Lists.{choose, keep, some_of, those}
use Rattle.theory.specs.Stages.{Justification, ahead}

module _ (r : Justification) where
  abbrev other : Justification → Bool
  other i = not (same_justification r i)

  -- ---- the members

  pub dropped_from : (J : List Justification) {j : Justification} → Mem j (dropped r J) → Mem j J
  unfolding dropped
  dropped_from J m = (those_elim other J m).0

  pub dropped_gone : (J : List Justification) → Mem r (dropped r J) → ⊥
  unfolding dropped
  dropped_gone J m = clash (one_same r) (not-true (same_justification r r) (those_elim other J m).1)

  pub dropped_keeps : {J : List Justification} {j : Justification} → Mem j J → (j ≡ r → ⊥) → Mem j (dropped r J)
  unfolding dropped
  dropped_keeps {j = j} m n = those_intro other m (go (same_justification r j) refl)
    where
      go : (b : Bool) → same_justification r j ≡ b → not b ≡ true
      go true e = absurd (n (sym (same_one r j e)))
      go false e = refl

  -- r, or another of them
  pub dropped_cases : (J : List Justification) {j : Justification} → Mem j J → (j ≡ r) ⊎ Mem j (dropped r J)
  dropped_cases J {j} m =
      ⊎_elim (λ e. inl (sym (same_one r j e))) (λ e. inr (dropped_keeps m (λ q. clash (ap (same_justification r) q ∙ one_same r) e))) (either (same_justification r j))

  -- from more, more is left
  pub dropped_members : (J K : List Justification) → ((j : Justification) → Mem j J → Mem j K) → (j : Justification) → Mem j (dropped r J) → Mem j (dropped r K)
  dropped_members J K f j m = dropped_keeps (f j (dropped_from J m)) (λ (q : j ≡ r). dropped_gone J (subst (λ (x : Justification). Mem x (dropped r J)) q m))

  -- ---- the order

  pub dropped_ordered : (J : List Justification) → ordered J ≡ true → ordered (dropped r J) ≡ true
  unfolding dropped those
  dropped_ordered [] o = o
  dropped_ordered (t ∷ J) o = go (other t) (dropped_ordered J (ordered_tail t J o))
    where
      go : (b : Bool) → ordered (those other J) ≡ true → ordered (keep b t (those other J)) ≡ true
      go true k = ordered_cons t (those other J) (λ j m. ordered_head t J o j (those_elim other J m).0) k
      go false k = k

  -- putting in what was dropped gives the list back
  pub put_dropped : (J : List Justification) → ordered J ≡ true → Mem r J → put r (dropped r J) ≡ J
  put_dropped J o h =
      ordered_unique (put r (dropped r J)) J (put_ordered r (dropped r J) (dropped_ordered J o) (none (some_of (same_justification r) (dropped r J)) refl)) o
      (λ j m. ⊎_elim (λ (q : j ≡ r). subst (λ (x : Justification). Mem x J) (sym q) h) (λ k. dropped_from J k) (put_cases r (dropped r J) m))
      (λ j m. ⊎_elim (λ (q : j ≡ r). subst (λ (x : Justification). Mem x (put r (dropped r J))) (sym q) (put_new r (dropped r J))) (λ k. put_old r k) (dropped_cases J m))
    where
      none : (b : Bool) → some_of (same_justification r) (dropped r J) ≡ b → b ≡ false
      none true e = absurd (dropped_gone J (same_mem r (dropped r J) e))
      none false e = refl

  pub dropped_length : (J : List Justification) → ordered J ≡ true → Mem r J → suc (length (dropped r J)) ≡ length J
  dropped_length J o h = sym (put_length r (dropped r J)) ∙ ap length (put_dropped J o h)

  pub dropped_few : (J : List Justification) → length (dropped r J) ≤ length J
  unfolding dropped those
  dropped_few [] = omega arith
  dropped_few (t ∷ J) = go (other t) (dropped_few J)
    where
      go : (b : Bool) → length (those other J) ≤ length J → length (keep b t (those other J)) ≤ suc (length J)
      go true h = omega arith
      go false h = omega arith

  -- ---- the places

  place_put : (K : List Justification) → place_of r (put r K) ≡ place_of r K
  unfolding place_of put
  place_put [] = first (ahead r r) refl 0
    where
      first : (b : Bool) → ahead r r ≡ b → (n : ℕ) → choose b (suc n) 0 ≡ 0
      first true e n = absurd (ahead_irrefl r e)
      first false e n = refl
  place_put (t ∷ K) = go (ahead t r) (ahead r r) refl refl (place_put K)
    where
      go : (b d : Bool) → ahead t r ≡ b → ahead r r ≡ d → place_of r (put r K) ≡ place_of r K → place_of r (choose b (t ∷ put r K) (r ∷ t ∷ K)) ≡ choose b (suc (place_of r K)) 0
      go true d e f k = rw e (ap suc k)
      go false true e f k = absurd (ahead_irrefl r f)
      go false false e f k = rw f refl

  module _ (J : List Justification) (o : ordered J ≡ true) (h : Mem r J) where
    back : put r (dropped r J) ≡ J
    back = put_dropped J o h

    place_is : place_of r J ≡ place_of r (dropped r J)
    place_is = ap (place_of r) (sym back) ∙ place_put (dropped r J)

    pub place_among : place_of r J < length J
    place_among = omega (arith, place_le r (dropped r J), dropped_length J o h, place_is)

    -- what stands where
    pub dropped_at : (i : ℕ) (z : Justification) → get_or J (choose (ltb i (place_of r J)) i (suc i)) z ≡ get_or (dropped r J) i z
    dropped_at i z = elim (dec_lt i (place_of r J)) [
      | yes q ↦ ap (λ (b : Bool). get_or J (choose b i (suc i)) z) (lt-ltb i (place_of r J) q) ∙ ap (λ (l : List Justification). get_or l i z) (sym back) ∙ put_low r (dropped r J) i z (omega (arith, place_is))
      | no q ↦ ap (λ (b : Bool). get_or J (choose b i (suc i)) z) (le-ltb i (place_of r J) (omega arith)) ∙ ap (λ (l : List Justification). get_or l (suc i) z) (sym back) ∙ put_high r (dropped r J) i z (omega (arith, place_is))
    ]
