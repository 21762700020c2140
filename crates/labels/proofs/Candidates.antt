-- The joins of the justifications of a number, one after the other, over plain variables. Assumes nothing.
use mathlib.Core.Bool.{Bool, false, true}
use mathlib.Core.List.{List, [], ◌++◌, ◌∷◌, append-nil, map}
use mathlib.Core.Path.{◌∙◌, ◌≡◌, ap, refl, sym}
use Prim.Native.Nat.{◌+◌, ◌<◌, ◌≤◌, zero, ℕ}
use lib.Dec.{eqb}
use native.Mathlib.Numerals.{add-one}
use lib.ListN.{drop, drop_of_length-le, get_or, length}
use lib.Seq.{drop-cons}
use borrow.Author.Tests.{eq-eqb, eqb-false, eqb-true, ne_eqb}
use Rattle.rules.specs.Held.{meaning}
use Rattle.rules.specs.declared.Entry.{Entry}
use Rattle.theory.specs.Lists.{each, keep, those}
use Rattle.theory.specs.Stages.{Justification}
use Rattle.theory.specs.Step.{joins, joins_for}

-- ---- one justification
module _ (L : ℕ → List ℕ) (n : ℕ) where
  of_others : (j : Justification) (J : List Justification) → (j.consequent ≡ n → ⊥) → joins_for L n (j ∷ J) ≡ joins_for L n J
  unfolding joins_for those
  of_others j J h = ap (λ (b : Bool). each (λ (i : Justification). joins L zero i.supports) (keep b j (those (λ (i : Justification). eqb i.consequent n) J))) (ne_eqb j.consequent n h)

  of_this : (j : Justification) (J : List Justification) → j.consequent ≡ n → joins_for L n (j ∷ J) ≡ joins L zero j.supports ++ joins_for L n J
  unfolding joins_for those each
  of_this j J h = ap (λ (b : Bool). each (λ (i : Justification). joins L zero i.supports) (keep b j (those (λ (i : Justification). eqb i.consequent n) J))) (eq-eqb j.consequent n h)

  pub joins_not : (j : Justification) → (j.consequent ≡ n → ⊥) → joins_for L n (j ∷ []) ≡ []
  unfolding joins_for those each
  joins_not j h = of_others j [] h

  pub joins_so : (j : Justification) → j.consequent ≡ n → joins_for L n (j ∷ []) ≡ joins L zero j.supports
  unfolding joins_for those each
  joins_so j h = of_this j [] h ∙ append-nil (joins L zero j.supports)

  pub joins_more : (j : Justification) (J : List Justification) → joins_for L n (j ∷ J) ≡ joins_for L n (j ∷ []) ++ joins_for L n J
  joins_more j J = go (eqb j.consequent n) refl
    where
      go : (b : Bool) → eqb j.consequent n ≡ b → joins_for L n (j ∷ J) ≡ joins_for L n (j ∷ []) ++ joins_for L n J
      go true e = let h : j.consequent ≡ n = eqb-true j.consequent n e in of_this j J h ∙ ap (λ (l : List ℕ). l ++ joins_for L n J) (sym (joins_so j h))
      go false e = let h : j.consequent ≡ n → ⊥ = eqb-false j.consequent n e in of_others j J h ∙ ap (λ (l : List ℕ). l ++ joins_for L n J) (sym (joins_not j h))

  pub joins_on : (entries : List Entry) (j : ℕ) (z : Entry) → j < length entries → joins_for L n (map meaning (drop j entries)) ≡ joins_for L n (meaning (get_or entries j z) ∷ []) ++ joins_for L n (map meaning (drop (j + 1) entries))
  joins_on entries j z h =
      ap (λ (l : List Entry). joins_for L n (map meaning l)) (drop-cons entries j z h ∙ ap (λ (i : ℕ). get_or entries j z ∷ drop i entries) (sym (add-one j)))
      ∙ joins_more (meaning (get_or entries j z)) (map meaning (drop (j + 1) entries))

  pub joins_over : (entries : List Entry) (j : ℕ) → length entries ≤ j → joins_for L n (map meaning (drop j entries)) ≡ []
  unfolding joins_for those each
  joins_over entries j h = ap (λ (l : List Entry). joins_for L n (map meaning l)) (drop_of_length-le entries {i = j} h)
