-- Tests of lists, and the numbers below one, against the library's words for them. Assumes nothing.
use Rattle.std.proofs.Common.{◌≡◌, ◌<◌, ◌∙◌, ℕ, Bool, ◌&&◌, ◌||◌, List, [], ◌∷◌, ap, arith, refl, sym, zero-add}
use Rattle.std.proofs.lemmas.Grind.{same_number_lists}
use Rattle.std.proofs.lemmas.List.FromFn.{get_or-range_with_len, length-range_with_len}
use Rattle.std.specs.Cmp.Lexicographic.{pointwise}
use Rattle.std.specs.List.{list_all, list_any, range_with_len}
use Rattle.theory.proofs.Depth.{length_below}
use Rattle.theory.proofs.Judgement.{at_below}
use Rattle.theory.specs.Lists.{alike, all_of, numbers_below, some_of}

module _ {X : Type 0} where
  pub some_is : (p : X → Bool) (l : List X) → list_any p l ≡ some_of p l
  unfolding some_of
  some_is p [] = refl
  some_is p (x ∷ l) = ap (λ b. p x || b) (some_is p l)

  pub all_is : (p : X → Bool) (l : List X) → list_all p l ≡ all_of p l
  unfolding all_of
  all_is p [] = refl
  all_is p (x ∷ l) = ap (λ b. p x && b) (all_is p l)

  pub alike_is : (same : X → X → Bool) (l m : List X) → pointwise same l m ≡ alike same l m
  unfolding alike
  alike_is same [] [] = refl
  alike_is same [] (y ∷ m) = refl
  alike_is same (x ∷ l) [] = refl
  alike_is same (x ∷ l) (y ∷ m) = ap (λ b. same x y && b) (alike_is same l m)

pub below_is : (n : ℕ) → range_with_len 0 n ≡ numbers_below n
below_is n =
    same_number_lists (range_with_len 0 n) (numbers_below n) (length-range_with_len 0 n ∙ sym (length_below n))
    (λ k h. let low : k < n = omega (arith, length-range_with_len 0 n) in get_or-range_with_len 0 n k 0 low ∙ zero-add k ∙ sym (at_below n k low))
