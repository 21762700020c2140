-- What is made of each number below an end, from a number on. Assumes nothing.
use Rattle.std.proofs.Common.{List, [], ◌++◌, ◌≡◌, ◌∙◌, ℕ, ◌+◌, ◌<◌, ◌≤◌, ap, refl, suc, sym, drop, length, arith}
use native.Mathlib.Numerals.{add-one}
use lib.ListN.{drop_of_length-le, length-append}
use lib.Seq.{drop-cons}
use Rattle.theory.proofs.Depth.{length_below}
use Rattle.theory.proofs.Judgement.{at_below}
use Rattle.theory.specs.Lists.{each, numbers_below}

-- what the numbers below n from i on give
unfoldable pub from_number : (ℕ → List ℕ) → ℕ → ℕ → List ℕ
from_number f n i = each f (drop i (numbers_below n))

module _ (f : ℕ → List ℕ) (n : ℕ) where
  pub number_start : from_number f n 0 ≡ each f (numbers_below n)
  unfolding from_number
  number_start = refl

  module _ (i : ℕ) where
    pub number_turn : i < n → from_number f n i ≡ f i ++ from_number f n (i + 1)
    unfolding from_number each
    number_turn h =
        ap (each f) (drop-cons (numbers_below n) i 0 (omega (arith, h, length_below n)))
        ∙ ap (λ (x : ℕ). f x ++ each f (drop (suc i) (numbers_below n))) (at_below n i h)
        ∙ ap (λ (j : ℕ). f i ++ each f (drop j (numbers_below n))) (sym (add-one i))

    pub number_end : n ≤ i → from_number f n i ≡ []
    unfolding from_number each
    number_end h = ap (each f) (drop_of_length-le (numbers_below n) {i = i} (omega (arith, h, length_below n)))

    pub number_more : i < n → length (from_number f n i) ≡ length (f i) + length (from_number f n (i + 1))
    number_more h = ap length (number_turn h) ∙ length-append (f i) (from_number f n (i + 1))

    pub number_none : n ≤ i → length (from_number f n i) ≡ 0
    number_none h = ap length (number_end h)
