-- How long the text of a set and of a list of sets can be. Assumes nothing.
use mathlib.Core.Bool.{Bool}
use mathlib.Core.List.{List, [], ◌++◌, ◌∷◌}
use mathlib.Core.Logic.{⊎_elim}
use mathlib.Core.Path.{◌≡◌, refl}
use Prim.Native.Nat.{◌*◌, ◌+◌, ◌-◌, ◌<◌, ◌^◌, ◌≤◌, ℕ}
use native.Mathlib.Omega.{arith}
use lib.ListN.{length, length-append}
use Rattle.text.proofs.Digits.{digits_most}
use Rattle.text.specs.Texts.{braced, digits, digits_in, field, heading, joined, refusal, row, spaced, word}
use Rattle.theory.proofs.Lists.{either}
use Rattle.theory.specs.Limits.{limits}
use Rattle.theory.specs.Lists.{each, keep, numbers_below, numbers_to, those}
use Rattle.theory.specs.Sets.{among}

module _ (f : ℕ → List ℕ) where
  kept_length : (p : ℕ → Bool) (k : ℕ) (l m : List ℕ) → length (each f m) ≤ length (each f l) → length (each f (keep (p k) k m)) ≤ length (each f (k ∷ l))
  unfolding each
  kept_length p k l m h =
      ⊎_elim (λ e. rw e (omega (arith, length-append (f k) (each f m), length-append (f k) (each f l)))) (λ e. rw e (omega (arith, length-append (f k) (each f l)))) (either (p k))

  those_length : (p : ℕ → Bool) (l : List ℕ) → length (each f (those p l)) ≤ length (each f l)
  unfolding those
  those_length p [] = omega arith
  those_length p (k ∷ l) = kept_length p k l (those p l) (those_length p l)

  each_length : (n : ℕ) → ((x : ℕ) → length (f x) ≤ n) → (l : List ℕ) → length (each f l) ≤ n * length l
  unfolding each
  each_length n h [] = omega arith
  each_length n h (x ∷ l) = omega (arith, h x, each_length n h l, length-append (f x) (each f l))

joined_length : (l : List ℕ) → length (joined l) ≡ length (each (λ j. word "," ++ digits j) l) - 1
unfolding joined each word
joined_length [] = refl
joined_length (k ∷ l) = omega arith

full_length : length (each (λ j. word "," ++ digits j) (numbers_to limits.assumptions)) ≡ 87
unfolding each word digits digits_in numbers_to numbers_below
full_length = refl

-- a set of 32 assumptions takes 88 bytes at most
pub braced_length : (E : ℕ) → length (braced limits.assumptions E) ≤ 88
unfolding braced word
braced_length E =
    let l : List ℕ = those (among E) (numbers_to limits.assumptions) in
    omega (arith, length-append (joined l) (125 ∷ []), joined_length l, those_length (λ j. word "," ++ digits j) (among E) (numbers_to limits.assumptions), full_length)

pub spaced_length : (l : List ℕ) → length (spaced limits.assumptions l) ≤ 89 * length l
unfolding spaced word
spaced_length l = each_length (λ E. word " " ++ braced limits.assumptions E) 89 (λ E. omega (arith, braced_length E)) l

pub row_length : (n : ℕ) (words l : List ℕ) → length (row limits.assumptions n words l) ≤ length (digits n) + length words + 89 * length l + 1
unfolding row word
row_length n words l =
    let t : List ℕ = spaced limits.assumptions l ++ (10 ∷ []) in
    omega (arith, length-append (digits n) (words ++ t), length-append words t, length-append (spaced limits.assumptions l) (10 ∷ []), spaced_length l)

field_length : (n : ℕ) → length (field n) ≡ 1 + length (digits n)
unfolding field word
field_length n = omega arith

pub heading_length : (A M J d : ℕ) → A < 100 → M < 100 → J < 1000 → d < 1000 → length (heading A M J d) ≤ 19
unfolding heading word
heading_length A M J d a m j k =
    let t : List ℕ = field d ++ (10 ∷ []) in
    let u : List ℕ = field J ++ t in
    let v : List ℕ = field M ++ u in
    omega (arith, length-append (field A) v, length-append (field M) u, length-append (field J) t, length-append (field d) (10 ∷ []), field_length A, field_length M, field_length J, field_length d, digits_most 1 A a, digits_most 1 M m, digits_most 2 J j, digits_most 2 d k)

pub refusal_length : (r k : ℕ) → r < 100 → k < 2 ^ 32 → length (refusal r k) ≤ 22
unfolding refusal word
refusal_length r k h i =
    let t : List ℕ = field k ++ (10 ∷ []) in
    let j : k < 10 ^ 10 = omega arith in
    omega (arith, length-append (field r) t, length-append (field k) (10 ∷ []), field_length r, field_length k, digits_most 1 r h, digits_most 9 k j)
