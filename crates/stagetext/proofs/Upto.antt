-- How long texts for 0, 1, 2 and so on are, one after the other. Assumes nothing.
use mathlib.Core.List.{List, [], ◌++◌, ◌∷◌, append-nil}
use mathlib.Core.Path.{◌∙◌, ◌≡◌, ap, refl, sym}
use Prim.Native.Nat.{◌*◌, ◌+◌, ◌<◌, ◌≤◌, suc, zero, ℕ}
use native.Mathlib.Decide.{le_ind}
use native.Mathlib.Nat.{mul-suc}
use native.Mathlib.Numerals.{add-one}
use native.Mathlib.Omega.{arith}
use lib.ListN.{length, length-append}
use Rattle.theory.specs.Lists.{each, numbers_below}

module _ (f : ℕ → List ℕ) where
  abbrev pub upto : ℕ → List ℕ
  upto n = each f (numbers_below n)

  each_last : (l : List ℕ) (x : ℕ) → each f (l ++ (x ∷ [])) ≡ each f l ++ f x
  unfolding each
  each_last [] x = append-nil (f x)
  each_last (y ∷ l) x = ap (λ (t : List ℕ). f y ++ t) (each_last l x) ∙ sym (assoc (f y) (each f l) (f x))
    where
      assoc : (a b c : List ℕ) → (a ++ b) ++ c ≡ a ++ (b ++ c)
      assoc [] b c = refl
      assoc (z ∷ a) b c = ap (λ (t : List ℕ). z ∷ t) (assoc a b c)

  pub upto_next : (n : ℕ) → upto (n + 1) ≡ upto n ++ f n
  unfolding numbers_below
  upto_next n = ap (λ (k : ℕ). each f (numbers_below k)) (add-one n) ∙ each_last (numbers_below n) n

  pub upto_length : (n : ℕ) → length (upto (n + 1)) ≡ length (upto n) + length (f n)
  upto_length n = ap length (upto_next n) ∙ length-append (upto n) (f n)

  pub upto_none : upto 0 ≡ []
  unfolding numbers_below each
  upto_none = refl

  pub upto_le : (i n : ℕ) → i ≤ n → length (upto i) ≤ length (upto n)
  upto_le i n h = le_ind (λ (j : ℕ). length (upto i) ≤ length (upto j)) (omega arith) (λ j l ih. let e : length (upto (suc j)) ≡ length (upto j) + length (f j) = ap (λ (k : ℕ). length (upto k)) (sym (add-one j)) ∙ upto_length j in omega arith) n h

  pub upto_few : (c N : ℕ) → ((n : ℕ) → n < N → length (f n) ≤ c) → (n : ℕ) → n ≤ N → length (upto n) ≤ c * n
  unfolding numbers_below
  upto_few c N h zero l = let e : length (upto 0) ≡ 0 = ap length upto_none in omega (arith, e)
  upto_few c N h (suc n) l = let e : length (upto (suc n)) ≡ length (upto n) + length (f n) = ap (λ (k : ℕ). length (upto k)) (sym (add-one n)) ∙ upto_length n in omega (arith, e, h n (omega arith), upto_few c N h n (omega arith), times c n)
    where
      times : (c n : ℕ) → c * suc n ≡ c * n + c
      times c n = mul-suc c n
