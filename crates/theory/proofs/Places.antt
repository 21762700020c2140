-- Laws of places, and of tests made element by element, as a loop makes them. Assumes nothing.
use mathlib.Core.Bool.{Bool, ◌&&◌, ◌||◌, false, true}
use mathlib.Core.List.{List}
use mathlib.Core.Path.{◌∙◌, ◌≡◌, ap, refl, sym}
use Prim.Native.Nat.{◌+◌, ◌<◌, ◌≤◌, suc, zero, ℕ}
use native.Mathlib.Nat.{le_of_suc-le-suc, not-suc-le-zero}
use native.Mathlib.Numerals.{add-one}
use native.Mathlib.Omega.{arith}
use lib.ListN.{drop, drop_of_length-le, get_or, length, length-take, take}
use lib.Seq.{drop-cons, ext_get_or, get_or-take}
use Rattle.theory.specs.Lists.{all_of, some_of}
use Rattle.theory.specs.Places.{table}

module _ {X : Type 0} where
  pub length_table : (n : ℕ) (f : ℕ → X) → length (table n f) ≡ n
  unfolding table
  length_table zero f = refl
  length_table (suc n) f = ap suc (length_table n (λ i. f (suc i)))

  pub get_d_table : (n : ℕ) (f : ℕ → X) (i : ℕ) (z : X) → i < n → get_or (table n f) i z ≡ f i
  unfolding table
  get_d_table zero f i z h = absurd (not-suc-le-zero h)
  get_d_table (suc n) f zero z h = refl
  get_d_table (suc n) f (suc i) z h = get_d_table n (λ i. f (suc i)) i z (le_of_suc-le-suc h)

  -- a list of n places is the table of what stands in it
  pub is_table : (l : List X) (n : ℕ) (f : ℕ → X) (z : X) → length l ≡ n → ((i : ℕ) → i < n → get_or l i z ≡ f i) → l ≡ table n f
  is_table l n f z e h =
      ext_get_or z l (table n f) (e ∙ sym (length_table n f)) (λ i p. let q : i < n = omega arith in h i q ∙ sym (get_d_table n f i z q))

  -- a test of all, element by element
  pub all_step : (p : X → Bool) (l : List X) (i : ℕ) (z : X) → i < length l → all_of p (drop i l) ≡ p (get_or l i z) && all_of p (drop (i + 1) l)
  unfolding all_of
  all_step p l i z h = ap (all_of p) (drop-cons l i z h) ∙ ap (λ (j : ℕ). p (get_or l i z) && all_of p (drop j l)) (sym (add-one i))

  pub all_end : (p : X → Bool) (l : List X) (i : ℕ) → length l ≤ i → all_of p (drop i l) ≡ true
  unfolding all_of
  all_end p l i h = ap (all_of p) (drop_of_length-le l {i = i} h)

  pub all_miss : (p : X → Bool) (l : List X) (i : ℕ) (z : X) → i < length l → p (get_or l i z) ≡ false → all_of p (drop i l) ≡ false
  all_miss p l i z h t = all_step p l i z h ∙ ap (λ (b : Bool). b && all_of p (drop (i + 1) l)) t

  pub all_hit : (p : X → Bool) (l : List X) (i : ℕ) (z : X) → i < length l → p (get_or l i z) ≡ true → all_of p (drop i l) ≡ all_of p (drop (i + 1) l)
  all_hit p l i z h t = all_step p l i z h ∙ ap (λ (b : Bool). b && all_of p (drop (i + 1) l)) t

  pub any_step : (p : X → Bool) (l : List X) (i : ℕ) (z : X) → i < length l → some_of p (drop i l) ≡ p (get_or l i z) || some_of p (drop (i + 1) l)
  unfolding some_of
  any_step p l i z h = ap (some_of p) (drop-cons l i z h) ∙ ap (λ (j : ℕ). p (get_or l i z) || some_of p (drop j l)) (sym (add-one i))

  pub any_end : (p : X → Bool) (l : List X) (i : ℕ) → length l ≤ i → some_of p (drop i l) ≡ false
  unfolding some_of
  any_end p l i h = ap (some_of p) (drop_of_length-le l {i = i} h)

-- the same of the first n of a list
module _ {X : Type 0} (p : X → Bool) (l : List X) (n i : ℕ) (z : X) (fits : n ≤ length l) where
  inside : i < n → i < length (take n l)
  inside h = omega (arith, length-take n l)

  pub all_first_miss : i < n → p (get_or l i z) ≡ false → all_of p (drop i (take n l)) ≡ false
  all_first_miss h t = all_miss p (take n l) i z (inside h) (ap p (get_or-take n l i z h) ∙ t)

  pub all_first_hit : i < n → p (get_or l i z) ≡ true → all_of p (drop i (take n l)) ≡ all_of p (drop (i + 1) (take n l))
  all_first_hit h t = all_hit p (take n l) i z (inside h) (ap p (get_or-take n l i z h) ∙ t)

  pub any_first_step : i < n → some_of p (drop i (take n l)) ≡ p (get_or l i z) || some_of p (drop (i + 1) (take n l))
  any_first_step h = any_step p (take n l) i z (inside h) ∙ ap (λ (x : X). p x || some_of p (drop (i + 1) (take n l))) (get_or-take n l i z h)

  pub all_first_end : n ≤ i → all_of p (drop i (take n l)) ≡ true
  all_first_end h = all_end p (take n l) i (omega (arith, length-take n l))

  pub any_first_end : n ≤ i → some_of p (drop i (take n l)) ≡ false
  any_first_end h = any_end p (take n l) i (omega (arith, length-take n l))
