-- The count of ones of a set is the number of its assumptions. Assumes nothing.
use mathlib.Core.Bool.{Bool, false, true}
use mathlib.Core.List.{List, [], ◌++◌, ◌∷◌, map}
use mathlib.Core.Path.{◌∙◌, ◌≡◌, ap, refl, sym}
use Prim.Native.Nat.{◌%◌, ◌+◌, ◌/◌, ◌<◌, ◌^◌, suc, zero, ℕ}
use native.Mathlib.Nat.{mod-lt, pow-suc, zero-lt-suc}
use native.Mathlib.Numerals.{one-add}
use native.Mathlib.Omega.{arith}
use lib.Count.{ones, ones_step}
use lib.Dec.{eqb}
use lib.ListN.{length}
use lib.Pow.{shr-shr}
use Rattle.theory.specs.Lists.{keep, numbers_below, numbers_to, those}
use Rattle.theory.specs.Sets.{among, digit}

-- the numbers below n + 1: 0, then one more than each below n
map_last : (f : ℕ → ℕ) (l : List ℕ) (x : ℕ) → map f (l ++ x ∷ []) ≡ map f l ++ f x ∷ []
map_last f [] x = refl
map_last f (y ∷ l) x = ap (λ (m : List ℕ). f y ∷ m) (map_last f l x)

below_first : (n : ℕ) → numbers_below (suc n) ≡ 0 ∷ map suc (numbers_below n)
unfolding numbers_below
below_first zero = refl
below_first (suc n) = ap (λ (l : List ℕ). l ++ suc n ∷ []) (below_first n) ∙ ap (λ (l : List ℕ). 0 ∷ l) (sym (map_last suc (numbers_below n) n))

-- as many pass as pass of what f makes of them
passing : (p q : ℕ → Bool) (f : ℕ → ℕ) → ((x : ℕ) → p (f x) ≡ q x) → (l : List ℕ) → length (those p (map f l)) ≡ length (those q l)
unfolding those
passing p q f h [] = refl
passing p q f h (x ∷ l) = ap (λ (b : Bool). length (keep b (f x) (those p (map f l)))) (h x) ∙ go (q x) (passing p q f h l)
  where
    go : (b : Bool) → length (those p (map f l)) ≡ length (those q l) → length (keep b (f x) (those p (map f l))) ≡ length (keep b x (those q l))
    go true e = ap suc e
    go false e = e

-- the digits of E above its lowest are those of E / 2
higher : (E i : ℕ) → digit E (suc i) ≡ digit (E / 2) i
unfolding digit
higher E i = ap (λ (x : ℕ). eqb (E / 2 ^ x % 2) 1) (sym (one-add i)) ∙ ap (λ (x : ℕ). eqb (x % 2) 1) (sym (shr-shr E 1 i))

lowest : (E : ℕ) → digit E 0 ≡ eqb (E % 2) 1
unfolding digit
lowest E = let e : E / 2 ^ 0 ≡ E = omega arith in ap (λ (x : ℕ). eqb (x % 2) 1) e

digit_count : (d : ℕ) → d < 2 → (l : List ℕ) → length (keep (eqb d 1) 0 l) ≡ d + length l
digit_count zero h l = omega arith
digit_count (suc zero) h l = omega arith
digit_count (suc (suc d)) h l = absurd (omega arith)

none_counted : ones 0 ≡ 0
unfolding ones
none_counted = refl

first_kept : (E A : ℕ) → length (those (digit E) (numbers_below (suc A))) ≡ length (keep (digit E 0) 0 (those (digit E) (map suc (numbers_below A))))
unfolding those
first_kept E A = ap (λ (l : List ℕ). length (those (digit E) l)) (below_first A)

count_digits : (A E : ℕ) → E < 2 ^ A → ones E ≡ length (those (digit E) (numbers_below A))
unfolding numbers_below those
count_digits zero E h = let e : E ≡ 0 = omega arith in ap ones e ∙ none_counted
count_digits (suc A) E h =
    ones_step E ∙ ap (λ (n : ℕ). E % 2 + n) (count_digits A (E / 2) (omega (arith, pow-suc 2 A)) ∙ sym (passing (digit E) (digit (E / 2)) suc (higher E) (numbers_below A)))
    ∙ sym (digit_count (E % 2) (mod-lt E (zero-lt-suc 1)) (those (digit E) (map suc (numbers_below A))))
    ∙ ap (λ (b : Bool). length (keep b 0 (those (digit E) (map suc (numbers_below A))))) (sym (lowest E)) ∙ sym (first_kept E A)

pub ones_members : (A E : ℕ) → E < 2 ^ A → ones E ≡ length (those (among E) (numbers_to A))
unfolding numbers_to among
ones_members A E h = count_digits A E h ∙ sym (passing (among E) (digit E) suc (λ x. refl) (numbers_below A))
