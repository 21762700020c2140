-- The steps of the loops and the branches of the code, over plain variables. Assumes nothing.
use mathlib.Core.Bool.{Bool, ◌&&◌, false, not, true}
use mathlib.Core.List.{List, [], ◌∷◌, map}
use mathlib.Core.Path.{◌∙◌, ◌≡◌, ap, ap₂, refl, sym}
use Prim.Native.Nat.{◌%◌, ◌*◌, ◌+◌, ◌<◌, ◌^◌, ◌≤◌, suc, zero, ℕ}
use native.Mathlib.Nat.{le_of_suc-le-suc, not-suc-le-zero}
use native.Mathlib.Decide.{dec_le}
use native.Mathlib.Numerals.{add-one}
use native.Mathlib.Omega.{arith}
use lib.Dec.{eqb, leb, ltb}
use lib.ListN.{drop, drop_of_length-le, get_or, length, length-map, length-take, take}
use lib.Seq.{drop-cons, get_or-take}
use borrow.Author.Tests.{eq-eqb, eqb-true, le-leb, le-ltb, leb-true, lt-leb, lt-ltb, ltb-true, ne_eqb}
use Rattle.std.specs.Int.{from_le_bytes}
use Rattle.std.proofs.Common.{w32}
use Rattle.rules.specs.Held.{climbs, fitting}
use Rattle.rules.specs.declared.Entry.{Entry}
use Rattle.slices.proofs.Laws.{any_hit, any_miss}
use Rattle.theory.proofs.Lists.{and_intro, and_left, and_right, clash, same_test}
use Rattle.theory.specs.Limits.{limits}
use Rattle.theory.specs.Lists.{all_of, some_of}

-- what is read past the last place
abbrev pub beyond : Entry
beyond = record { consequent = 0; count = 0; supports = [] }

-- the number of elements of an array of structs, from what owning it tells
pub length_mapped : (X Y : Type 0) (f : X → Y) (l : List X) (n : ℕ) → length (map f l) ≡ n → length l ≡ n
length_mapped X Y f l n p = sym (length-map l f) ∙ p

-- ---- a list, one by one
pub all_at : {X : Type 0} (p : X → Bool) (l : List X) (i : ℕ) (z : X) → all_of p l ≡ true → i < length l → p (get_or l i z) ≡ true
unfolding all_of
all_at p [] i z h k = absurd (not-suc-le-zero k)
all_at p (x ∷ l) zero z h k = and_left (p x) (all_of p l) h
all_at p (x ∷ l) (suc i) z h k = all_at p l i z (and_right (p x) (all_of p l) h) (le_of_suc-le-suc k)

pub all_places : {X : Type 0} (p : X → Bool) (l : List X) (z : X) → ((i : ℕ) → i < length l → p (get_or l i z) ≡ true) → all_of p l ≡ true
unfolding all_of
all_places p [] z f = refl
all_places p (x ∷ l) z f = and_intro (f 0 (omega arith)) (all_places p l z (λ i h. f (suc i) (omega arith)))

pub all_first : {X : Type 0} (p : X → Bool) (l : List X) (n i : ℕ) (z : X) → n ≤ length l → all_of p (take n l) ≡ true → i < n → p (get_or l i z) ≡ true
all_first p l n i z f h k = ap p (sym (get_or-take n l i z k)) ∙ all_at p (take n l) i z h (omega (arith, length-take n l))

-- ---- numbers that rise
pub and_none : (a : Bool) → a && false ≡ false
and_none true = refl
and_none false = refl

and_all : (a : Bool) → a && true ≡ a
and_all true = refl
and_all false = refl

module _ (N p : ℕ) (l : List ℕ) (i : ℕ) where
  climbs_step : i < length l → climbs N p (drop i l) ≡ ltb p (get_or l i 0) && (leb (get_or l i 0) N && climbs N (get_or l i 0) (drop (i + 1) l))
  unfolding climbs
  climbs_step h =
      ap (climbs N p) (drop-cons l i 0 h)
      ∙ ap (λ (j : ℕ). ltb p (get_or l i 0) && (leb (get_or l i 0) N && climbs N (get_or l i 0) (drop j l))) (sym (add-one i))

  step_low : i < length l → get_or l i 0 ≤ p → climbs N p (drop i l) ≡ false
  step_low h k = climbs_step h ∙ rw (le-ltb p (get_or l i 0) k)

  step_high : i < length l → p < get_or l i 0 → N < get_or l i 0 → climbs N p (drop i l) ≡ false
  step_high h k m = climbs_step h ∙ rw (lt-ltb p (get_or l i 0) k, lt-leb (get_or l i 0) N m)

  step_more : i < length l → p < get_or l i 0 → get_or l i 0 ≤ N → climbs N p (drop i l) ≡ climbs N (get_or l i 0) (drop (i + 1) l)
  step_more h k m = climbs_step h ∙ rw (lt-ltb p (get_or l i 0) k, le-leb (get_or l i 0) N m)

  -- of the rest: it rises, and has no n
  abbrev rest_right : ℕ → ℕ → ℕ → Bool
  rest_right n q j = climbs N q (drop j l) && not (some_of (eqb n) (drop j l))

  climbs_low : (n : ℕ) → i < length l → get_or l i 0 ≤ p → rest_right n p i ≡ false
  climbs_low n h k = ap (λ (b : Bool). b && not (some_of (eqb n) (drop i l))) (step_low h k)

  climbs_high : (n : ℕ) → i < length l → p < get_or l i 0 → N < get_or l i 0 → rest_right n p i ≡ false
  climbs_high n h k m = ap (λ (b : Bool). b && not (some_of (eqb n) (drop i l))) (step_high h k m)

  climbs_own : (n : ℕ) → i < length l → get_or l i 0 ≡ n → rest_right n p i ≡ false
  climbs_own n h e = ap (λ (b : Bool). climbs N p (drop i l) && not b) (any_hit (eqb n) l i 0 h (eq-eqb n (get_or l i 0) (sym e))) ∙ and_none (climbs N p (drop i l))

  climbs_more : (n : ℕ) → i < length l → p < get_or l i 0 → get_or l i 0 ≤ N → (get_or l i 0 ≡ n → ⊥) → rest_right n p i ≡ rest_right n (get_or l i 0) (i + 1)
  climbs_more n h k m e =
      ap₂ (λ (a b : Bool). a && not b) (step_more h k m)
      (any_miss (eqb n) l i 0 h (ne_eqb n (get_or l i 0) (λ q. e (sym q))))

  climbs_end : (n : ℕ) → length l ≤ i → rest_right n p i ≡ true
  unfolding climbs some_of
  climbs_end n h = ap (λ (m : List ℕ). climbs N p m && not (some_of (eqb n) m)) (drop_of_length-le l {i = i} h)

  -- .. and what came last is at most N: looked at once, at the end
  pub rises_low : (n : ℕ) → i < length l → get_or l i 0 ≤ p → leb p N && rest_right n p i ≡ false
  rises_low n h k = ap (λ (b : Bool). leb p N && b) (climbs_low n h k) ∙ and_none (leb p N)

  pub rises_own : (n : ℕ) → i < length l → get_or l i 0 ≡ n → leb p N && rest_right n p i ≡ false
  rises_own n h e = ap (λ (b : Bool). leb p N && b) (climbs_own n h e) ∙ and_none (leb p N)

  pub rises_more : (n : ℕ) → i < length l → p < get_or l i 0 → (get_or l i 0 ≡ n → ⊥) → leb p N && rest_right n p i ≡ leb (get_or l i 0) N && rest_right n (get_or l i 0) (i + 1)
  rises_more n h k e = elim (dec_le (get_or l i 0) N) [
    | yes m ↦ ap₂ ◌&&◌ (le-leb p N (omega arith)) (climbs_more n h k m e) ∙ ap (λ (b : Bool). b && rest_right n (get_or l i 0) (i + 1)) (sym (le-leb (get_or l i 0) N m))
    | no m ↦ ap (λ (b : Bool). leb p N && b) (climbs_high n h k (omega arith)) ∙ and_none (leb p N) ∙ ap (λ (b : Bool). b && rest_right n (get_or l i 0) (i + 1)) (sym (lt-leb (get_or l i 0) N (omega arith)))
  ]

  pub rises_start : (b : Bool) → b ≡ leb 0 N && b
  rises_start b = ap (λ (t : Bool). t && b) (sym (le-leb 0 N (omega arith)))

  pub rises_end : (n : ℕ) → length l ≤ i → leb p N && rest_right n p i ≡ leb p N
  rises_end n h = ap (λ (b : Bool). leb p N && b) (climbs_end n h) ∙ and_all (leb p N)

-- ---- four bytes as one number
four_end : (a b c d n : ℕ) → a < 256 → b < 256 → c < 256 → d < 256 → n ≤ 4
    → ltb (a + 256 * b + 65536 * c + 16777216 * d) (1 * 2 ^ (8 * n) % 2 ^ 64) ≡ all_of (eqb 0) (drop n (a ∷ b ∷ c ∷ d ∷ []))
unfolding all_of
four_end a b c d zero p q r s h =
    same_test (λ t. let w : a + 256 * b + 65536 * c + 16777216 * d < 1 = ltb-true (a + 256 * b + 65536 * c + 16777216 * d) 1 t in and_intro (eq-eqb 0 a (omega arith)) (and_intro (eq-eqb 0 b (omega arith)) (and_intro (eq-eqb 0 c (omega arith)) (and_intro (eq-eqb 0 d (omega arith)) refl))))
    (λ t.
    let x = and_right (eqb 0 a) _ t in
    let y = and_right (eqb 0 b) _ x in
    let z = and_right (eqb 0 c) _ y in
    lt-ltb (a + 256 * b + 65536 * c + 16777216 * d) 1 (omega (arith, eqb-true 0 a (and_left (eqb 0 a) _ t), eqb-true 0 b (and_left (eqb 0 b) _ x), eqb-true 0 c (and_left (eqb 0 c) _ y), eqb-true 0 d (and_left (eqb 0 d) _ z))))
four_end a b c d (suc zero) p q r s h =
    same_test (λ t. let w : a + 256 * b + 65536 * c + 16777216 * d < 256 = ltb-true (a + 256 * b + 65536 * c + 16777216 * d) 256 t in and_intro (eq-eqb 0 b (omega arith)) (and_intro (eq-eqb 0 c (omega arith)) (and_intro (eq-eqb 0 d (omega arith)) refl)))
    (λ t.
    let y = and_right (eqb 0 b) _ t in
    let z = and_right (eqb 0 c) _ y in
    lt-ltb (a + 256 * b + 65536 * c + 16777216 * d) 256 (omega (arith, eqb-true 0 b (and_left (eqb 0 b) _ t), eqb-true 0 c (and_left (eqb 0 c) _ y), eqb-true 0 d (and_left (eqb 0 d) _ z))))
four_end a b c d (suc (suc zero)) p q r s h =
    same_test (λ t. let w : a + 256 * b + 65536 * c + 16777216 * d < 65536 = ltb-true (a + 256 * b + 65536 * c + 16777216 * d) 65536 t in and_intro (eq-eqb 0 c (omega arith)) (and_intro (eq-eqb 0 d (omega arith)) refl))
    (λ t. let z = and_right (eqb 0 c) _ t in lt-ltb (a + 256 * b + 65536 * c + 16777216 * d) 65536 (omega (arith, eqb-true 0 c (and_left (eqb 0 c) _ t), eqb-true 0 d (and_left (eqb 0 d) _ z))))
four_end a b c d (suc (suc (suc zero))) p q r s h =
    same_test (λ t. let w : a + 256 * b + 65536 * c + 16777216 * d < 16777216 = ltb-true (a + 256 * b + 65536 * c + 16777216 * d) 16777216 t in and_intro (eq-eqb 0 d (omega arith)) refl)
    (λ t. lt-ltb (a + 256 * b + 65536 * c + 16777216 * d) 16777216 (omega (arith, eqb-true 0 d (and_left (eqb 0 d) _ t))))
four_end a b c d (suc (suc (suc (suc zero)))) p q r s h = lt-ltb (a + 256 * b + 65536 * c + 16777216 * d) 4294967296 (omega arith)
four_end a b c d (suc (suc (suc (suc (suc n))))) p q r s h = absurd (omega arith)

-- the places of a list of four
pub four : (l : List ℕ) → length l ≡ 4 → l ≡ get_or l 0 0 ∷ get_or l 1 0 ∷ get_or l 2 0 ∷ get_or l 3 0 ∷ []
four [] e = absurd (omega arith)
four (a ∷ []) e = absurd (omega arith)
four (a ∷ b ∷ []) e = absurd (omega arith)
four (a ∷ b ∷ c ∷ []) e = absurd (omega arith)
four (a ∷ b ∷ c ∷ d ∷ []) e = refl
four (a ∷ b ∷ c ∷ d ∷ x ∷ l) e = absurd (omega arith)

pub word_ends : (l : List ℕ) (n w : ℕ) → length l ≡ 4 → w ≡ from_le_bytes w32 l → ((i : ℕ) → get_or l i 0 < 256) → n ≤ 4 → ltb w (1 * 2 ^ (8 * n) % 2 ^ 64) ≡ all_of (eqb 0) (drop n l)
word_ends l n w e h b q =
    let v : w ≡ get_or l 0 0 + 256 * get_or l 1 0 + 65536 * get_or l 2 0 + 16777216 * get_or l 3 0 = omega (arith, h) in
    ap (λ (x : ℕ). ltb x (1 * 2 ^ (8 * n) % 2 ^ 64)) v ∙ four_end (get_or l 0 0) (get_or l 1 0) (get_or l 2 0) (get_or l 3 0) n (b 0) (b 1) (b 2) (b 3) q
    ∙ ap (λ (m : List ℕ). all_of (eqb 0) (drop n m)) (sym (four l e))

pub and_first : (a b c : Bool) → a && b ≡ false → a && (b && c) ≡ false
and_first true true c e = clash refl e
and_first true false c e = refl
and_first false b c e = refl

module _ (N : ℕ) (e : Entry) where
  pub fits_above : N < e.consequent → false ≡ fitting N e
  unfolding fitting
  fits_above h = rw (lt-leb e.consequent N h)

  pub fits_many : e.consequent ≤ N → limits.supports < e.count → false ≡ fitting N e
  unfolding fitting
  fits_many h k = rw (le-leb e.consequent N h, lt-leb e.count limits.supports k)

  pub fits_not : e.consequent ≤ N → e.count ≤ limits.supports
      → climbs N 0 (take e.count e.supports) && not (some_of (eqb e.consequent) (take e.count e.supports)) ≡ false → false ≡ fitting N e
  unfolding fitting
  fits_not h k t = rw (le-leb e.consequent N h, le-leb e.count limits.supports k) (sym (and_first (climbs N 0 (take e.count e.supports)) (not (some_of (eqb e.consequent) (take e.count e.supports))) _ t))

  pub fits_rest : e.consequent ≤ N → e.count ≤ limits.supports
      → climbs N 0 (take e.count e.supports) && not (some_of (eqb e.consequent) (take e.count e.supports)) ≡ true → length e.supports ≡ limits.supports
      → (r : Bool) → r ≡ all_of (eqb 0) (drop e.count e.supports) → r ≡ fitting N e
  unfolding fitting
  fits_rest h k t q r p =
      let u : Bool = climbs N 0 (take e.count e.supports) in
      let v : Bool = not (some_of (eqb e.consequent) (take e.count e.supports)) in
      rw (le-leb e.consequent N h, le-leb e.count limits.supports k, and_left u v t, and_right u v t, eq-eqb (length e.supports) limits.supports q) p

pub fitting_count : (N : ℕ) (e : Entry) → fitting N e ≡ true → e.count ≤ limits.supports
unfolding fitting
fitting_count N e h = leb-true e.count limits.supports (and_left (leb e.count limits.supports) _ (and_right (leb e.consequent N) _ h))
