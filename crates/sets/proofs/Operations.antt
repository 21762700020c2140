-- What the machine's operations compute is what the definitions say. Assumes nothing.
use Rattle.std.proofs.Common.{Bool, ◌&&◌, ◌||◌, cond, false, true, Some, refl, Less, Equal, Greater}
use Rattle.std.specs.Ordering.{is_lt, is_some_and, nat_cmp, partial_ordering_then}
use mathlib.Core.Path.{◌∙◌, ◌≡◌, ap, ap₂, subst, sym}
use Prim.Native.Nat.{◌%◌, ◌*◌, ◌+◌, ◌-◌, ◌/◌, ◌<◌, ◌^◌, ◌≤◌, min, suc, zero, ℕ}
use native.Mathlib.Decide.{dec_lt}
use native.Mathlib.Nat.{div-eq_of_lt, div-lt_iff_lt-mul, mod-eq_of_lt, one-mul, pow-suc}
use native.Mathlib.Omega.{arith}
use lib.Bits.{and_le_l, and_step, bit_and}
use lib.Count.{ones}
use lib.Dec.{eqb, ltb}
use lib.Pow.{pow-lt, pow_pos}
use borrow.Author.Tests.{eq-eqb, le-ltb, lt-ltb, ne_eqb}
use Rattle.sets.proofs.Membership.{without_step}
use Rattle.theory.specs.Sets.{alone, among, before, digit, in_range, without}

-- a & !b, at every width
pub and_not : (w a b : ℕ) → a < 2 ^ w → b < 2 ^ w → bit_and a ((2 ^ w - 1) - b) ≡ without a b
unfolding without
and_not zero a b p q = omega (arith, and_le_l a ((2 ^ 0 - 1) - b), and_le_l a b)
and_not (suc w) a b p q =
    and_step a ((2 ^ suc w - 1) - b)
    ∙ ap₂ (λ (x y : ℕ). bit_and (a / 2) x * 2 + min (a % 2) y) half low
    ∙ ap (λ (x : ℕ). x * 2 + min (a % 2) (1 - b % 2)) (and_not w (a / 2) (b / 2) (omega (arith, pow-suc 2 w)) (omega (arith, pow-suc 2 w)))
    ∙ omega (arith, without_step a b)
  where
    half : ((2 ^ suc w - 1) - b) / 2 ≡ (2 ^ w - 1) - b / 2
    half = omega (arith, pow-suc 2 w)

    low : ((2 ^ suc w - 1) - b) % 2 ≡ 1 - b % 2
    low = omega (arith, pow-suc 2 w)

-- 1 << (k - 1), at every width
pub shifted : (w k : ℕ) → 1 ≤ k → k ≤ w → 1 * 2 ^ (k - 1) % 2 ^ w ≡ alone k
unfolding alone
shifted w zero p q = absurd (omega arith)
shifted w (suc i) p q =
    let e : suc i - 1 ≡ i = omega arith in
    let h : i < w = omega arith in
    ap (λ (x : ℕ). x % 2 ^ w) (one-mul (2 ^ (suc i - 1))) ∙ ap (λ (x : ℕ). 2 ^ x % 2 ^ w) e ∙ mod-eq_of_lt (pow-lt h)

-- (e >> (k - 1)) % 2 == 1
pub digit_test : (e k : ℕ) → 1 ≤ k → eqb (e / 2 ^ (k - 1) % 2) 1 ≡ among e k
unfolding among digit
digit_test e zero p = absurd (omega arith)
digit_test e (suc i) p = let s : suc i - 1 ≡ i = omega arith in ap (λ (x : ℕ). eqb (e / 2 ^ x % 2) 1) s

-- a is the whole width
pub range_whole : (w e a : ℕ) → e < 2 ^ w → a ≡ w → true ≡ in_range a e
unfolding in_range
range_whole w e a h s = sym (lt-ltb e (2 ^ a) (subst (λ (x : ℕ). e < 2 ^ x) (sym s) h))

-- e >> a == 0
pub range_test : (e a : ℕ) → eqb (e / 2 ^ a) 0 ≡ in_range a e
unfolding in_range
range_test e a = elim (dec_lt e (2 ^ a)) [
  | yes h ↦ eq-eqb (e / 2 ^ a) 0 (div-eq_of_lt h) ∙ sym (lt-ltb e (2 ^ a) h)
  | no h ↦ ne_eqb (e / 2 ^ a) 0 (λ z. h (omega (arith, (div-lt_iff_lt-mul {k = 2 ^ a} {x = e} {y = 1} (pow_pos a)).0 (omega arith)))) ∙ sym (le-ltb e (2 ^ a) (omega arith))
]

-- a pair before a pair, as the library compares them, for any tests of the first and of the second
pair_before : (p q r s : Bool) → is_some_and is_lt (partial_ordering_then (Some (cond p Less (cond q Equal Greater))) (Some (cond r Less (cond s Equal Greater)))) ≡ p || (q && r)
pair_before true q r s = refl
pair_before false true true s = refl
pair_before false true false true = refl
pair_before false true false false = refl
pair_before false false r s = refl

pub before_pairs : (f e : ℕ) → is_some_and is_lt (partial_ordering_then (Some (nat_cmp (ones f) (ones e))) (Some (nat_cmp f e))) ≡ before f e
unfolding before
before_pairs f e = pair_before (ltb (ones f) (ones e)) (eqb (ones f) (ones e)) (ltb f e) (eqb f e)
