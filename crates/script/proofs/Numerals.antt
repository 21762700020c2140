-- Decimal numbers digit by digit, as a loop reads them, and hex bytes by the values of their two digits. Assumes nothing.
use Rattle.std.specs.Prelude.{Bool, ◌&&◌, false, true, List, [], ◌∷◌, ◌*◌, ◌+◌, ◌-◌, ◌<◌, ◌≤◌, ◌≡◌, ℕ, None, Option, Some, SomeIff, leb, get_or, drop, length}
use Rattle.std.specs.Char.{digit_value}
use Rattle.std.proofs.Common.{arith, refl, sym, ap, ap₂, ◌∙◌, add-one}
use Rattle.std.proofs.lemmas.Bool.Decides.{nat_tests}
use native.Mathlib.Decide.{ℕ_discrete}
use lib.ListN.{drop_of_length-le}
use lib.Seq.{drop-cons}
use borrow.Author.Tests.{le-leb, le-ltb, lt-leb, lt-ltb}
use Rattle.script.specs.Script.{between, decimals, hex_byte, hex_digit, numeral, paired}
use Rattle.theory.specs.Lists.{all_of, choose}

pub never : {X : Type 0} (t : Bool) (x y : X) → choose (t && false) x y ≡ y
never true x y = refl
never false x y = refl

-- ---- decimal numbers

-- the digits of l after others that say v
unfoldable pub numeral_from : ℕ → List ℕ → Option ℕ
numeral_from v l = choose (all_of (between 48 57) l && leb (decimals v l) 4294967295) (Some (decimals v l)) None

pub numeral_empty : (f : List ℕ) → length f ≡ 0 → numeral f ≡ None
unfolding numeral
numeral_empty f h = rw (le-ltb 0 (length f) (omega arith))

pub numeral_start : (f : List ℕ) → (length f ≡ 0 → ⊥) → numeral f ≡ numeral_from 0 f
unfolding numeral numeral_from
numeral_start f h = rw (lt-ltb 0 (length f) (omega arith))

-- more digits make a number no smaller
decimals_more : (l : List ℕ) (v : ℕ) → v ≤ decimals v l
unfolding decimals
decimals_more [] v = omega arith
decimals_more (b ∷ l) v = omega (arith, decimals_more l (v * 10 + (b - 48)))

-- a decimal digit by its value
digit_in : (b : ℕ) → digit_value b < 10 → (between 48 57 b ≡ true) × (b - 48 ≡ digit_value b)
digit_in b h = grind (arith, nat_tests)

digit_out : (b : ℕ) → (digit_value b < 10 → ⊥) → between 48 57 b ≡ false
digit_out b h = grind (arith, nat_tests)

module _ (f : List ℕ) (i v : ℕ) where
  abbrev byte : ℕ
  byte = get_or f i 0

  abbrev digit : ℕ
  digit = digit_value byte

  step : i < length f → numeral_from v (drop i f) ≡ choose ((between 48 57 byte && all_of (between 48 57) (drop (i + 1) f)) && leb (decimals (v * 10 + (byte - 48)) (drop (i + 1) f)) 4294967295) (Some (decimals (v * 10 + (byte - 48)) (drop (i + 1) f))) None
  unfolding numeral_from all_of decimals
  step h = ap (numeral_from v) (drop-cons f i 0 h ∙ ap (λ (j : ℕ). byte ∷ drop j f) (sym (add-one i)))

  pub numeral_bad : i < length f → (digit < 10 → ⊥) → numeral_from v (drop i f) ≡ None
  numeral_bad h k = step h ∙ rw (digit_out byte k)

  pub numeral_more : i < length f → digit < 10 → numeral_from v (drop i f) ≡ numeral_from (v * 10 + digit) (drop (i + 1) f)
  unfolding numeral_from
  numeral_more h k =
      let rest : List ℕ = drop (i + 1) f in
      let d = digit_in byte k in
      step h ∙ ap₂ (λ (t : Bool) (n : ℕ). choose ((t && all_of (between 48 57) rest) && leb (decimals (v * 10 + n) rest) 4294967295) (Some (decimals (v * 10 + n) rest)) None) d.0 d.1

  pub numeral_large : i < length f → digit < 10 → 4294967295 < v * 10 + digit → numeral_from v (drop i f) ≡ None
  unfolding numeral_from
  numeral_large h k large =
      let next : ℕ = v * 10 + digit in
      let over : 4294967295 < decimals next (drop (i + 1) f) = omega (arith, decimals_more (drop (i + 1) f) next) in
      numeral_more h k ∙ rw (lt-leb (decimals next (drop (i + 1) f)) 4294967295 over) (never (all_of (between 48 57) (drop (i + 1) f)) (Some (decimals next (drop (i + 1) f))) None)

  pub numeral_end : length f ≤ i → v ≤ 4294967295 → numeral_from v (drop i f) ≡ Some v
  unfolding numeral_from all_of decimals
  numeral_end h k = rw (drop_of_length-le f {i = i} h, le-leb v 4294967295 k)

-- ---- hex bytes

-- a hex digit by the value of its character
pub hex_value : (b c : ℕ) (o : Option ℕ) → c ≡ b → SomeIff o (digit_value c < 16) (digit_value c) → o ≡ hex_digit b
unfolding hex_digit
hex_value b c None e h = grind (arith, nat_tests)
hex_value b c (Some d) e h = grind (arith, nat_tests)

pub hex_other : (f : List ℕ) → (length f ≡ 2 → ⊥) → hex_byte f ≡ None
unfolding hex_byte
hex_other [] h = refl
hex_other (a ∷ []) h = refl
hex_other (a ∷ b ∷ []) h = absurd (h refl)
hex_other (a ∷ b ∷ d ∷ f) h = refl

pub hex_two : (f : List ℕ) → length f ≡ 2 → hex_byte f ≡ paired (hex_digit (get_or f 0 0)) (hex_digit (get_or f 1 0))
unfolding hex_byte
hex_two [] h = absurd (omega arith)
hex_two (a ∷ []) h = absurd (omega arith)
hex_two (a ∷ b ∷ []) h = refl
hex_two (a ∷ b ∷ d ∷ f) h = absurd (omega arith)

-- a digit is below 16
pub digit_small : (b n : ℕ) → hex_digit b ≡ Some n → n < 16
unfolding hex_digit
digit_small b n e = grind (arith, nat_tests, e)

paired_small : (o p : Option ℕ) (n : ℕ) → ((m : ℕ) → o ≡ Some m → m < 16) → ((m : ℕ) → p ≡ Some m → m < 16) → paired o p ≡ Some n → n < 256
paired_small (Some h) (Some l) n f g e = grind (arith, f h refl, g l refl, e)
paired_small (Some h) None n f g e = grind (arith, e)
paired_small None p n f g e = grind (arith, e)

-- two digits make a byte
pub byte_small : (f : List ℕ) (n : ℕ) → hex_byte f ≡ Some n → n < 256
byte_small f n e = elim (ℕ_discrete (length f) 2) [
  | yes h ↦ paired_small (hex_digit (get_or f 0 0)) (hex_digit (get_or f 1 0)) n (digit_small (get_or f 0 0)) (digit_small (get_or f 1 0)) (sym (hex_two f h) ∙ e)
  | no h ↦ let k : hex_byte f ≡ None = hex_other f h in grind (arith, e, k)
]
