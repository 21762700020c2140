-- A place as one number: zero where it is unused, and in the order of the justifications. Assumes nothing.
use mathlib.Core.Bool.{Bool, ◌&&◌, ◌||◌, false, true}
use mathlib.Core.List.{List, [], ◌∷◌}
use mathlib.Core.Path.{◌∙◌, ◌≡◌, ap, ap₂, refl, sym}
use Prim.Native.Nat.{◌*◌, ◌+◌, ◌<◌, suc, zero, ℕ}
use native.Mathlib.Decide.{dec_lt}
use native.Mathlib.Omega.{arith}
use lib.Dec.{eqb, ltb}
use lib.ListN.{drop, get_or, length, take}
use lib.Seq.{length-take-le}
use borrow.Author.Tests.{eq-eqb, eqb-true, le-ltb, lt-ltb, ltb-true, ne_eqb}
use Rattle.rules.proofs.Entries.{fits_elim}
use Rattle.rules.proofs.Steps.{four}
use Rattle.rules.specs.Held.{fitting, meaning, unused_entry}
use Rattle.rules.specs.Placing.{Bytes, byte, bytes_in, key_of, value_from}
use Rattle.rules.specs.declared.Entry.{Entry}
use Rattle.std.specs.Int.{from_be_bytes, from_le_bytes}
use Rattle.std.proofs.Common.{w64}
use Rattle.theory.proofs.Lists.{and_intro, and_left, and_right, same_test}
use Rattle.theory.specs.Limits.{limits}
use Rattle.theory.specs.Lists.{all_of}
use Rattle.theory.specs.Stages.{ahead, lesser}

-- ---- bytes as one number

module _ (a b c d x y : ℕ) where
  lowest_first : from_le_bytes w64 (x ∷ y ∷ a ∷ b ∷ c ∷ d ∷ 0 ∷ 0 ∷ []) ≡ x + 256 * y + 65536 * a + 16777216 * b + 4294967296 * c + 1099511627776 * d
  lowest_first = omega arith

  highest_first : from_be_bytes w64 (0 ∷ 0 ∷ x ∷ y ∷ a ∷ b ∷ c ∷ d ∷ []) ≡ value_from 0 (x ∷ y ∷ a ∷ b ∷ c ∷ d ∷ [])
  unfolding value_from
  highest_first = omega arith

  -- all six are zero
  bits_six : (w : ℕ) → w ≡ x + 256 * y + 65536 * a + 16777216 * b + 4294967296 * c + 1099511627776 * d → eqb 0 w ≡ eqb x 0 && (eqb y 0 && all_of (eqb 0) (a ∷ b ∷ c ∷ d ∷ []))
  unfolding all_of
  bits_six w e =
      same_test (λ t.
      let h : 0 ≡ w = eqb-true 0 w t in
      and_intro (eq-eqb x 0 (omega arith)) (and_intro (eq-eqb y 0 (omega arith)) (and_intro (eq-eqb 0 a (omega arith)) (and_intro (eq-eqb 0 b (omega arith)) (and_intro (eq-eqb 0 c (omega arith)) (and_intro (eq-eqb 0 d (omega arith)) refl))))))
      (λ t.
      let t₁ = and_right (eqb x 0) _ t in
      let t₂ = and_right (eqb y 0) _ t₁ in
      let t₃ = and_right (eqb 0 a) _ t₂ in
      let t₄ = and_right (eqb 0 b) _ t₃ in
      let t₅ = and_right (eqb 0 c) _ t₄ in
      eq-eqb 0 w (omega (arith, eqb-true x 0 (and_left (eqb x 0) _ t), eqb-true y 0 (and_left (eqb y 0) _ t₁), eqb-true 0 a (and_left (eqb 0 a) _ t₂), eqb-true 0 b (and_left (eqb 0 b) _ t₃), eqb-true 0 c (and_left (eqb 0 c) _ t₄), eqb-true 0 d (and_left (eqb 0 d) _ t₅))))

-- six bytes are less than 256 to the sixth
pub key_small : (e : Entry) → Bytes e → key_of e < 281474976710656
unfolding key_of all_of value_from
key_small e b =
    let q : e.consequent ∷ e.count ∷ e.supports ≡ e.consequent ∷ e.count ∷ get_or e.supports 0 0 ∷ get_or e.supports 1 0 ∷ get_or e.supports 2 0 ∷ get_or e.supports 3 0 ∷ [] = ap (λ (m : List ℕ). e.consequent ∷ e.count ∷ m) (four e.supports b.1) in
    let t : all_of byte (e.consequent ∷ e.count ∷ get_or e.supports 0 0 ∷ get_or e.supports 1 0 ∷ get_or e.supports 2 0 ∷ get_or e.supports 3 0 ∷ []) ≡ true = ap (all_of byte) (sym q) ∙ b.0 in
    rw q (six e.consequent e.count (get_or e.supports 0 0) (get_or e.supports 1 0) (get_or e.supports 2 0) (get_or e.supports 3 0) t)
  where
    six : (x y a b c d : ℕ) → all_of byte (x ∷ y ∷ a ∷ b ∷ c ∷ d ∷ []) ≡ true → value_from 0 (x ∷ y ∷ a ∷ b ∷ c ∷ d ∷ []) < 281474976710656
    six x y a b c d t =
        let t₁ = and_right (byte x) _ t in
        let t₂ = and_right (byte y) _ t₁ in
        let t₃ = and_right (byte a) _ t₂ in
        let t₄ = and_right (byte b) _ t₃ in
        let t₅ = and_right (byte c) _ t₄ in
        omega (arith, ltb-true x 256 (and_left (byte x) _ t), ltb-true y 256 (and_left (byte y) _ t₁), ltb-true a 256 (and_left (byte a) _ t₂), ltb-true b 256 (and_left (byte b) _ t₃), ltb-true c 256 (and_left (byte c) _ t₄), ltb-true d 256 (and_left (byte d) _ t₅))

module _ (e : Entry) (long : length e.supports ≡ limits.supports) where
  abbrev at : ℕ → ℕ
  at i = get_or e.supports i 0

  -- zero where the place is unused
  pub bits_entry : (w : ℕ) → w ≡ from_le_bytes w64 (e.consequent ∷ e.count ∷ at 0 ∷ at 1 ∷ at 2 ∷ at 3 ∷ 0 ∷ 0 ∷ []) → eqb 0 w ≡ unused_entry e
  unfolding unused_entry
  bits_entry w h =
      bits_six (at 0) (at 1) (at 2) (at 3) e.consequent e.count w (h ∙ lowest_first (at 0) (at 1) (at 2) (at 3) e.consequent e.count)
      ∙ ap (λ (m : List ℕ). eqb e.consequent 0 && (eqb e.count 0 && all_of (eqb 0) m)) (sym (four e.supports long))
      ∙ ap (λ (b : Bool). eqb e.consequent 0 && (eqb e.count 0 && (b && all_of (eqb 0) e.supports))) (sym (eq-eqb (length e.supports) limits.supports long))

  -- the place as one number, and its bytes
  pub key_entry : (w : ℕ) → w ≡ from_be_bytes w64 (0 ∷ 0 ∷ e.consequent ∷ e.count ∷ at 0 ∷ at 1 ∷ at 2 ∷ at 3 ∷ []) → w ≡ key_of e
  unfolding key_of
  key_entry w h = h ∙ highest_first (at 0) (at 1) (at 2) (at 3) e.consequent e.count ∙ ap (λ (m : List ℕ). value_from 0 (e.consequent ∷ e.count ∷ m)) (sym (four e.supports long))

  bytes_four : at 0 < 256 → at 1 < 256 → at 2 < 256 → at 3 < 256 → all_of byte (at 0 ∷ at 1 ∷ at 2 ∷ at 3 ∷ []) ≡ true
  unfolding all_of
  bytes_four p q r s = and_intro (lt-ltb (at 0) 256 p) (and_intro (lt-ltb (at 1) 256 q) (and_intro (lt-ltb (at 2) 256 r) (and_intro (lt-ltb (at 3) 256 s) refl)))

  pub bytes_entry : e.consequent < 256 → e.count < 256 → at 0 < 256 → at 1 < 256 → at 2 < 256 → at 3 < 256 → Bytes e
  unfolding all_of
  bytes_entry p q a₀ a₁ a₂ a₃ = (and_intro (lt-ltb e.consequent 256 p) (and_intro (lt-ltb e.count 256 q) (ap (all_of byte) (four e.supports long) ∙ bytes_four a₀ a₁ a₂ a₃)), long)

-- the higher first number makes the higher value
value_less : (v w : ℕ) (a b : List ℕ) → length a ≡ length b → all_of byte a ≡ true → all_of byte b ≡ true → v < w → value_from v a < value_from w b
unfolding value_from all_of
value_less v w [] [] e p q h = h
value_less v w [] (y ∷ b) e p q h = absurd (omega arith)
value_less v w (x ∷ a) [] e p q h = absurd (omega arith)
value_less v w (x ∷ a) (y ∷ b) e p q h =
    value_less (256 * v + x) (256 * w + y) a b (omega arith) (and_right (byte x) _ p) (and_right (byte y) _ q) (omega (arith, ltb-true x 256 (and_left (byte x) _ p)))

-- bytes are in the order of their values
lesser_value : (v : ℕ) (a b : List ℕ) → length a ≡ length b → all_of byte a ≡ true → all_of byte b ≡ true → lesser a b ≡ ltb (value_from v a) (value_from v b)
unfolding value_from all_of lesser
lesser_value v [] [] e p q = sym (le-ltb v v (omega arith))
lesser_value v [] (y ∷ b) e p q = absurd (omega arith)
lesser_value v (x ∷ a) [] e p q = absurd (omega arith)
lesser_value v (x ∷ a) (y ∷ b) e p q =
    let l : length a ≡ length b = omega arith in
    let f = and_right (byte x) _ p in
    let g = and_right (byte y) _ q in
    elim (dec_lt x y) [
      | yes h ↦ ap (λ (t : Bool). t || (eqb x y && lesser a b)) (lt-ltb x y h) ∙ sym (lt-ltb (value_from (256 * v + x) a) (value_from (256 * v + y) b) (value_less (256 * v + x) (256 * v + y) a b l f g (omega arith)))
      | no h ↦ elim (dec_lt y x) [
        | yes k ↦ ap₂ (λ (t u : Bool). t || (u && lesser a b)) (le-ltb x y (omega arith)) (ne_eqb x y (λ z. omega arith)) ∙ sym (le-ltb (value_from (256 * v + x) a) (value_from (256 * v + y) b) (omega (arith, value_less (256 * v + y) (256 * v + x) b a (sym l) g f (omega arith))))
        | no k ↦ (let z : x ≡ y = omega arith in
            ap₂ (λ (t u : Bool). t || (u && lesser a b)) (le-ltb x y (omega arith)) (eq-eqb x y z) ∙ lesser_value (256 * v + x) a b l f g
            ∙ ap (λ (w : ℕ). ltb (value_from (256 * v + x) a) (value_from (256 * v + w) b)) z)
      ]
    ]

-- ---- zeros at the end do not count
lesser_zeros : (a b : List ℕ) → length a ≡ length b → all_of (eqb 0) a ≡ true → all_of (eqb 0) b ≡ true → lesser a b ≡ false
unfolding all_of lesser
lesser_zeros a [] e p q = refl
lesser_zeros [] (y ∷ b) e p q = absurd (omega arith)
lesser_zeros (x ∷ a) (y ∷ b) e p q =
    let f : 0 ≡ x = eqb-true 0 x (and_left (eqb 0 x) _ p) in
    let g : 0 ≡ y = eqb-true 0 y (and_left (eqb 0 y) _ q) in
    ap₂ (λ (t u : Bool). t || (u && lesser a b)) (le-ltb x y (omega arith)) (eq-eqb x y (omega arith)) ∙ lesser_zeros a b (omega arith) (and_right (eqb 0 x) _ p) (and_right (eqb 0 y) _ q)

lesser_first : (n : ℕ) (s t : List ℕ) → length s ≡ length t → all_of (eqb 0) (drop n s) ≡ true → all_of (eqb 0) (drop n t) ≡ true → lesser (take n s) (take n t) ≡ lesser s t
unfolding lesser
lesser_first zero s t e p q = sym (lesser_zeros s t e p q)
lesser_first (suc n) [] [] e p q = refl
lesser_first (suc n) [] (y ∷ t) e p q = absurd (omega arith)
lesser_first (suc n) (x ∷ s) [] e p q = absurd (omega arith)
lesser_first (suc n) (x ∷ s) (y ∷ t) e p q = ap (λ (b : Bool). ltb x y || (eqb x y && b)) (lesser_first n s t (omega arith) p q)

-- ---- two places in range
module _ (N : ℕ) (e f : Entry) (h : fitting N e ≡ true) (k : fitting N f ≡ true) (p : Bytes e) (q : Bytes f) where
  mine : length (take e.count e.supports) ≡ e.count
  mine = length-take-le e.count e.supports (omega (arith, (fits_elim N e h).few, p.1))

  theirs : length (take f.count f.supports) ≡ f.count
  theirs = length-take-le f.count f.supports (omega (arith, (fits_elim N f k).few, q.1))

  alike_counts : (t : Bool) → eqb e.count f.count ≡ t
      → t && lesser (take e.count e.supports) (take f.count f.supports) ≡ t && lesser e.supports f.supports
  alike_counts false r = refl
  alike_counts true r =
      let c : e.count ≡ f.count = eqb-true e.count f.count r in
      ap (λ (n : ℕ). lesser (take e.count e.supports) (take n f.supports)) (sym c)
      ∙ lesser_first e.count e.supports f.supports (p.1 ∙ sym q.1) (fits_elim N e h).spare
      (ap (λ (n : ℕ). all_of (eqb 0) (drop n f.supports)) c ∙ (fits_elim N f k).spare)

  -- they stand as their numbers do
  pub ahead_key : ahead (meaning e) (meaning f) ≡ ltb (key_of e) (key_of f)
  unfolding ahead key_of lesser
  ahead_key =
      ap₂ (λ (m n : ℕ). ltb e.consequent f.consequent || (eqb e.consequent f.consequent && (ltb m n || (eqb m n && lesser (take e.count e.supports) (take f.count f.supports))))) mine theirs
      ∙ ap (λ (b : Bool). ltb e.consequent f.consequent || (eqb e.consequent f.consequent && (ltb e.count f.count || b))) (alike_counts (eqb e.count f.count) refl)
      ∙ lesser_value 0 (bytes_in e) (bytes_in f) (omega (arith, p.1, q.1)) p.0 q.0
