-- Laws of sets of assumptions: union, subset, membership. Assumes nothing.
use mathlib.Core.Bool.{true}
use mathlib.Core.Path.{◌≡◌, ap}
use Prim.Native.Nat.{◌≤◌, suc, zero, ℕ}
use native.Mathlib.Omega.{arith}
use lib.Bits.{and_le_r, or_add_and, or_comm, or_self, or_zero_l}
use borrow.Author.Tests.{eq-eqb, eqb-true}
use Rattle.std.proofs.lemmas.Nat.Bits.{bit_at-lt, bit_at_or, same_from_bits}
use Rattle.std.specs.Int.{bit_at}
use Rattle.theory.specs.Sets.{among, digit, union, within}

-- ---- union

pub or_assoc : (a b c : ℕ) → union (union a b) c ≡ union a (union b c)
or_assoc a b c =
    same_from_bits (union (union a b) c) (union a (union b c))
    (λ i. omega (arith, bit_at_or (union a b) c i, bit_at_or a b i, bit_at_or a (union b c) i, bit_at_or b c i))

-- ---- within

pub within_or : (F E : ℕ) → within F E ≡ true → union F E ≡ E
unfolding within
within_or F E h = eqb-true (union F E) E h

pub or_within : (F E : ℕ) → union F E ≡ E → within F E ≡ true
unfolding within
or_within F E h = eq-eqb (union F E) E h

pub within_refl : (E : ℕ) → within E E ≡ true
within_refl E = or_within E E (or_self E)

pub within_trans : (F G H : ℕ) → within F G ≡ true → within G H ≡ true → within F H ≡ true
within_trans F G H p q = or_within F H (cc (within_or F G p, within_or G H q, or_assoc F G H))

pub within_antisym : (F G : ℕ) → within F G ≡ true → within G F ≡ true → F ≡ G
within_antisym F G p q = cc (within_or F G p, within_or G F q, or_comm F G)

pub within_left : (F G : ℕ) → within F (union F G) ≡ true
within_left F G = or_within F (union F G) (cc (or_assoc F F G, or_self F))

pub within_right : (F G : ℕ) → within G (union F G) ≡ true
within_right F G = or_within G (union F G) (cc (or_assoc G G F, or_self G, or_comm F G))

pub within_join : (F G H : ℕ) → within F H ≡ true → within G H ≡ true → within (union F G) H ≡ true
within_join F G H p q = or_within (union F G) H (cc (within_or F H p, within_or G H q, or_assoc F G H))

pub within_zero : (E : ℕ) → within 0 E ≡ true
within_zero E = or_within 0 E (or_zero_l E)

pub within_le : (F E : ℕ) → within F E ≡ true → F ≤ E
within_le F E h = omega (arith, within_or F E h, or_add_and F E, and_le_r F E)

pub among_within : (F E n : ℕ) → within F E ≡ true → among F n ≡ true → among E n ≡ true
unfolding among digit
among_within F E zero h m = m
among_within F E (suc i) h m =
    let o = eqb-true (bit_at F i) 1 m in
    eq-eqb (bit_at E i) 1 (omega (arith, o, bit_at_or F E i, ap (λ (z : ℕ). bit_at z i) (within_or F E h), bit_at-lt E i))
