-- Laws of the meet of two sets. Assumes nothing.
use mathlib.Core.Bool.{true}
use mathlib.Core.Path.{◌∙◌, ◌≡◌, ap₂}
use Prim.Native.Nat.{ℕ}
use native.Mathlib.Omega.{arith}
use lib.Bits.{and_comm, or_comm}
use Rattle.std.proofs.lemmas.Nat.Bits.{bit_at_and, bit_at_or, same_from_bits}
use Rattle.theory.proofs.Sets.{or_within, within_or, within_right, within_trans}
use Rattle.theory.specs.Sets.{union, within}
use Rattle.sets.specs.Promised.{meet}

union_meet : (t a b : ℕ) → union t (meet a b) ≡ meet (union t a) (union t b)
union_meet t a b =
    same_from_bits (union t (meet a b)) (meet (union t a) (union t b))
    (λ i. omega (arith, bit_at_or t (meet a b) i, bit_at_and a b i, bit_at_and (union t a) (union t b) i, bit_at_or t a i, bit_at_or t b i))

meet_union : (a b : ℕ) → union (meet a b) a ≡ a
meet_union a b = same_from_bits (union (meet a b) a) a (λ i. omega (arith, bit_at_or (meet a b) a i, bit_at_and a b i))

pub meet_left : (a b : ℕ) → within (meet a b) a ≡ true
meet_left a b = or_within (meet a b) a (meet_union a b)

pub meet_right : (a b : ℕ) → within (meet a b) b ≡ true
meet_right a b = rw (and_comm a b) (meet_left b a)

-- what lies within both lies within the meet
pub meet_both : (t a b : ℕ) → within t a ≡ true → within t b ≡ true → within t (meet a b) ≡ true
meet_both t a b p q = or_within t (meet a b) (union_meet t a b ∙ ap₂ meet (within_or t a p) (within_or t b q))

pub meet_joined : (G F K : ℕ) → within (meet (union G F) K) (union (meet G K) F) ≡ true
meet_joined G F K =
    rw (or_comm (meet G K) F, union_meet F G K)
    (meet_both (meet (union G F) K) (union F G) (union F K) (rw (or_comm F G) (meet_left (union G F) K)) (within_trans (meet (union G F) K) K (union F K) (meet_right (union G F) K) (within_right F K)))
