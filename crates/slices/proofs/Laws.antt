-- The steps of a loop over a list: some pass, all are zero. Assumes nothing.
use mathlib.Core.Bool.{Bool, ◌&&◌, ◌||◌, false, true}
use mathlib.Core.List.{List, [], ◌∷◌}
use mathlib.Core.Path.{◌∙◌, ◌≡◌, ap, ap₂, refl, sym}
use Prim.Native.Nat.{◌+◌, ◌<◌, ◌≤◌, ℕ}
use native.Mathlib.Omega.{arith}
use lib.Bits.{or_zero_l}
use lib.Dec.{eqb}
use lib.ListN.{drop, get_or, length}
use borrow.Author.Tests.{eq-eqb, eqb-true}
use Rattle.theory.proofs.Lists.{and_intro, and_left, and_right, same_test}
use Rattle.theory.proofs.Places.{all_end, all_step, any_step}
use Rattle.theory.proofs.Sets.{within_le, within_left, within_right}
use Rattle.std.specs.List.{fold}
use Rattle.theory.specs.Lists.{all_of, some_of}
use Rattle.theory.specs.Sets.{union}

-- ---- some pass
module _ {X : Type 0} (p : X → Bool) (l : List X) (i : ℕ) (z : X) (h : i < length l) where
  pub any_hit : p (get_or l i z) ≡ true → some_of p (drop i l) ≡ true
  any_hit t = any_step p l i z h ∙ ap (λ (b : Bool). b || some_of p (drop (i + 1) l)) t

  pub any_miss : p (get_or l i z) ≡ false → some_of p (drop i l) ≡ some_of p (drop (i + 1) l)
  any_miss t = any_step p l i z h ∙ ap (λ (b : Bool). b || some_of p (drop (i + 1) l)) t

-- ---- all are zero
-- the test written the other way round
pub turned : (x y : ℕ) → eqb x y ≡ eqb y x
turned x y = same_test (λ t. eq-eqb y x (sym (eqb-true x y t))) (λ t. eq-eqb x y (sym (eqb-true y x t)))

and_true : (a : Bool) → a ≡ a && true
and_true true = refl
and_true false = refl

and_three : (a b c : Bool) → (a && b) && c ≡ a && (b && c)
and_three true b c = refl
and_three false b c = refl

-- no bit in either
pub none_of_both : (x y : ℕ) → eqb 0 (union x y) ≡ eqb 0 x && eqb 0 y
none_of_both x y =
    same_test
    (λ t.
    let z : 0 ≡ union x y = eqb-true 0 (union x y) t in
    and_intro (eq-eqb 0 x (omega (arith, within_le x (union x y) (within_left x y)))) (eq-eqb 0 y (omega (arith, within_le y (union x y) (within_right x y)))))
    (λ t. eq-eqb 0 (union x y) (sym (or_zero_l 0) ∙ ap₂ union (eqb-true 0 x (and_left (eqb 0 x) (eqb 0 y) t)) (eqb-true 0 y (and_right (eqb 0 x) (eqb 0 y) t))))

-- all of them joined
joined_from : (seen : ℕ) (l : List ℕ) → eqb 0 (fold union seen l) ≡ eqb 0 seen && all_of (eqb 0) l
unfolding all_of
joined_from seen [] = and_true (eqb 0 seen)
joined_from seen (x ∷ l) = joined_from (union seen x) l ∙ ap (λ (t : Bool). t && all_of (eqb 0) l) (none_of_both seen x) ∙ and_three (eqb 0 seen) (eqb 0 x) (all_of (eqb 0) l)

pub joined_none : (l : List ℕ) → eqb (fold union 0 l) 0 ≡ all_of (eqb 0) l
joined_none l = turned (fold union 0 l) 0 ∙ joined_from 0 l

-- a pass that joins a number of each, zero where the test holds
module _ {X : Type 0} (p : X → Bool) (l : List X) (i seen : ℕ) (all : Bool) (inv : eqb 0 seen && all_of p (drop i l) ≡ all) where
  pub zero_on : (z : X) (b : ℕ) → i < length l → eqb 0 b ≡ p (get_or l i z) → eqb 0 (union seen b) && all_of p (drop (i + 1) l) ≡ all
  zero_on z b h e =
      ap (λ (t : Bool). t && all_of p (drop (i + 1) l)) (none_of_both seen b)
      ∙ and_three (eqb 0 seen) (eqb 0 b) (all_of p (drop (i + 1) l))
      ∙ ap (λ (t : Bool). eqb 0 seen && (t && all_of p (drop (i + 1) l))) e
      ∙ ap (λ (t : Bool). eqb 0 seen && t) (sym (all_step p l i z h)) ∙ inv

  pub zero_end : length l ≤ i → eqb seen 0 ≡ all
  zero_end h = turned seen 0 ∙ and_true (eqb 0 seen) ∙ ap (λ (b : Bool). eqb 0 seen && b) (sym (all_end p l i h)) ∙ inv
