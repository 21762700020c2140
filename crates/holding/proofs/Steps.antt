-- Two places compared, and one looked for among those in use. Assumes nothing.
use mathlib.Core.Bool.{Bool, ◌&&◌, false, true, ◌||◌}
use mathlib.Core.List.Memᴰ.{head as here}
use mathlib.Core.List.Memᴰ.{tail as there}
use mathlib.Core.List.{List, Memᴰ as Mem, [], ◌∷◌, map}
use mathlib.Core.Path.{◌∙◌, ◌≡◌, ap, ap₂, refl, sym}
use Prim.Native.Nat.{◌<◌, ◌≤◌, suc, zero, ℕ}
use native.Mathlib.Nat.{le_of_suc-le-suc, not-suc-le-zero}
use native.Mathlib.Omega.{arith}
use lib.Dec.{eqb, ltb}
use Rattle.std.specs.Prelude.{cond, Option, Some}
use Rattle.std.specs.declared.cmp.Ordering.{Ordering}
use Rattle.std.specs.declared.cmp.Ordering.TheVariants.{Equal, Greater, Less}
use Rattle.std.specs.Ordering.{is_lt, is_some_and, nat_cmp, partial_ordering_then}
use Rattle.std.specs.Cmp.Lexicographic.{slice_partial_cmp}
use lib.ListN.{get_or, length}
use borrow.Author.Tests.{eq-eqb, ne_eqb}
use Rattle.std.specs.List.{AllWithin}
use Rattle.std.specs.List.Sorted.{IsPartitionedBy}
use Rattle.holding.specs.Placing.{place_of}
use Rattle.rules.proofs.Order.{ahead_trans, ordered_head, ordered_tail}
use Rattle.rules.proofs.Steps.{beyond}
use Rattle.rules.specs.Held.{meaning, ordered}
use Rattle.rules.specs.Items.{same_justification}
use Rattle.rules.specs.declared.Entry.{Entry}
use Rattle.theory.specs.Judge.{same_sets}
use Rattle.theory.specs.Lists.{choose, some_of}
use Rattle.theory.specs.Stages.{Justification, ahead, lesser}

-- ---- which of two stands before the other

-- a first comparison, and a later one where it says that they are equal
then_less : (s t : Bool) (q : Option Ordering) → is_some_and is_lt (partial_ordering_then (Some (cond s Less (cond t Equal Greater))) q) ≡ s || (t && is_some_and is_lt q)
then_less true t q = refl
then_less false true q = refl
then_less false false q = refl

abbrev numbers : ℕ → ℕ → Option Ordering
numbers x y = Some (nat_cmp x y)

less_is : (l m : List ℕ) → is_some_and is_lt (slice_partial_cmp numbers l m) ≡ lesser l m
unfolding lesser
less_is [] [] = refl
less_is [] (y ∷ m) = refl
less_is (x ∷ l) [] = refl
less_is (x ∷ l) (y ∷ m) = then_less (ltb x y) (eqb x y) (slice_partial_cmp numbers l m) ∙ ap (λ (b : Bool). ltb x y || (eqb x y && b)) (less_is l m)

three : (s t : Bool) (p q : Option Ordering) → is_some_and is_lt (partial_ordering_then (partial_ordering_then (Some (cond s Less (cond t Equal Greater))) p) q) ≡ s || (t && is_some_and is_lt (partial_ordering_then p q))
three true t p q = refl
three false true p q = refl
three false false p q = refl

pub comes_is : (i j : Justification) (l m : List ℕ) → l ≡ i.supports → m ≡ j.supports
    → is_some_and is_lt (partial_ordering_then (partial_ordering_then (numbers i.consequent j.consequent) (numbers (length l) (length m))) (slice_partial_cmp numbers l m)) ≡ ahead i j
unfolding ahead
comes_is i j l m e f =
    three (ltb i.consequent j.consequent) (eqb i.consequent j.consequent) (numbers (length l) (length m)) (slice_partial_cmp numbers l m)
    ∙ ap (λ (b : Bool). ltb i.consequent j.consequent || (eqb i.consequent j.consequent && b))
    (then_less (ltb (length l) (length m)) (eqb (length l) (length m)) (slice_partial_cmp numbers l m) ∙ ap (λ (b : Bool). ltb (length l) (length m) || (eqb (length l) (length m) && b)) (less_is l m)
    ∙ ap₂ (λ (x y : List ℕ). ltb (length x) (length y) || (eqb (length x) (length y) && lesser x y)) e f)

-- ---- whether two are one justification
module _ (r t : Justification) where
  pub same_head : (r.consequent ≡ t.consequent → ⊥) → false ≡ same_justification r t
  unfolding same_justification
  same_head h = rw (ne_eqb r.consequent t.consequent h)

  pub same_rest : r.consequent ≡ t.consequent → (b : Bool) → b ≡ same_sets r.supports t.supports → b ≡ same_justification r t
  unfolding same_justification
  same_rest e b p = rw (eq-eqb r.consequent t.consequent e) p

-- ---- one among the places in use

pub some_said : (p : Justification → Bool) (l : List Entry) → some_of (λ (t : Entry). p (meaning t)) l ≡ some_of p (map meaning l)
unfolding some_of
some_said p [] = refl
some_said p (x ∷ l) = ap (λ (b : Bool). p (meaning x) || b) (some_said p l)

said_among : (l : List Entry) (j : ℕ) (d : Entry) → j < length l → Mem (meaning (get_or l j d)) (map meaning l)
said_among [] j d h = absurd (not-suc-le-zero h)
said_among (x ∷ l) zero d h = here refl
said_among (x ∷ l) (suc j) d h = there (said_among l j d (le_of_suc-le-suc h))

-- of places in order, those that stand before r are the first
pub before_first : (r : Justification) (l : List Entry) → ordered (map meaning l) ≡ true → IsPartitionedBy (λ (t : Entry). ahead (meaning t) r) l
before_first r [] o i j d h k t = absurd (not-suc-le-zero k)
before_first r (x ∷ l) o zero zero d h k t = t
before_first r (x ∷ l) o zero (suc j) d h k t =
    ahead_trans (meaning x) (meaning (get_or l j d)) r (ordered_head (meaning x) (map meaning l) o (meaning (get_or l j d)) (said_among l j d (le_of_suc-le-suc k))) t
before_first r (x ∷ l) o (suc i) zero d h k t = absurd (not-suc-le-zero h)
before_first r (x ∷ l) o (suc i) (suc j) d h k t = before_first r l (ordered_tail (meaning x) (map meaning l) o) i j d (le_of_suc-le-suc h) (le_of_suc-le-suc k) t

-- .. and r has its place after them
pub place_found : (r : Justification) (l : List Entry) (n : ℕ) → n ≤ length l → AllWithin (λ (t : Entry). ahead (meaning t) r ≡ true) l 0 n
    → AllWithin (λ (t : Entry). ahead (meaning t) r ≡ false) l n (length l) → n ≡ place_of r (map meaning l)
unfolding place_of
place_found r [] zero h f g = refl
place_found r [] (suc n) h f g = absurd (not-suc-le-zero h)
place_found r (x ∷ l) zero h f g = sym (ap (λ (b : Bool). choose b (suc (place_of r (map meaning l))) 0) (g 0 beyond (omega arith) (omega arith)))
place_found r (x ∷ l) (suc n) h f g =
    ap suc (place_found r l n (le_of_suc-le-suc h) (λ k d p q. f (suc k) d (omega arith) (omega arith)) (λ k d p q. g (suc k) d (omega arith) (omega arith)))
    ∙ sym (ap (λ (b : Bool). choose b (suc (place_of r (map meaning l))) 0) (f 0 beyond (omega arith) (omega arith)))
