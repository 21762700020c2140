-- The parts of the test: all sets in one, unused places in one pass, and each label in its places. Assumes nothing.
use mathlib.Core.Bool.{Bool, ◌&&◌, true}
use mathlib.Core.List.{List, [], ◌∷◌}
use mathlib.Core.Path.{◌∙◌, ◌≡◌, ap, refl, subst, sym}
use Prim.Native.Nat.{◌*◌, ◌+◌, ◌-◌, ◌%◌, ◌/◌, ◌<◌, ◌^◌, ◌≤◌, ℕ}
use native.Mathlib.Decide.{dec_lt}
use native.Mathlib.Omega.{arith}
use lib.Bits.{or_lt, or_zero_l, or_zero_r}
use lib.Dec.{eqb, leb}
use lib.ListN.{drop, get_or, length, length-drop, length-take, take}
use lib.Pow.{pow_pos}
use lib.Seq.{get_or-drop, get_or-take, length-take-le}
use borrow.Author.Tests.{eqb-true, le-leb, leb-true, lt-ltb, ltb-true}
use Rattle.members.proofs.First.{at_mem}
use Rattle.std.specs.List.{fold}
use Rattle.shape.proofs.Elim.{Listed, listed_elim, listed_intro}
use Rattle.shape.proofs.Runs.{mem_place}
use Rattle.shape.specs.Shape.{apart, label_right, labels_right, listed, row_right, standing, union_of}
use Rattle.slices.proofs.Laws.{none_of_both}
use Rattle.theory.proofs.Listing.{below_elim, below_intro, within_below}
use Rattle.theory.proofs.Lists.{all_elim, all_intro, and_intro, and_left, and_right, same_test}
use Rattle.theory.proofs.Sets.{or_assoc, within_left, within_right}
use Rattle.theory.specs.Limits.{limits}
use Rattle.theory.specs.Lists.{all_of, numbers_below, sorted_by}
use Rattle.theory.specs.Sets.{in_range, union}

-- ---- the assumptions of all the sets
union_from : (a : ℕ) (l : List ℕ) → fold union a l ≡ union a (union_of l)
unfolding union_of
union_from a [] = sym (or_zero_r a)
union_from a (E ∷ l) = union_from (union a E) l ∙ or_assoc a E (union_of l)

pub union_folded : (l : List ℕ) → fold union 0 l ≡ union_of l
union_folded l = union_from 0 l ∙ or_zero_l (union_of l)

low_both : (A x y : ℕ) → in_range A (union x y) ≡ in_range A x && in_range A y
unfolding in_range
low_both A x y =
    same_test
    (λ t.
    let z : union x y < 2 ^ A = ltb-true (union x y) (2 ^ A) t in
    and_intro (lt-ltb x (2 ^ A) (within_below A x (union x y) (within_left x y) z)) (lt-ltb y (2 ^ A) (within_below A y (union x y) (within_right x y) z)))
    (λ t. lt-ltb (union x y) (2 ^ A) (or_lt A x y (ltb-true x (2 ^ A) (and_left (in_range A x) (in_range A y) t)) (ltb-true y (2 ^ A) (and_right (in_range A x) (in_range A y) t))))

empty_low : (A : ℕ) → in_range A 0 ≡ true
unfolding in_range
empty_low A = lt-ltb 0 (2 ^ A) (pow_pos A)

pub all_zero : (l : List ℕ) → eqb 0 (union_of l) ≡ all_of (eqb 0) l
unfolding union_of all_of
all_zero [] = refl
all_zero (x ∷ l) = none_of_both x (union_of l) ∙ ap (λ (b : Bool). eqb 0 x && b) (all_zero l)

pub all_low : (A : ℕ) (l : List ℕ) → in_range A (union_of l) ≡ all_of (in_range A) l
unfolding union_of all_of
all_low A [] = empty_low A
all_low A (x ∷ l) = low_both A x (union_of l) ∙ ap (λ (b : Bool). in_range A x && b) (all_low A l)

-- ---- tests by place
module _ (p : ℕ → Bool) (l : List ℕ) where
  at_place : all_of p l ≡ true → (k : ℕ) → k < length l → p (get_or l k 0) ≡ true
  at_place t k h = all_elim p t (at_mem l k h)

  by_place : ((k : ℕ) → k < length l → p (get_or l k 0) ≡ true) → all_of p l ≡ true
  by_place f = all_intro p l (λ x m. let q = mem_place l m in subst (λ (v : ℕ). p v ≡ true) q.2 (f q.0 q.1))

-- ---- a list in its places, with its assumptions in range
module _ (A n : ℕ) (l : List ℕ) where
  stands : all_of (in_range A) l ≡ true → standing n l ≡ true → Listed A n l
  unfolding standing
  stands u s =
      let a : Bool = leb n (length l) in
      let b : Bool = sorted_by apart (take n l) in
      let c : Bool = all_of (eqb 0) (drop n l) in
      let few : n ≤ length l = leb-true n (length l) (and_left a (b && c) s) in
      record {
        few = few;
        sorted = and_left b c (and_right a (b && c) s);
        low = by_place (in_range A) (take n l)
            (λ k h. ap (in_range A) (get_or-take n l k 0 (omega (arith, length-take n l))) ∙ at_place (in_range A) l u k (omega (arith, length-take n l)));
        spare = and_right b c (and_right a (b && c) s);
      }

  stood : Listed A n l → standing n l ≡ true
  unfolding standing
  stood s = and_intro (le-leb n (length l) s.few) (and_intro s.sorted s.spare)

  low_all : Listed A n l → all_of (in_range A) l ≡ true
  low_all s =
      by_place (in_range A) l
      (λ k h. elim (dec_lt k n) [
        | yes q ↦ sym (ap (in_range A) (get_or-take n l k 0 q)) ∙ at_place (in_range A) (take n l) s.low k (omega (arith, length-take-le n l s.few))
        | no q ↦ (let z : n + (k - n) ≡ k = omega arith in
            let e : 0 ≡ get_or l k 0 = eqb-true 0 (get_or l k 0) (ap (λ (v : ℕ). eqb 0 (get_or l v 0)) (sym z) ∙ ap (eqb 0) (sym (get_or-drop n l (k - n) 0)) ∙ at_place (eqb 0) (drop n l) s.spare (k - n) (omega (arith, length-drop n l))) in
            ap (in_range A) (sym e) ∙ empty_low A)
      ])

  pub listed_by : all_of (in_range A) l && standing n l ≡ listed A n l
  listed_by =
      same_test (λ t. listed_intro A n l (stands (and_left (all_of (in_range A) l) (standing n l) t) (and_right (all_of (in_range A) l) (standing n l) t)))
      (λ t. let s = listed_elim A n l t in and_intro (low_all s) (stood s))

-- ---- all labels
module _ (A N : ℕ) (sizes members : List ℕ) (top : N ≤ limits.numbers) (wide : length sizes ≡ limits.numbers) (deep : length members ≡ limits.numbers * limits.label) where
  abbrev row : ℕ → List ℕ
  row i = take limits.label (drop (limits.label * i) members)

  row_long : (i : ℕ) → i < limits.numbers → length (row i) ≡ limits.label
  row_long i h = length-take-le limits.label (drop (limits.label * i) members) (omega (arith, length-drop (limits.label * i) members))

  row_at : (i k : ℕ) → k < limits.label → get_or (row i) k 0 ≡ get_or members (limits.label * i + k) 0
  row_at i k h = get_or-take limits.label (drop (limits.label * i) members) k 0 h ∙ get_or-drop (limits.label * i) members k 0

  -- a test of every place from label N on, and of those before it
  rows_after : (p : ℕ → Bool) → ((i : ℕ) → N ≤ i → i < limits.numbers → all_of p (row i) ≡ true) → all_of p (drop (limits.label * N) members) ≡ true
  rows_after p f =
      by_place p (drop (limits.label * N) members)
      (λ k h.
      let q : limits.label * N + k < limits.numbers * limits.label = omega (arith, length-drop (limits.label * N) members) in
      let e : limits.label * ((limits.label * N + k) / limits.label) + (limits.label * N + k) % limits.label ≡ limits.label * N + k = omega arith in
      ap p (get_or-drop (limits.label * N) members k 0 ∙ ap (λ (v : ℕ). get_or members v 0) (sym e) ∙ sym (row_at ((limits.label * N + k) / limits.label) ((limits.label * N + k) % limits.label) (omega arith)))
      ∙ at_place p (row ((limits.label * N + k) / limits.label)) (f ((limits.label * N + k) / limits.label) (omega arith) (omega arith)) ((limits.label * N + k) % limits.label) (omega (arith, row_long ((limits.label * N + k) / limits.label) (omega arith))))

  rows_before : (p : ℕ → Bool) → ((i : ℕ) → i < N → all_of p (row i) ≡ true) → all_of p (take (limits.label * N) members) ≡ true
  rows_before p f =
      by_place p (take (limits.label * N) members)
      (λ k h.
      let q : k < limits.label * N = omega (arith, length-take (limits.label * N) members) in
      let e : limits.label * (k / limits.label) + k % limits.label ≡ k = omega arith in
      ap p (get_or-take (limits.label * N) members k 0 q ∙ ap (λ (v : ℕ). get_or members v 0) (sym e) ∙ sym (row_at (k / limits.label) (k % limits.label) (omega arith)))
      ∙ at_place p (row (k / limits.label)) (f (k / limits.label) (omega arith)) (k % limits.label) (omega (arith, row_long (k / limits.label) (omega arith))))

  row_after : (p : ℕ → Bool) → all_of p (drop (limits.label * N) members) ≡ true → (i : ℕ) → N ≤ i → i < limits.numbers → all_of p (row i) ≡ true
  row_after p t i h o =
      by_place p (row i)
      (λ k q.
      let s : k < limits.label = omega (arith, row_long i o) in
      let e : limits.label * N + (limits.label * i + k - limits.label * N) ≡ limits.label * i + k = omega arith in
      ap p (row_at i k s ∙ ap (λ (v : ℕ). get_or members v 0) (sym e) ∙ sym (get_or-drop (limits.label * N) members (limits.label * i + k - limits.label * N) 0))
      ∙ at_place p (drop (limits.label * N) members) t (limits.label * i + k - limits.label * N) (omega (arith, length-drop (limits.label * N) members)))

  row_before : (p : ℕ → Bool) → all_of p (take (limits.label * N) members) ≡ true → (i : ℕ) → i < N → all_of p (row i) ≡ true
  row_before p t i h =
      by_place p (row i)
      (λ k q.
      let s : k < limits.label = omega (arith, row_long i (omega arith)) in
      ap p (row_at i k s ∙ sym (get_or-take (limits.label * N) members (limits.label * i + k) 0 (omega arith)))
      ∙ at_place p (take (limits.label * N) members) t (limits.label * i + k) (omega (arith, length-take-le (limits.label * N) members (omega arith))))

  size_zero : all_of (eqb 0) (drop N sizes) ≡ true → (i : ℕ) → N ≤ i → i < limits.numbers → get_or sizes i 0 ≡ 0
  size_zero t i h o =
      let e : N + (i - N) ≡ i = omega arith in
      sym (eqb-true 0 (get_or sizes i 0) (ap (λ (v : ℕ). eqb 0 (get_or sizes v 0)) (sym e) ∙ ap (eqb 0) (sym (get_or-drop N sizes (i - N) 0)) ∙ at_place (eqb 0) (drop N sizes) t (i - N) (omega (arith, length-drop N sizes))))

  abbrev pub parts : Bool
  parts = all_of (eqb 0) (drop N sizes) && (all_of (eqb 0) (drop (limits.label * N) members) && (all_of (in_range A) (take (limits.label * N) members) && all_of (row_right sizes members) (numbers_below N)))

  from_parts : parts ≡ true → (i : ℕ) → i < limits.numbers → label_right A sizes members i ≡ true
  unfolding sorted_by all_of
  from_parts t i o =
      let z : Bool = all_of (eqb 0) (drop N sizes) in
      let b : Bool = all_of (eqb 0) (drop (limits.label * N) members) in
      let w : Bool = all_of (in_range A) (take (limits.label * N) members) in
      let r : Bool = all_of (row_right sizes members) (numbers_below N) in
      let t1 : b && (w && r) ≡ true = and_right z (b && (w && r)) t in
      let t2 : w && r ≡ true = and_right b (w && r) t1 in
      elim (dec_lt i N) [
        | yes h ↦ listed_intro A (get_or sizes i 0) (row i)
            (stands A (get_or sizes i 0) (row i) (row_before (in_range A) (and_left w r t2) i h) (all_elim (row_right sizes members) (and_right w r t2) (below_intro N h)))
        | no h ↦ subst (λ (n : ℕ). listed A n (row i) ≡ true) (sym (size_zero (and_left z (b && (w && r)) t) i (omega arith) o))
            (listed_intro A 0 (row i) (record { few = omega arith; sorted = refl; low = refl; spare = row_after (eqb 0) (and_left b (w && r) t1) i (omega arith) o }))
      ]

  to_parts : ((i : ℕ) → i < limits.numbers → label_right A sizes members i ≡ true) → all_of (eqb 0) (drop N sizes) ≡ true → parts ≡ true
  to_parts f z =
      let g : (i : ℕ) → i < limits.numbers → Listed A (get_or sizes i 0) (row i) = λ i o. listed_elim A (get_or sizes i 0) (row i) (f i o) in
      and_intro z
      (and_intro (rows_after (eqb 0) (λ i h o. subst (λ (n : ℕ). all_of (eqb 0) (drop n (row i)) ≡ true) (size_zero z i h o) (g i o).spare))
      (and_intro (rows_before (in_range A) (λ i h. low_all A (get_or sizes i 0) (row i) (g i (omega arith))))
      (all_intro (row_right sizes members) (numbers_below N) (λ i m. stood A (get_or sizes i 0) (row i) (g i (omega (arith, below_elim N m)))))))

  pub labels_by : parts ≡ labels_right A N sizes members
  unfolding labels_right
  labels_by =
      let q : Bool = all_of (label_right A sizes members) (numbers_below limits.numbers) in
      let z : Bool = all_of (eqb 0) (drop N sizes) in
      same_test
      (λ t. and_intro (all_intro (label_right A sizes members) (numbers_below limits.numbers) (λ i m. from_parts t i (below_elim limits.numbers m))) (and_left z _ t))
      (λ t. to_parts (λ i o. all_elim (label_right A sizes members) (and_left q z t) (below_intro limits.numbers o)) (and_right q z t))

-- what the call says of the label's own places
pub row_places : (sizes members : List ℕ) (i : ℕ) (r : Bool) → r ≡ standing (get_or sizes i 0) (take (limits.label * i + limits.label - limits.label * i) (drop (limits.label * i) members)) → r ≡ row_right sizes members i
row_places sizes members i r p = let e : limits.label * i + limits.label - limits.label * i ≡ limits.label = omega arith in p ∙ ap (λ (n : ℕ). standing (get_or sizes i 0) (take n (drop (limits.label * i) members))) e
