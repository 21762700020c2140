-- A list looked at from its beginning, each set against the one before it and against those of fewer assumptions. Assumes nothing.
use Rattle.std.specs.Prelude.{Option, is_some}
use mathlib.Core.Bool.{Bool, ◌&&◌, false, not, true}
use mathlib.Core.List.Memᴰ
use mathlib.Core.List.{List, Memᴰ as Mem, [], ◌∷◌}
use mathlib.Core.Logic.{◌⊎◌, ⊎_elim}
use mathlib.Core.Path.{◌∙◌, ◌≡◌, ap, refl, subst, sym}
use Prim.Native.Nat.{◌+◌, ◌-◌, ◌<◌, ◌≤◌, suc, zero, ℕ}
use native.Mathlib.Decide.{dec_lt}
use native.Mathlib.Omega.{arith}
use lib.Count.{ones}
use lib.ListN.{get_or, length, take}
use lib.Seq.{get_or-take, length-take-le}
use Rattle.members.proofs.First.{at_mem, contains_first}
use Rattle.members.specs.Promised.{first_within}
use Rattle.shape.specs.Shape.{apart}
use Rattle.theory.proofs.Label.{contains_intro}
use Rattle.theory.proofs.Lists.{and_intro, and_left, and_right, clash, not_so, some_elim}
use Rattle.theory.proofs.Order.{before_asym, before_elim, before_fewer, before_irrefl, before_less, before_trans, sorted_cons, sorted_head, sorted_tail}
use Rattle.theory.proofs.Select.{within_before, within_ones}
use Rattle.theory.specs.Lists.{sorted_by}
use Rattle.theory.specs.Sets.{before, contains, within}

-- ---- a sorted list by its places
pub mem_place : (l : List ℕ) {x : ℕ} → Mem x l → (k : ℕ) × (k < length l) × (get_or l k 0 ≡ x)
mem_place [] m = elim m [ ]
mem_place (y ∷ l) {x} m = ⊎_elim (λ (q : x ≡ y). (0, omega arith, sym q)) (λ o. let p = mem_place l o in (suc p.0, omega (arith, p.1), p.2)) (Memᴰ.cases_cons m)

module _ (R : ℕ → ℕ → Bool) where
  sorted_places : (l : List ℕ) → sorted_by R l ≡ true → (j k : ℕ) → j < k → k < length l → R (get_or l j 0) (get_or l k 0) ≡ true
  sorted_places [] s j k h q = absurd (omega arith)
  sorted_places (x ∷ l) s j zero h q = absurd (omega arith)
  sorted_places (x ∷ l) s zero (suc k) h q = sorted_head R x s (get_or l k 0) (at_mem l k (omega arith))
  sorted_places (x ∷ l) s (suc j) (suc k) h q = sorted_places l (sorted_tail R x l s) j k (omega arith) (omega arith)

  places_sorted : (l : List ℕ) → ((j k : ℕ) → j < k → k < length l → R (get_or l j 0) (get_or l k 0) ≡ true) → sorted_by R l ≡ true
  unfolding sorted_by
  places_sorted [] f = refl
  places_sorted (x ∷ l) f =
      sorted_cons R x {l = l} (λ y m. let p = mem_place l m in subst (λ (v : ℕ). R x v ≡ true) p.2 (f 0 (suc p.0) (omega arith) (omega (arith, p.1))))
      (places_sorted l (λ j k h q. f (suc j) (suc k) (omega arith) (omega arith)))

-- ---- two sets of a list
apart_before : (F E : ℕ) → apart F E ≡ true → before F E ≡ true
unfolding apart
apart_before F E h = and_left (before F E) (not (within F E) && not (within E F)) h

apart_out : (F E : ℕ) → apart F E ≡ true → within F E ≡ true → false ≡ true
unfolding apart
apart_out F E h w = ap not (sym w) ∙ and_left (not (within F E)) (not (within E F)) (and_right (before F E) (not (within F E) && not (within E F)) h)

apart_intro : (F E : ℕ) → before F E ≡ true → within F E ≡ false → apart F E ≡ true
unfolding apart
apart_intro F E b n =
    let m : within E F ≡ false = not_so (within E F) (λ w. ⊎_elim (λ (q : E ≡ F). before_irrefl F (subst (λ (x : ℕ). before F x ≡ true) q b)) (λ c. before_asym F E b c) (within_before E F w)) in
    and_intro b (and_intro (ap not n) (ap not m))

-- one that stands later and has no more assumptions has as many
pub as_many : (last e : ℕ) → before last e ≡ true → ones e ≤ ones last → ones last ≡ ones e
as_many last e b h = ⊎_elim (λ c. absurd (omega (arith, h))) (λ c. c.0) (before_elim last e b)

-- ---- the first i of a list stand clear; from `from` on they have as many assumptions as the last, those before it fewer
pub record Run (l : List ℕ) (i from last : ℕ) : Type 0 where
  pub clear : (j k : ℕ) → j < k → k < i → apart (get_or l j 0) (get_or l k 0) ≡ true
  pub fewer : (k : ℕ) → k < from → ones (get_or l k 0) < ones last
  pub same : (k : ℕ) → from ≤ k → k < i → ones (get_or l k 0) ≡ ones last
  pub top : (k : ℕ) → suc k ≡ i → get_or l k 0 ≡ last

module _ (l : List ℕ) where
  pub run_one : Run l 1 0 (get_or l 0 0)
  run_one = record {
    clear = λ j k h q. absurd (omega arith);
    fewer = λ k h. absurd (omega arith);
    same = λ k p q. let e : k ≡ 0 = omega arith in ap (λ (v : ℕ). ones (get_or l v 0)) e;
    top = λ k e. let z : k ≡ 0 = omega arith in ap (λ (v : ℕ). get_or l v 0) z;
  }

  module _ (i from last : ℕ) (run : Run l i from last) where
    pub run_end : length l ≤ i → true ≡ sorted_by apart l
    run_end h = sym (places_sorted apart l (λ j k p q. run.clear j k p (omega arith)))

    module _ (one : 1 ≤ i) (h : i < length l) where
      -- the next is not after the last
      pub run_late : before last (get_or l i 0) ≡ false → false ≡ sorted_by apart l
      run_late b =
          sym (not_so (sorted_by apart l)
          (λ s.
          let a : apart (get_or l (i - 1) 0) (get_or l i 0) ≡ true = sorted_places apart l s (i - 1) i (omega arith) h in
          clash (apart_before last (get_or l i 0) (subst (λ (v : ℕ). apart v (get_or l i 0) ≡ true) (run.top (i - 1) (omega arith)) a)) b))

      later : before last (get_or l i 0) ≡ true → (k : ℕ) → k < i → before (get_or l k 0) (get_or l i 0) ≡ true
      later b k p = elim (dec_lt (suc k) i) [
        | yes q ↦ before_trans (get_or l k 0) last (get_or l i 0)
            (subst (λ (v : ℕ). before (get_or l k 0) v ≡ true) (run.top (i - 1) (omega arith)) (apart_before (get_or l k 0) (get_or l (i - 1) 0) (run.clear k (i - 1) (omega arith) (omega arith)))) b
        | no q ↦ subst (λ (v : ℕ). before v (get_or l i 0) ≡ true) (sym (run.top k (omega arith))) b
      ]

      module _ (to : ℕ) (r : Option ℕ) (low : to ≤ i) (found : r ≡ first_within (take to l) (get_or l i 0)) where
        size : length (take to l) ≡ to
        size = length-take-le to l (omega arith)

        -- an earlier one lies within the next
        pub run_in : is_some r ≡ true → false ≡ sorted_by apart l
        unfolding contains
        run_in q =
            sym (not_so (sorted_by apart l)
            (λ s.
            let c : contains (take to l) (get_or l i 0) ≡ true = contains_first (take to l) (get_or l i 0) ∙ ap is_some (sym found) ∙ q in
            let m = some_elim (λ F. within F (get_or l i 0)) (take to l) c in
            let p = mem_place (take to l) m.1 in
            let w : within (get_or l p.0 0) (get_or l i 0) ≡ true = subst (λ (v : ℕ). within v (get_or l i 0) ≡ true) (sym p.2 ∙ get_or-take to l p.0 0 (omega (arith, p.1, size))) m.2 in
            clash (apart_out (get_or l p.0 0) (get_or l i 0) (sorted_places apart l s p.0 i (omega (arith, p.1, size)) h) w) refl))

        none : is_some r ≡ false → (k : ℕ) → k < to → within (get_or l k 0) (get_or l i 0) ≡ false
        none q k p =
            let c : contains (take to l) (get_or l i 0) ≡ false = contains_first (take to l) (get_or l i 0) ∙ ap is_some (sym found) ∙ q in
            not_so (within (get_or l k 0) (get_or l i 0))
            (λ w. clash (contains_intro (get_or l i 0) (at_mem (take to l) k (omega (arith, size))) (subst (λ (v : ℕ). within v (get_or l i 0) ≡ true) (sym (get_or-take to l k 0 p)) w)) c)

        run_next : before last (get_or l i 0) ≡ true → is_some r ≡ false → ((k : ℕ) → k < to → ones (get_or l k 0) < ones (get_or l i 0))
            → ((k : ℕ) → to ≤ k → k < i + 1 → ones (get_or l k 0) ≡ ones (get_or l i 0)) → Run l (i + 1) to (get_or l i 0)
        run_next b q less equal = record {
          clear = λ j k p o. elim (dec_lt k i) [
            | yes x ↦ run.clear j k p x
            | no x ↦ (let e : i ≡ k = omega arith in subst (λ (v : ℕ). apart (get_or l j 0) (get_or l v 0) ≡ true) e
                (apart_intro (get_or l j 0) (get_or l i 0) (later b j (omega arith))
                (elim (dec_lt j to) [
                  | yes y ↦ none q j y
                  | no y ↦ not_so (within (get_or l j 0) (get_or l i 0))
                      (λ w. ⊎_elim (λ (z : get_or l j 0 ≡ get_or l i 0). before_irrefl (get_or l i 0) (subst (λ (v : ℕ). before v (get_or l i 0) ≡ true) z (later b j (omega arith))))
                      (λ z. omega (arith, equal j (omega arith) (omega arith))) (within_ones (get_or l i 0) (get_or l j 0) w))
                ])))
          ];
          fewer = less;
          same = equal;
          top = λ k e. let z : k ≡ i = omega arith in ap (λ (v : ℕ). get_or l v 0) z;
        }

      -- the next has as many assumptions as the last, and is a greater number
      run_same : from ≤ i → ones (get_or l i 0) ≡ ones last → last < get_or l i 0 → (r : Option ℕ) → r ≡ first_within (take from l) (get_or l i 0) → is_some r ≡ false → Run l (i + 1) from (get_or l i 0)
      run_same low e g r found q =
          run_next from r low found (before_less last (get_or l i 0) (sym e) g) q (λ k p. omega (arith, run.fewer k p, e))
          (λ k p o. elim (dec_lt k i) [ yes y ↦ run.same k p y ∙ sym e | no y ↦ (let z : k ≡ i = omega arith in ap (λ (v : ℕ). ones (get_or l v 0)) z) ])

      -- the next has more
      run_more : ones last < ones (get_or l i 0) → (r : Option ℕ) → r ≡ first_within (take i l) (get_or l i 0) → is_some r ≡ false → Run l (i + 1) i (get_or l i 0)
      run_more g r found q =
          run_next i r (omega arith) found (before_fewer last (get_or l i 0) g) q
          (λ k p. elim (dec_lt k from) [ yes y ↦ omega (arith, run.fewer k y) | no y ↦ omega (arith, run.same k (omega arith) p) ])
          (λ k p o. let z : k ≡ i = omega arith in ap (λ (v : ℕ). ones (get_or l v 0)) z)

      -- the next stands after the last; from then on those with as many assumptions begin with it, or where they began before
      pub run_on : from ≤ i → before last (get_or l i 0) ≡ true → (to : ℕ) → ((ones last < ones (get_or l i 0)) × (to ≡ i)) ⊎ ((ones (get_or l i 0) ≤ ones last) × (to ≡ from)) → (r : Option ℕ) → r ≡ first_within (take to l) (get_or l i 0) → is_some r ≡ false → Run l (i + 1) to (get_or l i 0)
      run_on low b to by r found q =
          ⊎_elim
          (λ m. subst (λ (k : ℕ). Run l (i + 1) k (get_or l i 0)) (sym m.1) (run_more m.0 r (found ∙ ap (λ (k : ℕ). first_within (take k l) (get_or l i 0)) m.1) q))
          (λ m. let g : last < get_or l i 0 = ⊎_elim (λ c. absurd (omega (arith, m.0))) (λ c. c.1) (before_elim last (get_or l i 0) b) in
          let e : ones (get_or l i 0) ≡ ones last = ⊎_elim (λ c. absurd (omega (arith, m.0))) (λ c. sym c.0) (before_elim last (get_or l i 0) b) in
          subst (λ (k : ℕ). Run l (i + 1) k (get_or l i 0)) (sym m.1) (run_same low e g r (found ∙ ap (λ (k : ℕ). first_within (take k l) (get_or l i 0)) m.1) q))
          by
