-- The lists of a stage within the limits have the right shape. Assumes nothing.
use mathlib.Core.Bool.{false, not, true}
use mathlib.Core.List.{List, Memᴰ as Mem, []}
use mathlib.Core.Path.{◌∙◌, ◌≡◌, ap, ap₂, refl, subst, sym}
use Prim.Native.Nat.{◌%◌, ◌*◌, ◌+◌, ◌/◌, ◌<◌, ◌^◌, ◌≤◌, suc, zero, ℕ}
use native.Mathlib.Decide.{dec_lt}
use native.Mathlib.Omega.{arith}
use lib.Dec.{eqb}
use lib.ListN.{drop, get_or, length, length-drop, length-take, take}
use lib.Seq.{get_or-drop, get_or-take}
use borrow.Author.Tests.{eq-eqb, lt-ltb}
use Rattle.rules.proofs.Entries.{length_padded, padded_spare, unpadded}
use Rattle.shape.proofs.Elim.{Listed, lists_intro}
use Rattle.shape.specs.Shape.{apart, lists_right}
use Rattle.stages.proofs.Stages.{room_few, room_short}
use Rattle.stages.specs.Lists.{lists_of}
use Rattle.stages.specs.Steps.{Room}
use Rattle.theory.proofs.Judgement.{stage_label, stage_label_none, stage_nogoods}
use Rattle.theory.proofs.Label.{label_elim, nogood_elim}
use Rattle.theory.proofs.Lists.{all_intro, and_intro, not_so}
use Rattle.theory.proofs.Order.{before_irrefl, label_sorted, nogoods_sorted, sorted_imply}
use Rattle.theory.proofs.Places.{get_d_table, is_table, length_table}
use Rattle.theory.specs.Judge.{Stage, stage_at}
use Rattle.theory.specs.Limits.{limits}
use Rattle.theory.specs.Lists.{all_of, sorted_by}
use Rattle.theory.specs.Places.{padded, table}
use Rattle.theory.specs.Sets.{before, in_range, within}
use Rattle.theory.specs.Stages.{Justification, label_at, nogoods_at}

-- ---- a list of sets in its places

-- sets below 2 ^ A in listing order, none inside another
pub record Antichain (A : ℕ) (l : List ℕ) : Type 0 where
  pub sorted : sorted_by before l ≡ true
  pub small : (E : ℕ) → Mem E l → E < 2 ^ A
  pub least : (F E : ℕ) → Mem F l → Mem E l → within F E ≡ true → F ≡ E

module _ {A : ℕ} {l : List ℕ} (c : Antichain A l) where
  apart_intro : (F E : ℕ) → Mem F l → Mem E l → before F E ≡ true → apart F E ≡ true
  unfolding apart
  apart_intro F E f e b =
      let n : within F E ≡ false = not_so (within F E) (λ w. before_irrefl E (subst (λ (x : ℕ). before x E ≡ true) (c.least F E f e w) b)) in
      let m : within E F ≡ false = not_so (within E F) (λ w. before_irrefl F (subst (λ (x : ℕ). before F x ≡ true) (c.least E F e f w) b)) in
      and_intro b (and_intro (ap not n) (ap not m))

  listed_padded : (n : ℕ) → length l ≤ n → Listed A (length l) (padded 0 n l)
  unfolding in_range
  listed_padded n h = record {
    few = omega (arith, length_padded 0 n l);
    sorted = ap (sorted_by apart) (unpadded 0 n l h) ∙ sorted_imply before apart l apart_intro c.sorted;
    low = ap (all_of (in_range A)) (unpadded 0 n l h) ∙ all_intro (in_range A) l (λ E m. lt-ltb E (2 ^ A) (c.small E m));
    spare = padded_spare (eqb 0) 0 n l refl;
  }

-- ---- the lists of a stage

nothing_antichain : (A : ℕ) → Antichain A []
unfolding sorted_by
nothing_antichain A = record { sorted = refl; small = λ E m. elim m [ ]; least = λ F E m. elim m [ ] }

module _ (A : ℕ) (J : List Justification) (k : ℕ) where
  pub label_antichain : (n : ℕ) → Antichain A (label_at A J k n)
  label_antichain n = record {
    sorted = label_sorted A J k n;
    small = λ E m. (label_elim A J k n m).small;
    least = λ F E f e w. (label_elim A J k n e).least.least F w (label_elim A J k n f).least.has;
  }

  pub nogoods_antichain : Antichain A (nogoods_at A J k)
  nogoods_antichain = record {
    sorted = nogoods_sorted A J k;
    small = λ E m. (nogood_elim A J k m).small;
    least = λ F E f e w. (nogood_elim A J k e).least.least F w (nogood_elim A J k f).least.has;
  }

-- ---- tables

-- the part of the members that label i + 1 has
own_places : (ls : List (List ℕ)) (i : ℕ) → i < limits.numbers → take limits.label (drop (limits.label * i) (table (limits.numbers * limits.label) (λ p. get_or (get_or ls (p / limits.label) []) (p % limits.label) 0))) ≡ padded 0 limits.label (get_or ls i [])
unfolding padded
own_places ls i h =
    let f : ℕ → ℕ = λ p. get_or (get_or ls (p / limits.label) []) (p % limits.label) 0 in
    let t : List ℕ = table (limits.numbers * limits.label) f in
    is_table (take limits.label (drop (limits.label * i) t)) limits.label (λ k. get_or (get_or ls i []) k 0) 0 (omega (arith, length-take limits.label (drop (limits.label * i) t), length-drop (limits.label * i) t, length_table (limits.numbers * limits.label) f))
    (λ k q.
    let dv : (limits.label * i + k) / limits.label ≡ i = omega arith in
    let rm : (limits.label * i + k) % limits.label ≡ k = omega arith in
    get_or-take limits.label (drop (limits.label * i) t) k 0 q ∙ get_or-drop (limits.label * i) t k 0 ∙ get_d_table (limits.numbers * limits.label) f (limits.label * i + k) 0 (omega arith)
    ∙ ap₂ (λ (x y : ℕ). get_or (get_or ls x []) y 0) dv rm)

-- from place N on all are zero
zero_from : (n N : ℕ) (f : ℕ → ℕ) → ((i : ℕ) → N ≤ i → f i ≡ 0) → all_of (eqb 0) (drop N (table n f)) ≡ true
unfolding table all_of
zero_from zero zero f h = refl
zero_from zero (suc N) f h = refl
zero_from (suc n) zero f h = and_intro (eq-eqb 0 (f 0) (sym (h 0 (omega arith)))) (zero_from n zero (λ i. f (suc i)) (λ i p. h (suc i) (omega arith)))
zero_from (suc n) (suc N) f h = zero_from n N (λ i. f (suc i)) (λ i p. h (suc i) (omega arith))

-- ---- the shape

module _ (A N : ℕ) (J : List Justification) (d : ℕ) (low : d ≤ limits.numbers + 1) (room : Room (stage_at A N J d)) where
  abbrev at_depth_lem : Stage
  at_depth_lem = stage_at A N J d

  label_chain : (i : ℕ) → Antichain A (get_or at_depth_lem.labels i [])
  label_chain i = elim (dec_lt i N) [
    | yes p ↦ subst (Antichain A) (sym (stage_label A N J d i p)) (label_antichain A J d (suc i))
    | no p ↦ subst (Antichain A) (sym (stage_label_none A N J d i (omega arith))) (nothing_antichain A)
  ]

  nogoods_chain : Antichain A at_depth_lem.nogoods
  nogoods_chain = subst (Antichain A) (sym (stage_nogoods A N J d)) (nogoods_antichain A J d)

  pub stage_right : lists_right (lists_of d at_depth_lem) A N ≡ true
  unfolding lists_of
  stage_right =
      lists_intro (lists_of d at_depth_lem) A N
      (record {
        depth = low;
        label = λ i h.
            let X : List ℕ = get_or at_depth_lem.labels i [] in
            subst (λ (n : ℕ). Listed A n (take limits.label (drop (limits.label * i) (lists_of d at_depth_lem).members))) (sym (get_d_table limits.numbers (λ j. length (get_or at_depth_lem.labels j [])) i 0 h))
            (subst (Listed A (length X)) (sym (own_places at_depth_lem.labels i h)) (listed_padded (label_chain i) limits.label (room_short at_depth_lem room i)));
        spare = zero_from limits.numbers N (λ j. length (get_or at_depth_lem.labels j [])) (λ i p. ap length (stage_label_none A N J d i p));
        nogoods = listed_padded nogoods_chain limits.nogoods (room_few at_depth_lem room);
      })
