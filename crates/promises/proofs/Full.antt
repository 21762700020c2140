-- What the judgement says of the lists of the stages: which list is the first over its limit, or that none is. Assumes nothing.
use mathlib.Core.Bool.{false}
use mathlib.Core.List.{List, []}
use mathlib.Core.Logic.{◌⊎◌, inl, inr, ⊎_elim}
use mathlib.Core.Path.{◌≡◌, ap, subst, sym}
use Prim.Native.Nat.{◌<◌, ◌≤◌, suc, zero, zero-le, ℕ}
use native.Mathlib.Decide.{dec_lt}
use native.Mathlib.Nat.{not-suc-le-zero}
use native.Mathlib.Omega.{arith}
use lib.ListN.{get_or, length}
use borrow.Author.Tests.{ltb-false, ltb-true}
use Rattle.promises.proofs.Telling.{covered}
use Rattle.promises.specs.Made.{SameMembers}
use Rattle.promises.specs.Room.{AllInRoom, InRoom, LabelFull, NogoodsFull}
use Rattle.stages.proofs.Stages.{room_few, room_short}
use Rattle.stages.specs.Steps.{Room}
use Rattle.theory.proofs.Judgement.{AllPassed, Told, judge_told, long_some, settled_later, settled_told, stage_label, stage_length, stage_nogoods}
use Rattle.theory.proofs.Lasting.{Upto}
use Rattle.theory.proofs.Sameness.{same_label, same_nogoods}
use Rattle.theory.specs.Judge.{Stage, Verdict, consequents, judge, label_long, label_over, nogoods_long, nogoods_over, settled, stage_at}
use Rattle.theory.specs.Limits.{limits}
use Rattle.theory.specs.Stages.{Justification, label_at, nogoods_at}

-- two numbers: one is less, or they are the same
three : (x y : ℕ) → (x < y) ⊎ ((y < x) ⊎ (x ≡ y))
three x y = elim (dec_lt x y) [
  | yes p ↦ inl p
  | no p ↦ elim (dec_lt y x) [
    | yes q ↦ inr (inl q)
    | no q ↦ inr (inr (even p q))
  ]
]
  where
    even : (x < y → ⊥) → (y < x → ⊥) → x ≡ y
    even p q = omega arith

-- ---- one ruling excludes the others

module _ {A N : ℕ} {H : List Justification} where
  pub room_not_nogoods : AllInRoom A N H → NogoodsFull A N H → ⊥
  room_not_nogoods r g = omega (arith, (r g.stage).nogoods, g.over)

  pub room_not_label : {n : ℕ} → AllInRoom A N H → LabelFull A N H n → ⊥
  room_not_label {n} r g = omega (arith, (r g.stage).labels n g.real g.range, g.over)

  pub nogoods_not_label : {n : ℕ} → NogoodsFull A N H → LabelFull A N H n → ⊥
  nogoods_not_label {n} g b =
      ⊎_elim (λ (l : g.stage < b.stage). omega (arith, (b.earlier g.stage l).nogoods, g.over))
      (⊎_elim (λ (l : b.stage < g.stage). omega (arith, (g.earlier b.stage l).labels n b.real b.range, b.over))
      (λ (e : g.stage ≡ b.stage). omega (arith, ap (λ (k : ℕ). length (nogoods_at A H k)) e, g.over, b.nogoods)))
      (three g.stage b.stage)

  pub one_label : {n m : ℕ} → LabelFull A N H n → LabelFull A N H m → n ≡ m
  one_label {n} {m} b d =
      ⊎_elim (λ (l : b.stage < d.stage). absurd (omega (arith, (d.earlier b.stage l).labels n b.real b.range, b.over)))
      (⊎_elim (λ (l : d.stage < b.stage). absurd (omega (arith, (b.earlier d.stage l).labels m d.real d.range, d.over)))
      (λ (e : b.stage ≡ d.stage).
      ⊎_elim (λ (l : n < m). absurd (omega (arith, d.lower n b.real l, b.over, ap (λ (k : ℕ). length (label_at A H k n)) e)))
      (⊎_elim (λ (l : m < n). absurd (omega (arith, b.lower m d.real l, d.over, ap (λ (k : ℕ). length (label_at A H k m)) e))) (λ q. q))
      (three n m)))
      (three b.stage d.stage)

-- ---- the judgement

-- what each verdict says of the stages
abbrev pub VerdictSays : ℕ → ℕ → List Justification → Verdict → Type 0
VerdictSays A N H (settled d s) = AllInRoom A N H
VerdictSays A N H nogoods_over = NogoodsFull A N H
VerdictSays A N H (label_over n) = LabelFull A N H n

module _ (A N : ℕ) (J : List Justification) where
  stage_room : (k : ℕ) → nogoods_long limits (stage_at A N J k) ≡ false → label_long limits (stage_at A N J k) ≡ zero → InRoom A N J k
  stage_room k p q =
      let r : Room (stage_at A N J k) = record { few = p; short = q } in
      record {
        nogoods = omega (arith, room_few (stage_at A N J k) r, ap length (stage_nogoods A N J k));
        labels = λ n h l. short n h l r;
      }
    where
      short : (n : ℕ) → 1 ≤ n → n ≤ N → Room (stage_at A N J k) → length (label_at A J k n) ≤ limits.label
      short zero h l r = absurd (not-suc-le-zero h)
      short (suc i) h l r = omega (arith, room_short (stage_at A N J k) r i, ap length (stage_label A N J k i l))

  passed_room : (j : ℕ) → AllPassed limits (stage_at A N J) 0 j → (i : ℕ) → i < j → InRoom A N J i
  passed_room j p i h = let t = p i zero-le h in stage_room i t.few t.short

  module _ (u : Upto N J) where
    settled_room : (d : ℕ) (s : Stage) → judge limits A N J ≡ settled d s → AllInRoom A N J
    settled_room d s e k =
        let t = settled_told limits A N J d s e in
        let last : InRoom A N J d = stage_room d t.4 t.5 in
        ⊎_elim (λ (h : k < d). passed_room d t.2 k h)
        (⊎_elim (λ (h : d < k).
        let a = settled_later limits A N J d s e u k (omega arith) in
        record {
          nogoods = omega (arith, last.nogoods, ap length a.nogoods);
          labels = λ n p q. omega (arith, last.labels n p q, ap length (a.labels n q));
        })
        (λ (q : k ≡ d). subst (InRoom A N J) (sym q) last))
        (three k d)

    over_nogoods : Told limits (stage_at A N J) 0 (suc (length (consequents J))) nogoods_over → NogoodsFull A N J
    unfolding nogoods_long
    over_nogoods t = record {
      stage = t.0;
      earlier = passed_room t.0 t.3;
      over = omega (arith, ltb-true limits.nogoods (length (stage_at A N J t.0).nogoods) t.4, ap length (stage_nogoods A N J t.0));
    }

    over_label : (n : ℕ) → Told limits (stage_at A N J) 0 (suc (length (consequents J))) (label_over n) → LabelFull A N J n
    unfolding label_long nogoods_long
    over_label zero t = absurd (not-suc-le-zero t.6)
    over_label (suc m) t =
        let k : ℕ = t.0 in
        let ls : List (List ℕ) = (stage_at A N J k).labels in
        let r = long_some 12 0 ls m t.5 in
        let e : r.0 ≡ m = omega (arith, r.1) in
        let low : r.0 < N = omega (arith, r.2.there_is, stage_length A N J k) in
        let few : length (nogoods_at A J k) ≤ limits.nogoods = omega (arith, few_at k t.4, ap length (stage_nogoods A N J k)) in
        record {
          stage = k;
          earlier = passed_room k t.3;
          nogoods = few;
          real = omega arith;
          range = omega arith;
          over = omega (arith, r.2.over, ap length (stage_label A N J k r.0 low), ap (λ (i : ℕ). length (label_at A J k (suc i))) e);
          lower = λ n p q. under k n m p (omega arith) (λ i h. r.2.lower i (omega arith)) (omega arith);
        }
      where
        few_at : (k : ℕ) → nogoods_long limits (stage_at A N J k) ≡ false → length (stage_at A N J k).nogoods ≤ limits.nogoods
        few_at k h = ltb-false limits.nogoods (length (stage_at A N J k).nogoods) h

        under : (k n m : ℕ) → 1 ≤ n → n < suc m → ((i : ℕ) → i < m → length (get_or (stage_at A N J k).labels i []) ≤ limits.label) → m < N → length (label_at A J k n) ≤ limits.label
        under k zero m p q f l = absurd (not-suc-le-zero p)
        under k (suc i) m p q f l = omega (arith, f i (omega arith), ap length (stage_label A N J k i (omega arith)))

    pub judge_says : (v : Verdict) → judge limits A N J ≡ v → VerdictSays A N J v
    judge_says (settled d s) e = settled_room d s e
    judge_says nogoods_over e = over_nogoods (rw e at (judge_told A N J limits))
    judge_says (label_over n) e = over_label n (rw e at (judge_told A N J limits))

-- ---- the same members need the same room

module _ (A N : ℕ) {J H : List Justification} (f : SameMembers J H) where
  nogoods_same : (k : ℕ) → nogoods_at A J k ≡ nogoods_at A H k
  nogoods_same k = same_nogoods J H (covered (λ j. (f j).0)) (covered (λ j. (f j).1)) A k

  label_same : (k n : ℕ) → label_at A J k n ≡ label_at A H k n
  label_same k n = same_label J H (covered (λ j. (f j).0)) (covered (λ j. (f j).1)) A k n

  room_same : (k : ℕ) → InRoom A N J k → InRoom A N H k
  room_same k r = record {
    nogoods = omega (arith, r.nogoods, ap length (nogoods_same k));
    labels = λ n p q. omega (arith, r.labels n p q, ap length (label_same k n));
  }

  pub says_same : (v : Verdict) → VerdictSays A N J v → VerdictSays A N H v
  says_same (settled d s) r = λ k. room_same k (r k)
  says_same nogoods_over r = record {
    stage = r.stage;
    earlier = λ i h. room_same i (r.earlier i h);
    over = omega (arith, r.over, ap length (nogoods_same r.stage));
  }
  says_same (label_over n) r = record {
    stage = r.stage;
    earlier = λ i h. room_same i (r.earlier i h);
    nogoods = omega (arith, r.nogoods, ap length (nogoods_same r.stage));
    real = r.real;
    range = r.range;
    over = omega (arith, r.over, ap length (label_same r.stage n));
    lower = λ m p q. omega (arith, r.lower m p q, ap length (label_same r.stage m));
  }
