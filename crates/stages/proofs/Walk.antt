-- The walk over the stages, turn by turn, over plain variables. Assumes nothing.
use Rattle.std.specs.Prelude.{Result, Ok, Err}
use mathlib.Core.Bool.{Bool, false, true}
use mathlib.Core.List.{List, []}
use mathlib.Core.Logic.{⊎_elim}
use mathlib.Core.Path.{◌∙◌, ◌≡◌, ap, ap₂, refl, subst, sym}
use Prim.Native.Nat.{◌+◌, ◌-◌, ◌<◌, ◌≤◌, suc, zero, ℕ}
use native.Mathlib.Decide.{dec_lt}
use native.Mathlib.Numerals.{add-one}
use native.Mathlib.Omega.{arith}
use lib.ListN.{get_or, length}
use borrow.Author.Tests.{le-ltb}
use Rattle.replies.specs.declared.Reply.{Reply}
use Rattle.rules.proofs.Laws.{right_range}
use Rattle.rules.specs.Held.{said_by}
use Rattle.rules.specs.declared.Held.{Held}
use Rattle.stages.proofs.Nexts.{lowest_none}
use Rattle.stages.proofs.Parts.{wide}
use Rattle.stages.proofs.Stages.{start_is}
use Rattle.stages.specs.Judged.{Judgeable, judged_by}
use Rattle.stages.specs.Lists.{first_stage, lists_of}
use Rattle.stages.specs.Steps.{Fresh, Reached, Room, Stepped, fitted, fitted_by, stage_by}
use Rattle.stages.specs.declared.Lists.{Lists}
use Rattle.theory.proofs.Depth.{consequents_few}
use Rattle.theory.proofs.Judgement.{agree_at_last, agree_elim, course_turn, stage_label, stage_length, stage_nogoods}
use Rattle.theory.proofs.Lists.{clash, either}
use Rattle.theory.proofs.Start.{label_zero, label_zero_above, nogoods_zero}
use Rattle.theory.specs.Judge.{Stage, Verdict, agree, consequents, course, judge, label_long, label_over, nogoods_long, nogoods_over, settled}
use Rattle.theory.specs.Limits.{limits}
use Rattle.theory.specs.Stages.{label_at}

-- what the next stage answers: its lists exactly when it has room
module _ (k : ℕ) (s : Stage) where
  step_room : (l : Lists) → Ok l ≡ fitted k s → Room s × (l ≡ lists_of k s)
  unfolding fitted
  step_room l is = go (nogoods_long limits s) (label_long limits s) refl refl is
    where
      go : (b : Bool) (m : ℕ) → nogoods_long limits s ≡ b → label_long limits s ≡ m → Ok l ≡ fitted_by b m (lists_of k s) → Room s × (l ≡ lists_of k s)
      go true m p q e = cc
      go false (suc m) p q e = cc
      go false zero p q e = (record { few = p; short = q }, cc)

  step_none : (r : Reply) → Err r ≡ fitted k s → Room s → ⊥
  unfolding fitted
  step_none r is o = clear (is ∙ ap₂ (λ (b : Bool) (m : ℕ). fitted_by b m (lists_of k s)) o.few o.short)
    where
      clear : {l : Lists} → ◌≡◌ {A = Result Lists Reply} (Err r) (Ok l) → ⊥
      clear e = let z : ◌≡◌ {A = ℕ} 0 1 = cc in omega arith

-- ---- the stages T, each with N labels, which agree from stage e on
module _ (T : ℕ → Stage) (N : ℕ) (wide : N ≤ limits.numbers) (long : (k : ℕ) → length (T k).labels ≡ N) (e : ℕ) (last : (k : ℕ) → e ≤ k → agree (T k) (T (suc k)) ≡ true) where
  -- what the stages from k on say
  abbrev from : ℕ → Verdict
  from k = course limits T e k

  agree_not : (k : ℕ) → Room (T k) → (Room (T (k + 1)) → ⊥) → agree (T k) (T (k + 1)) ≡ false
  agree_not k o n = ⊎_elim (λ (a : agree (T k) (T (k + 1)) ≡ true). absurd (n (subst Room (agree_elim (T k) (T (k + 1)) a) o))) (λ a. a) (either (agree (T k) (T (k + 1))))

  -- a stage that differs from the next comes before stage e
  differs_low : (k : ℕ) → agree (T k) (T (k + 1)) ≡ false → k < e
  differs_low k a = elim (dec_lt k e) [
    | yes p ↦ p
    | no p ↦ clash (subst (λ (j : ℕ). agree (T k) (T j) ≡ true) (sym (add-one k)) (last k (omega arith))) a
  ]

  from_here : (k : ℕ) → Room (T k) → agree (T k) (T (k + 1)) ≡ true → from k ≡ settled k (T k)
  from_here k o a = course_turn limits T e last k ∙ rw (o.few, o.short, a)

  from_on : (k : ℕ) → Room (T k) → agree (T k) (T (k + 1)) ≡ false → from k ≡ from (k + 1)
  from_on k o a = course_turn limits T e last k ∙ rw (o.few, o.short, a)

  -- a stage over its limit ends the walk with the refusal that it answers
  from_over : (k : ℕ) → (r : Reply) → Err r ≡ fitted k (T k) → Err r ≡ judged_by (from k)
  unfolding fitted
  from_over k r is = go (nogoods_long limits (T k)) (label_long limits (T k)) refl refl is
    where
      go : (b : Bool) (m : ℕ) → nogoods_long limits (T k) ≡ b → label_long limits (T k) ≡ m → Err r ≡ fitted_by b m (lists_of k (T k)) → Err r ≡ judged_by (from k)
      go true m p q w = let v : from k ≡ nogoods_over = course_turn limits T e last k ∙ rw p in w ∙ sym (ap judged_by v)
      go false (suc m) p q w = let v : from k ≡ label_over (suc m) = course_turn limits T e last k ∙ rw (p, q) in w ∙ sym (ap judged_by v)
      go false zero p q w = cc

  -- ---- stage k, with its lists, and what the next one answers
  module _ (k : ℕ) (l : Lists) (is : l ≡ lists_of k (T k)) (room : Room (T k)) (v : Verdict) (so : v ≡ from k) where
    turn_refused : (r : Reply) → Err r ≡ fitted (k + 1) (T (k + 1)) → Err r ≡ judged_by v
    turn_refused r made = from_over (k + 1) r made ∙ sym (ap judged_by (so ∙ from_on k room (agree_not k room (step_none (k + 1) (T (k + 1)) r made))))

    module _ (b : Bool) (agreed : b ≡ agree (T k) (T (k + 1))) where
      turn_settled : b ≡ true → Ok l ≡ judged_by v
      turn_settled a = ap (λ (x : Lists). Ok x) is ∙ sym (ap judged_by (so ∙ from_here k room (sym agreed ∙ a)))

      turn_on : b ≡ false → v ≡ from (k + 1)
      turn_on a = so ∙ from_on k room (sym agreed ∙ a)

      turn_low : b ≡ false → k < e
      turn_low a = differs_low k (sym agreed ∙ a)

-- ---- the stages of what is held

-- how many different consequents there are
abbrev pub most : Held → ℕ
most h = length (consequents (said_by h))

-- what the stages from k on say
abbrev pub from_stage : Held → ℕ → Verdict
from_stage h k = course limits (stage_by h) (most h) k

module _ (h : Held) (ok : Judgeable limits.assumptions h) where
  abbrev A : ℕ
  A = h.assumptions

  -- at most 129: falsity and the numbers up to 128
  most_few : most h ≤ limits.numbers + 1
  most_few = omega (arith, consequents_few (A + h.claims) (said_by h) (λ j m. (right_range h ok.right j m).low), wide h ok)

  room_zero : Room (stage_by h 0)
  unfolding nogoods_long label_long
  room_zero = record {
    few = let e : length (stage_by h 0).nogoods ≡ 0 = ap length (stage_nogoods A (A + h.claims) (said_by h) 0 ∙ nogoods_zero A (said_by h)) in le-ltb limits.nogoods (length (stage_by h 0).nogoods) (omega arith);
    short = lowest_none limits.label 1 (stage_by h 0).labels (λ i p.
        let q : i < A + h.claims = omega (arith, stage_length A (A + h.claims) (said_by h) 0) in
        let e : length (get_or (stage_by h 0).labels i []) ≡ length (label_at A (said_by h) 0 (suc i)) = ap length (stage_label A (A + h.claims) (said_by h) 0 i q) in
        elim (dec_lt i A) [
          | yes a ↦ (let z : length (label_at A (said_by h) 0 (suc i)) ≡ 1 = ap length (label_zero A (said_by h) i a) in omega arith)
          | no a ↦ (let z : length (label_at A (said_by h) 0 (suc i)) ≡ 0 = ap length (label_zero_above A (said_by h) i (omega arith)) in omega arith)
        ]);
  }

  module _ (l : Lists) (is : l ≡ lists_of 0 (first_stage A)) where
    depth_zero : l.depth ≡ 0
    unfolding lists_of
    depth_zero = ap (λ (x : Lists). x.depth) is

    pub judge_reached : Reached h l
    judge_reached = record {
      judgeable = ok;
      is = is ∙ sym (start_is A h.claims (said_by h)) ∙ ap (λ (k : ℕ). lists_of k (stage_by h k)) (sym depth_zero);
      room = subst (λ (k : ℕ). Room (stage_by h k)) (sym depth_zero) room_zero;
      low = omega (arith, depth_zero);
    }

    pub judge_from : judge limits A (A + h.claims) (said_by h) ≡ from_stage h l.depth
    unfolding judge
    judge_from = ap (from_stage h) (sym depth_zero)

-- ---- one step, from the lists l
module _ (h : Held) (l : Lists) (re : Reached h l) (v : Verdict) (so : v ≡ from_stage h l.depth) where
  abbrev N : ℕ
  N = h.assumptions + h.claims

  long : (k : ℕ) → length (stage_by h k).labels ≡ N
  long k = stage_length h.assumptions N (said_by h) k

  last : (k : ℕ) → most h ≤ k → agree (stage_by h k) (stage_by h (suc k)) ≡ true
  last k = agree_at_last h.assumptions N (said_by h) k

  pub walk_refused : (r : Reply) → Err r ≡ fitted (l.depth + 1) (stage_by h (l.depth + 1)) → Err r ≡ judged_by v
  walk_refused = turn_refused (stage_by h) N (wide h re.judgeable) long (most h) last l.depth l re.is re.room v so

  module _ (later : Lists) (moved : List ℕ) (same : Bool) (st : Stepped h l.depth later moved (Ok same)) where
    pub walk_settled : same ≡ true → Ok l ≡ judged_by v
    walk_settled = turn_settled (stage_by h) N (wide h re.judgeable) long (most h) last l.depth l re.is re.room v so same st.2

    depth_is : later.depth ≡ l.depth + 1
    unfolding lists_of
    depth_is = ap (λ (x : Lists). x.depth) (step_room (l.depth + 1) (stage_by h (l.depth + 1)) later st.0).1

    pub walk_fresh : Fresh h later.depth moved
    walk_fresh = subst (λ (k : ℕ). Fresh h k moved) (sym depth_is) st.1

    module _ (differs : same ≡ false) where
      low : l.depth < most h
      low = turn_low (stage_by h) N (wide h re.judgeable) long (most h) last l.depth l re.is re.room v so same st.2 differs

      pub walk_less : most h - later.depth < most h - l.depth
      walk_less = omega (arith, depth_is, low)

      pub walk_next : Reached h later
      walk_next =
          let made = step_room (l.depth + 1) (stage_by h (l.depth + 1)) later st.0 in
          record {
            judgeable = re.judgeable;
            is = made.1 ∙ ap (λ (k : ℕ). lists_of k (stage_by h k)) (sym depth_is);
            room = subst (λ (k : ℕ). Room (stage_by h k)) (sym depth_is) made.0;
            low = omega (arith, depth_is, low, most_few h re.judgeable);
          }

      pub walk_on : v ≡ from_stage h later.depth
      walk_on = turn_on (stage_by h) N (wide h re.judgeable) long (most h) last l.depth l re.is re.room v so same st.2 differs ∙ ap (from_stage h) (sym depth_is)
