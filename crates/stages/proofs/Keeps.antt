-- A list whose supports' labels did not change in the last step loses in this one what contains a nogood, and nothing else. Assumes nothing.
use mathlib.Core.Bool.{Bool, false, not, true}
use mathlib.Core.List.Memᴰ.{head as here}
use mathlib.Core.List.Memᴰ.{tail as there}
use mathlib.Core.List.{List, Memᴰ as Mem, [], ◌∷◌}
use mathlib.Core.Logic.{⊎_elim}
use mathlib.Core.Path.{◌∙◌, ◌≡◌, ap, ap₂, refl, subst, sym}
use Prim.Native.Nat.{◌+◌, ◌<◌, ◌≤◌, suc, zero, ℕ}
use native.Mathlib.Numerals.{add-one}
use native.Mathlib.Omega.{arith}
use lib.ListN.{get_or, get_or-replicate, replicate, take}
use borrow.Author.Tests.{not-true}
use Rattle.rules.proofs.Laws.{right_range}
use Rattle.rules.specs.Held.{said_by}
use Rattle.rules.specs.declared.Held.{Held}
use Rattle.stages.proofs.Parts.{wide}
use Rattle.stages.proofs.Stages.{listed_taken, nogoods_lie, nogoods_listed}
use Rattle.stages.specs.Judged.{Judgeable}
use Rattle.stages.specs.Lists.{lists_of}
use Rattle.stages.specs.Steps.{Listed, Room, Stale, Steady, Told, spared_of, stage_by}
use Rattle.stages.specs.declared.Lists.{Lists}
use Rattle.theory.proofs.Following.{follows_keep}
use Rattle.theory.proofs.Judgement.{same_elim, stage_label, stage_label_in, stage_nogoods}
use Rattle.theory.proofs.Label.{contains_elim, contains_intro, nogood_below, nogood_elim}
use Rattle.theory.proofs.Lasting.{joins_same}
use Rattle.theory.proofs.Lists.{clash, not_so, those_elim, those_intro}
use Rattle.theory.proofs.Order.{sorted_those}
use Rattle.theory.proofs.Select.{Selection, selection_unique}
use Rattle.theory.proofs.Sets.{within_refl, within_trans}
use Rattle.theory.proofs.Start.{label_selection, nogood_selection}
use Rattle.theory.proofs.Step.{candidates_cases, candidates_join, candidates_old, label_cands, nogood_cands}
use Rattle.theory.specs.Judge.{same_sets}
use Rattle.theory.specs.Limits.{limits}
use Rattle.theory.specs.Lists.{those}
use Rattle.theory.specs.Sets.{before, contains, within}
use Rattle.theory.specs.Stages.{Justification, label_at, nogoods_at}
use Rattle.theory.specs.Step.{candidates}

pub marked_all : (n : ℕ) → n ≤ limits.numbers → get_or (replicate (limits.numbers + 1) (suc zero)) n zero ≡ zero → ⊥
marked_all n h z = omega (arith, get_or-replicate (limits.numbers + 1) n (suc zero) zero (omega arith))

told : (b : Bool) → not b ≡ false → b ≡ true
told true z = refl
told false z = clash refl z

those_all : (p : ℕ → Bool) (l : List ℕ) → ((E : ℕ) → Mem E l → p E ≡ true) → those p l ≡ l
unfolding those
those_all p [] f = refl
those_all p (x ∷ l) f = rw (f x (here refl), those_all p l (λ y m. f y (there m)))

-- a part of what is spared is spared
spared_below : (l : List ℕ) (F H : ℕ) → within F H ≡ true → not (contains l H) ≡ true → not (contains l F) ≡ true
spared_below l F H w c =
    ap not (not_so (contains l F) (λ h. let g = contains_elim l F h in clash (contains_intro H g.1 (within_trans g.0 F H g.2 w)) (not-true (contains l H) c)))

-- ---- over the definitions
-- what contains a nogood contains one at the next stage
pub nogoods_grow : (A : ℕ) (J : List Justification) (k H : ℕ) → not (contains (nogoods_at A J (suc k)) H) ≡ true → not (contains (nogoods_at A J k) H) ≡ true
nogoods_grow A J k H c =
    ap not (not_so (contains (nogoods_at A J k) H) (λ h.
    let g = contains_elim (nogoods_at A J k) H h in
    let i = nogood_elim A J k g.1 in
    let b = nogood_below A J (suc k) g.0 i.small (follows_keep J k g.0 zero i.least.has) in
    clash (contains_intro H b.1 (within_trans b.0 g.0 H b.2 g.2)) (not-true (contains (nogoods_at A J (suc k)) H) c)))

module _ (A : ℕ) (J : List Justification) (k n : ℕ) (same : (r : Justification) → Mem r J → r.consequent ≡ n → (s : ℕ) → Mem s r.supports → label_at A J (suc k) s ≡ label_at A J k s) where
  -- a list that was selected by p: those of it that pass q are selected by q
  left : (X old : List ℕ) (p q : ℕ → Bool) → ((H : ℕ) → q H ≡ true → p H ≡ true) → ((F H : ℕ) → within F H ≡ true → q H ≡ true → q F ≡ true)
      → Selection X (candidates (label_at A J k) old J n) p → Selection (those q X) (candidates (label_at A J (suc k)) X J n) q
  left X old p q more below s = record {
    sorted = sorted_those before q X s.sorted;
    apart = λ F E f e w. s.apart F E (those_elim q X f).0 (those_elim q X e).0 w;
    from = λ E m. let t = those_elim q X m in (candidates_old (label_at A J (suc k)) J n t.0, t.1);
    inner = λ H m c. ⊎_elim (λ o. (H, those_intro q o c, within_refl H))
        (λ w.
        let i = s.inner H (candidates_join (label_at A J k) old J n w.0 w.1 w.2
        (subst (Mem H) (joins_same (label_at A J (suc k)) (label_at A J k) w.0.supports zero (same w.0 w.1 w.2)) w.3)) (more H c) in
        (i.0, those_intro q i.1 (below i.0 H i.2 c), i.2))
        (candidates_cases (label_at A J (suc k)) X J n m);
  }

  -- a label loses what contains a nogood, and nothing else
  label_left : label_at A J (suc (suc k)) n ≡ spared_of (nogoods_at A J (suc (suc k))) (label_at A J (suc k) n)
  label_left =
      let N : List ℕ = nogoods_at A J (suc (suc k)) in
      let q : ℕ → Bool = λ E. not (contains N E) in
      selection_unique (label_at A J (suc (suc k)) n) (those q (label_at A J (suc k) n)) (label_cands A J (suc k) n) q (label_selection A J (suc k) n)
      (left (label_at A J (suc k) n) (label_at A J k n) (λ E. not (contains (nogoods_at A J (suc k)) E)) q (nogoods_grow A J (suc k)) (spared_below N) (label_selection A J k n))

label_spared : (A : ℕ) (J : List Justification) (k n : ℕ) → spared_of (nogoods_at A J (suc k)) (label_at A J (suc k) n) ≡ label_at A J (suc k) n
label_spared A J k n = those_all (λ E. not (contains (nogoods_at A J (suc k)) E)) (label_at A J (suc k) n) (λ E m. ((label_selection A J k n).from E m).1)

nogoods_still : (A : ℕ) (J : List Justification) (k : ℕ) → ((r : Justification) → Mem r J → r.consequent ≡ zero → (s : ℕ) → Mem s r.supports → label_at A J (suc k) s ≡ label_at A J k s) → nogoods_at A J (suc (suc k)) ≡ nogoods_at A J (suc k)
nogoods_still A J k same =
    let N : List ℕ = nogoods_at A J (suc k) in
    selection_unique (nogoods_at A J (suc (suc k))) (those (λ E. true) N) (nogood_cands A J (suc k)) (λ E. true) (nogood_selection A J (suc k))
    (left A J k zero same N (nogoods_at A J k) (λ E. true) (λ E. true) (λ H c. c) (λ F H w c. c) (nogood_selection A J k))
    ∙ those_all (λ E. true) N (λ E m. refl)

-- ---- over what is held
module _ (h : Held) (ok : Judgeable limits.assumptions h) (k : ℕ) where
  abbrev A : ℕ
  A = h.assumptions

  abbrev N : ℕ
  N = h.assumptions + h.claims

  abbrev J : List Justification
  J = said_by h

  same_at : (n : ℕ) (d : Steady h k n) (r : Justification) → Mem r J → r.consequent ≡ n → (s : ℕ) → Mem s r.supports → label_at A J (suc d.before) s ≡ label_at A J d.before s
  same_at n d r m e s t =
      let u : s ≤ N = ((right_range h ok.right r m).between s t).1 in
      sym (stage_label_in A N J (suc d.before) s u) ∙ d.same r m e s t ∙ stage_label_in A N J d.before s u

  at_next : (d : ℕ) → k ≡ suc d → k + 1 ≡ suc (suc d)
  at_next d e = add-one k ∙ ap suc e

  nogoods_keep : Steady h k 0 → (stage_by h (k + 1)).nogoods ≡ (stage_by h k).nogoods
  nogoods_keep d =
      ap (λ (m : ℕ). (stage_by h m).nogoods) (at_next d.before d.next) ∙ stage_nogoods A N J (suc (suc d.before))
      ∙ nogoods_still A J d.before (same_at 0 d) ∙ sym (ap (λ (m : ℕ). (stage_by h m).nogoods) d.next ∙ stage_nogoods A N J (suc d.before))

  -- ---- a label without a mark
  module _ (stale : List ℕ) (f : Stale h k stale) (i : ℕ) (low : i < N) (z : get_or stale (i + 1) 0 ≡ 0) where
    steady : Steady h k (i + 1)
    steady = f (i + 1) (omega (arith, wide h ok)) z

    label_next : get_or (stage_by h (k + 1)).labels i [] ≡ label_at A J (suc (suc steady.before)) (suc i)
    label_next = ap (λ (m : ℕ). get_or (stage_by h m).labels i []) (at_next steady.before steady.next) ∙ stage_label A N J (suc (suc steady.before)) i low

    label_now : get_or (stage_by h k).labels i [] ≡ label_at A J (suc steady.before) (suc i)
    label_now = ap (λ (m : ℕ). get_or (stage_by h m).labels i []) steady.next ∙ stage_label A N J (suc steady.before) i low

    nogoods_next : (stage_by h (k + 1)).nogoods ≡ nogoods_at A J (suc (suc steady.before))
    nogoods_next = ap (λ (m : ℕ). (stage_by h m).nogoods) (at_next steady.before steady.next) ∙ stage_nogoods A N J (suc (suc steady.before))

    nogoods_now : (stage_by h k).nogoods ≡ nogoods_at A J (suc steady.before)
    nogoods_now = ap (λ (m : ℕ). (stage_by h m).nogoods) steady.next ∙ stage_nogoods A N J (suc steady.before)

    -- what the nogoods of the next stage leave of it
    pub label_struck : get_or (stage_by h (k + 1)).labels i [] ≡ spared_of (stage_by h (k + 1)).nogoods (get_or (stage_by h k).labels i [])
    label_struck =
        let a : i + 1 ≡ suc i = add-one i in
        label_next ∙ label_left A J steady.before (suc i) (λ r m q s t. same_at (i + 1) steady r m (q ∙ sym a) s t) ∙ sym (ap₂ spared_of nogoods_next label_now)

    -- all of it, where they are the same
    pub label_kept : (stage_by h (k + 1)).nogoods ≡ (stage_by h k).nogoods → get_or (stage_by h (k + 1)).labels i [] ≡ get_or (stage_by h k).labels i []
    label_kept e = label_struck ∙ ap₂ spared_of (e ∙ nogoods_now) label_now ∙ label_spared A J steady.before (suc i) ∙ sym label_now

  -- ---- whether the nogoods changed
  pub news_told : (l : Lists) → l ≡ lists_of k (stage_by h k) → Room (stage_by h k) → (many : ℕ) (later : List ℕ) → Listed (stage_by h (k + 1)).nogoods many later
      → (r : Bool) → r ≡ not (same_sets (take many later) (take l.count l.nogoods)) → r ≡ not (same_sets (stage_by h (k + 1)).nogoods (stage_by h k).nogoods)
  news_told l is room many later n r e =
      e ∙ ap₂ (λ (x y : List ℕ). not (same_sets x y)) (listed_taken (stage_by h (k + 1)).nogoods many later n) (nogoods_lie k (stage_by h k) room l is)

  pub told_news : (r : Bool) → r ≡ not (same_sets (stage_by h (k + 1)).nogoods (stage_by h k).nogoods) → Told h k r
  told_news r e z = same_elim (stage_by h (k + 1)).nogoods (stage_by h k).nogoods (told (same_sets (stage_by h (k + 1)).nogoods (stage_by h k).nogoods) (sym e ∙ z))

  -- no support of falsity changed: the nogoods stay
  pub kept_listed : Steady h k 0 → (l : Lists) → l ≡ lists_of k (stage_by h k) → Room (stage_by h k) → Listed (stage_by h (k + 1)).nogoods l.count l.nogoods
  kept_listed d l is room = subst (λ (n : List ℕ). Listed n l.count l.nogoods) (sym (nogoods_keep d)) (nogoods_listed k (stage_by h k) room l is)
