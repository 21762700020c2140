-- From the lists of one stage to those of the next, list by list, over plain variables. Assumes nothing.
use Rattle.std.specs.Prelude.{None, Some, Result, Ok, Err}
use mathlib.Core.Bool.{Bool, false}
use mathlib.Core.List.{List, [], ◌∷◌}
use mathlib.Core.Logic.{⊎_elim}
use mathlib.Core.Path.{◌∙◌, ◌≡◌, ap, ap₂, refl, subst, sym}
use Prim.Native.Nat.{◌+◌, ◌<◌, ◌≤◌, suc, zero, ℕ}
use native.Mathlib.Nat.{eq-or-lt_of_le, le_of_suc-le-suc, not-suc-le-zero}
use native.Mathlib.Numerals.{add-one}
use native.Mathlib.Omega.{arith}
use native.Mathlib.Decide.{dec_lt}
use lib.ListN.{get_or, length, take}
use borrow.Author.Tests.{le-ltb, lt-ltb}
use Rattle.joining.specs.Layout.{lying}
use Rattle.labels.proofs.Rounds.{built_first}
use Rattle.labels.specs.Entries.{between}
use Rattle.labels.specs.Promised.{Build, built_of, placed_first, placed_list}
use Rattle.labels.specs.declared.Built.{Built}
use Rattle.labels.specs.declared.Full.{Full}
use Rattle.replies.specs.declared.Reply.TheVariants.{Label, Nogoods}
use Rattle.rules.proofs.Laws.{right_range}
use Rattle.rules.specs.Held.{said_by}
use Rattle.rules.specs.declared.Held.{Held}
use Rattle.stages.proofs.Parts.{below, first_candidates, part_candidates, tally_end, wide}
use Rattle.stages.proofs.Stages.{lies, nogoods_lie}
use Rattle.stages.specs.Lists.{lists_of}
use Rattle.stages.specs.Steps.{Listed, Reached, Relabelled, fitted, fitted_by, if_any, stage_by, tallied}
use Rattle.stages.specs.declared.Lists.{Lists}
use Rattle.theory.proofs.Lasting.{Upto, candidates_same}
use Rattle.theory.proofs.Picks.{next_label, next_nogoods}
use Rattle.theory.specs.Judge.{Stage, label_long, lowest_long, nogoods_long, stage_at}
use Rattle.theory.specs.Limits.{limits}
use Rattle.theory.specs.Lists.{choose}
use Rattle.theory.specs.Step.{candidates, label_in, picks}

-- ---- what a built list says of the whole
module _ (limit : ℕ) (X : List ℕ) where
  pub built_over : (f : Full) → Err f ≡ built_of limit X → limit < length X
  unfolding built_of
  built_over f e = elim (dec_lt limit (length X)) [
    | yes h ↦ h
    | no h ↦ (let z : ◌≡◌ {A = Result Built Full} (Err f) (Ok (placed_list X)) = e ∙ ap (λ (b : Bool). choose b (Err (placed_first limit X)) (Ok (placed_list X))) (le-ltb limit (length X) (omega arith)) in cc)
  ]

  pub built_is : (b : Built) → Ok b ≡ built_of limit X → (length X ≤ limit) × (b ≡ placed_list X)
  unfolding built_of
  built_is b e = elim (dec_lt limit (length X)) [
    | yes h ↦ (let z : ◌≡◌ {A = Result Built Full} (Ok b) (Err (placed_first limit X)) = e ∙ ap (λ (t : Bool). choose t (Err (placed_first limit X)) (Ok (placed_list X))) (lt-ltb limit (length X) h) in absurd (full z))
    | no h ↦ (omega arith, inside (e ∙ ap (λ (t : Bool). choose t (Err (placed_first limit X)) (Ok (placed_list X))) (le-ltb limit (length X) (omega arith))))
  ]
    where
      full : {c : Built} {f : Full} → ◌≡◌ {A = Result Built Full} (Ok c) (Err f) → ⊥
      full z = let q : ◌≡◌ {A = ℕ} 0 1 = cc in omega arith

      inside : {c d : Built} → ◌≡◌ {A = Result Built Full} (Ok c) (Ok d) → c ≡ d
      inside z = cc

-- ---- a list in its places
pub placed_listed : (X : List ℕ) (r : Built) → r ≡ placed_list X → length X ≤ limits.nogoods → Listed X r.count r.sets
unfolding placed_list
placed_listed X r is few = record { counted = ap (λ (b : Built). b.count) is; few = omega (arith, ap (λ (b : Built). b.count) is); lie = ap (λ (b : Built). b.sets) is }

-- ---- those that stay, as if they were built
pub listed_built : (X : List ℕ) (count : ℕ) (places : List ℕ) → Listed X count places → ◌≡◌ {A = Result Built Full} (Ok (record { count = count; sets = places })) (built_of limits.nogoods X)
unfolding built_of placed_list
listed_built X count places n =
    ap (λ (b : Built). Ok b) (ap₂ made n.counted n.lie)
    ∙ sym (ap (λ (b : Bool). choose b (Err (placed_first limits.nogoods X)) (Ok (placed_list X))) (le-ltb limits.nogoods (length X) (omega (arith, n.counted, n.few))))
  where
    made : ℕ → List ℕ → Built
    made c l = record { count = c; sets = l }

-- ---- the lists that are built
module _ (h : Held) (l : Lists) (re : Reached h l) where
  abbrev N : ℕ
  N = h.assumptions + h.claims

  abbrev old_stage : Stage
  old_stage = stage_by h l.depth

  abbrev new_stage : Stage
  new_stage = stage_by h (l.depth + 1)

  upto : Upto N (said_by h)
  upto j m s n = ((right_range h re.judgeable.right j m).between s n).1

  cands : (old old' : List ℕ) (n : ℕ) → old ≡ old' → candidates (lying l.members l.sizes) old (said_by h) n ≡ candidates (label_in old_stage.labels) old' (said_by h) n
  cands old old' n e =
      candidates_same N (said_by h) upto (lying l.members l.sizes) (label_in old_stage.labels) old old' n
      (λ s q. lies l.depth old_stage re.room l re.is s (omega (arith, wide h re.judgeable))) e

  at_next : {X : Type 0} (f : Stage → X) → f (stage_at h.assumptions N (said_by h) (suc l.depth)) ≡ f new_stage
  at_next f = ap (λ (k : ℕ). f (stage_by h k)) (sym (add-one l.depth))

  pub nogoods_built : (end : ℕ) → end ≡ get_or (tallied h) 0 0 → (r : Result Built Full) → Build (take end h.entries) 0 l.members l.sizes (take l.count l.nogoods) [] limits.nogoods r → r ≡ built_of limits.nogoods (stage_by h (l.depth + 1)).nogoods
  nogoods_built end q r e =
      e ∙ ap (built_of limits.nogoods) (ap (picks (limits.nogoods + 1) [] []) (first_candidates h re.judgeable end q (lying l.members l.sizes) (take l.count l.nogoods) ∙ cands (take l.count l.nogoods) old_stage.nogoods 0 (nogoods_lie l.depth old_stage re.room l re.is))
      ∙ next_nogoods h.assumptions N (said_by h) upto l.depth (limits.nogoods + 1) ∙ at_next (λ s. take (limits.nogoods + 1) s.nogoods)) ∙ built_first limits.nogoods new_stage.nogoods

  module _ (tallies : List ℕ) (te : tallies ≡ tallied h) where
    pub label_built : (struck : List ℕ) → struck ≡ (stage_by h (l.depth + 1)).nogoods → (i lo : ℕ) → i < N → lo ≡ below (said_by h) (i + 1) → (old : List ℕ) → old ≡ lying l.members l.sizes (i + 1)
        → (r : Result Built Full) → Build (between h.entries lo (lo + get_or tallies (i + 1) 0)) (i + 1) l.members l.sizes old struck limits.label r → r ≡ built_of limits.label (get_or (stage_by h (l.depth + 1)).labels i [])
    unfolding label_in
    label_built struck se i lo low le old oe r e =
        let a : i + 1 ≡ suc i = add-one i in
        let top : i + 1 ≤ limits.numbers = omega (arith, wide h re.judgeable) in
        let o : old ≡ label_in old_stage.labels (i + 1) = oe ∙ lies l.depth old_stage re.room l re.is (i + 1) top in
        let p = part_candidates h re.judgeable (i + 1) lo (lo + get_or tallies (i + 1) 0) le (tally_end h re.judgeable tallies te (i + 1) lo top le) (lying l.members l.sizes) old in
        e ∙ ap (built_of limits.label) (ap₂ (λ (b c : List ℕ). picks (limits.label + 1) b [] c) (se ∙ sym (at_next (λ s. s.nogoods))) (p ∙ cands old (label_in old_stage.labels (i + 1)) (i + 1) o)
        ∙ next_label h.assumptions N (said_by h) upto l.depth (limits.label + 1) (i + 1) (omega arith) ∙ at_next (λ s. take (limits.label + 1) (label_in s.labels (i + 1))) ∙ ap (λ (n : ℕ). take (limits.label + 1) (label_in new_stage.labels n)) a) ∙ built_first limits.label (get_or new_stage.labels i [])

-- ---- what the next stage says

lowest_at : (limit n : ℕ) (ls : List (List ℕ)) (i : ℕ) → i < length ls → ((j : ℕ) → j < i → length (get_or ls j []) ≤ limit) → limit < length (get_or ls i []) → lowest_long limit n ls ≡ n + i
unfolding lowest_long
lowest_at limit n [] i h f o = absurd (not-suc-le-zero h)
lowest_at limit n (l ∷ ls) zero h f o = ap (λ (b : Bool). choose b n (lowest_long limit (suc n) ls)) (lt-ltb limit (length l) o) ∙ omega arith
lowest_at limit n (l ∷ ls) (suc i) h f o =
    ap (λ (b : Bool). choose b n (lowest_long limit (suc n) ls)) (le-ltb limit (length l) (f 0 (omega arith)))
    ∙ lowest_at limit (suc n) ls i (le_of_suc-le-suc h) (λ j p. f (suc j) (omega arith)) o ∙ omega arith

pub lowest_none : (limit n : ℕ) (ls : List (List ℕ)) → ((j : ℕ) → j < length ls → length (get_or ls j []) ≤ limit) → lowest_long limit n ls ≡ 0
unfolding lowest_long
lowest_none limit n [] f = refl
lowest_none limit n (l ∷ ls) f =
    ap (λ (b : Bool). choose b n (lowest_long limit (suc n) ls)) (le-ltb limit (length l) (f 0 (omega arith))) ∙ lowest_none limit (suc n) ls (λ j p. f (suc j) (omega arith))

module _ (k : ℕ) (s : Stage) where
  pub next_over : limits.nogoods < length s.nogoods → Err Nogoods ≡ fitted k s
  unfolding fitted nogoods_long
  next_over h = ap (λ (b : Bool). fitted_by b (label_long limits s) (lists_of k s)) (sym (lt-ltb limits.nogoods (length s.nogoods) h))

  module _ (few : length s.nogoods ≤ limits.nogoods) where
    within : fitted_by false (label_long limits s) (lists_of k s) ≡ fitted k s
    unfolding fitted nogoods_long
    within = ap (λ (b : Bool). fitted_by b (label_long limits s) (lists_of k s)) (sym (le-ltb limits.nogoods (length s.nogoods) few))

    pub next_beyond : (n : ℕ) → Some n ≡ if_any (label_long limits s) → Err (Label n) ≡ fitted k s
    next_beyond n e = go (label_long limits s) refl e
      where
        go : (m : ℕ) → label_long limits s ≡ m → Some n ≡ if_any m → Err (Label n) ≡ fitted k s
        go zero q e = cc
        go (suc m) q e = let same : n ≡ suc m = cc in ap (λ (x : ℕ). Err (Label x)) same ∙ ap (λ (x : ℕ). fitted_by false x (lists_of k s)) (sym q) ∙ within

    pub next_fits : None ≡ if_any (label_long limits s) → (l : Lists) → l ≡ lists_of k s → Ok l ≡ fitted k s
    next_fits e l p = go (label_long limits s) refl e
      where
        go : (m : ℕ) → label_long limits s ≡ m → None ≡ if_any m → Ok l ≡ fitted k s
        go zero q e = ap (λ (x : Lists). Ok x) p ∙ ap (λ (x : ℕ). fitted_by false x (lists_of k s)) (sym q) ∙ within
        go (suc m) q e = cc

-- ---- the labels one after the other
module _ (h : Held) (k i : ℕ) (so : (j : ℕ) → j < i → length (get_or (stage_by h (k + 1)).labels j []) ≤ limits.label) where
  pub over_at : i < length (stage_by h (k + 1)).labels → limits.label < length (get_or (stage_by h (k + 1)).labels i []) → (members sizes marks : List ℕ) → Relabelled h k members sizes marks (Some (i + 1))
  unfolding label_long
  over_at low long members sizes marks =
      let w : lowest_long limits.label 1 (stage_by h (k + 1)).labels ≡ 1 + i = lowest_at limits.label 1 (stage_by h (k + 1)).labels i low so long in
      let q : 1 + i ≡ suc i = omega arith in
      record { over = ap (λ (x : ℕ). Some x) (add-one i) ∙ sym (ap if_any (w ∙ q)); members_are = λ z. cc; sizes_are = λ z. cc; marks_are = λ z. cc }

  pub over_none : length (stage_by h (k + 1)).labels ≤ i → None ≡ if_any (label_long limits (stage_by h (k + 1)))
  unfolding label_long
  over_none low = ap if_any (sym (lowest_none limits.label 1 (stage_by h (k + 1)).labels (λ j p. so j (omega arith))))

-- ---- no label so far is over
module _ (s : Stage) (i : ℕ) where
  pub short_on : length (get_or s.labels i []) ≤ limits.label → ((j : ℕ) → j < i → length (get_or s.labels j []) ≤ limits.label) → (j : ℕ) → j < i + 1 → length (get_or s.labels j []) ≤ limits.label
  short_on short so j h =
      ⊎_elim (λ (q : j ≡ i). subst (λ (x : ℕ). length (get_or s.labels x []) ≤ limits.label) (sym q) short) (λ p. so j p)
      (eq-or-lt_of_le (le_of_suc-le-suc (subst (λ (x : ℕ). j < x) (add-one i) h)))
