-- What a made store's lists say of the sets, over what was put in. Assumes nothing.
use mathlib.Core.Bool.{Bool, false, true}
use mathlib.Core.List.{List, Memᴰ as Mem}
use mathlib.Core.Logic.{◌↔◌}
use mathlib.Core.Path.{◌∙◌, ◌≡◌, ap, ap₂, refl, subst, sym}
use Prim.Native.Nat.{◌+◌, ◌<◌, ◌^◌, ◌≤◌, suc, zero, ℕ}
use native.Mathlib.Omega.{arith}
use Rattle.joining.specs.Layout.{lying}
use Rattle.promises.proofs.Form.{Form, form_a, form_lists, form_ranged, form_said, form_settled}
use Rattle.promises.proofs.InOrder.{in_order_from, in_order_to}
use Rattle.promises.proofs.Right.{form_room, form_stage}
use Rattle.promises.specs.Demand2.{IsDepth, ListsSmallest}
use Rattle.promises.specs.Made.{SameMembers, in_order}
use Rattle.shape.proofs.Stage.{Antichain, label_antichain, nogoods_antichain}
use Rattle.stages.proofs.Stages.{lies, nogoods_lie}
use Rattle.stages.specs.Lists.{lists_of}
use Rattle.stages.specs.declared.Lists.{Lists}
use Rattle.store.specs.Reading.{held_from_all, label_held, nogoods_held}
use Rattle.store.specs.declared.Store.{Store}
use Rattle.theory.proofs.Demands.{carries_means, contradicts_means, depth_carries, depth_contradicts, from_all_means}
use Rattle.theory.proofs.Judgement.{agree_stage, settled_agrees, settled_later, settled_least, stage_label_in, stage_nogoods}
use Rattle.theory.proofs.Label.{contains_elim, contains_intro, inconsistent, label_elim}
use Rattle.theory.proofs.Lasting.{Upto}
use Rattle.theory.proofs.Listing.{within_below}
use Rattle.theory.proofs.Lists.{same_test}
use Rattle.theory.proofs.Sameness.{Covered, same_follows, same_label, same_nogoods, same_stage}
use Rattle.theory.proofs.Sets.{within_antisym, within_refl, within_trans}
use Rattle.theory.specs.Demands.{carries, contradicts, follows_from_all}
use Rattle.theory.specs.Judge.{Stage, judge, settled, stage_at}
use Rattle.theory.specs.Limits.{limits}
use Rattle.theory.specs.Sets.{contains, within}
use Rattle.theory.specs.Stages.{Justification, follows, label_at, nogoods_at}
use Rattle.theory.specs.Step.{label_in}

-- ---- the same members say the same

pub covered : {J H : List Justification} → ((j : Justification) → Mem j J → Mem j H) → Covered J H
covered f r m = (r, f r m, refl, λ s k. k)

module _ (J H : List Justification) (f : SameMembers J H) where
  follow_same : follows J ≡ follows H
  follow_same = same_follows J H (covered (λ j. (f j).0)) (covered (λ j. (f j).1))

  along : (k E n : ℕ) → follows J k E n ≡ true → follows H k E n ≡ true
  along k E n h = subst (λ (S : ℕ → ℕ → ℕ → Bool). S k E n ≡ true) follow_same h

  back : (k E n : ℕ) → follows H k E n ≡ true → follows J k E n ≡ true
  back k E n h = subst (λ (S : ℕ → ℕ → ℕ → Bool). S k E n ≡ true) (sym follow_same) h

  pub contradicts_same : (E : ℕ) → contradicts J E ≡ contradicts H E
  contradicts_same E =
      same_test (λ h. let r = (contradicts_means J E).0 h in (contradicts_means H E).1 (r.0, along r.0 E zero r.1))
      (λ h. let r = (contradicts_means H E).0 h in (contradicts_means J E).1 (r.0, back r.0 E zero r.1))

  pub carries_same : (E n : ℕ) → carries J E n ≡ carries H E n
  carries_same E n =
      same_test
      (λ h. let r = (carries_means J E n).0 h in (carries_means H E n).1 (sym (contradicts_same E) ∙ r.0, (r.1.0, along r.1.0 E n r.1.1)))
      (λ h. let r = (carries_means H E n).0 h in (carries_means J E n).1 (contradicts_same E ∙ r.0, (r.1.0, back r.1.0 E n r.1.1)))

  pub from_all_same : (A n : ℕ) → follows_from_all A J n ≡ follows_from_all A H n
  from_all_same A n =
      same_test
      (λ h. let r = (from_all_means A J n).0 h in (from_all_means A H n).1 (r.0, r.1, (r.2.0, along r.2.0 r.0 n r.2.1)))
      (λ h. let r = (from_all_means A H n).0 h in (from_all_means A J n).1 (r.0, r.1, (r.2.0, back r.2.0 r.0 n r.2.1)))

-- ---- an antichain that has a member in each set with P lists the smallest sets with P

module _ (A : ℕ) (P : ℕ → Bool) {l : List ℕ} (c : Antichain A l) (own : (E : ℕ) → Mem E l → P E ≡ true)
    (inner : (E : ℕ) → E < 2 ^ A → P E ≡ true → (G : ℕ) × Mem G l × (within G E ≡ true)) where
  pub lists_smallest : ListsSmallest A P l
  lists_smallest = record {
    exactly = λ E. (
      λ m.
          let h : E < 2 ^ A = c.small E m in
          record {
            range = h;
            has = own E m;
            no_smaller = λ F w p.
                let r = inner F (within_below A F E w h) p in
                let e : r.0 ≡ E = c.least r.0 E r.1 m (within_trans r.0 F E r.2 w) in
                within_antisym F E w (subst (λ (x : ℕ). within x F ≡ true) e r.2);
          },
      λ k. let r = inner E k.range k.has in subst (λ (x : ℕ). Mem x l) (k.no_smaller r.0 r.2 (own r.0 r.1)) r.1,
    );
    order = c.sorted;
  }

-- ---- a made store

lying_held : (l : Lists) (n : ℕ) → lying l.members l.sizes n ≡ label_held l n
unfolding lying
lying_held l zero = refl
lying_held l (suc i) = refl

module _ {A M : ℕ} {H : List Justification} {s : Store} (f : Form A M H s) where
  abbrev J : List Justification
  J = in_order H

  abbrev N : ℕ
  N = A + M

  abbrev depth : ℕ
  depth = (form_settled f).depth

  abbrev stage : Stage
  stage = (form_settled f).stage

  same : SameMembers J H
  same j = (λ m. in_order_from H m, λ m. in_order_to m)

  pub form_upto : Upto N J
  form_upto j m t k = ((form_ranged f j m).between t k).1

  verdict : judge limits A N J ≡ settled depth stage
  verdict = (form_settled f).verdict

  held_nogoods : nogoods_held s.lists ≡ stage.nogoods
  held_nogoods = nogoods_lie depth stage (form_room f) s.lists (form_lists f)

  held_label : (n : ℕ) → n ≤ N → label_held s.lists n ≡ label_in stage.labels n
  held_label n h = sym (lying_held s.lists n) ∙ lies depth stage (form_room f) s.lists (form_lists f) n (omega (arith, f.few, f.claims))

  pub held_nogoods_at : nogoods_held s.lists ≡ nogoods_at A J depth
  held_nogoods_at = held_nogoods ∙ ap (λ (t : Stage). t.nogoods) (form_stage f) ∙ stage_nogoods A N J depth

  pub held_label_at : (n : ℕ) → n ≤ N → label_held s.lists n ≡ label_at A J depth n
  held_label_at n h = held_label n h ∙ ap (λ (t : Stage). label_in t.labels n) (form_stage f) ∙ stage_label_in A N J depth n h

  -- E contradicts itself exactly when it contains a nogood
  pub form_contradicts : (E : ℕ) → E < 2 ^ A → contains (nogoods_held s.lists) E ≡ contradicts H E
  form_contradicts E h =
      ap (λ (l : List ℕ). contains l E) held_nogoods ∙ depth_contradicts limits A N J depth stage verdict form_upto E h ∙ contradicts_same J H same E

  -- E carries n exactly when it contains no nogood and a member of n's label
  pub form_carries : (n E : ℕ) → n ≤ N → E < 2 ^ A → (carries H E n ≡ true) ↔ ((contains (nogoods_held s.lists) E ≡ false) × (contains (label_held s.lists n) E ≡ true))
  form_carries n E l h =
      let d = depth_carries limits A N J depth stage verdict form_upto E h n l in
      let g : contains (nogoods_held s.lists) E ≡ contains stage.nogoods E = ap (λ (x : List ℕ). contains x E) held_nogoods in
      let b : contains (label_held s.lists n) E ≡ contains (label_in stage.labels n) E = ap (λ (x : List ℕ). contains x E) (held_label n l) in
      (λ c. let r = d.0 (carries_same J H same E n ∙ c) in (g ∙ r.0, b ∙ r.1), λ r. sym (carries_same J H same E n) ∙ d.1 (sym g ∙ r.0, sym b ∙ r.1))

  -- what follows from all assumptions together by what is held
  pub form_from_all : (n : ℕ) → held_from_all s n ≡ follows_from_all A H n
  form_from_all n =
      ap₂ (λ (a : ℕ) (K : List Justification). follows_from_all a K n) (form_a f) (form_said f) ∙ from_all_same J H same A n

  -- ---- the lists

  pub form_nogoods : ListsSmallest A (contradicts H) (nogoods_held s.lists)
  form_nogoods =
      let c : Antichain A (nogoods_held s.lists) = subst (Antichain A) (sym held_nogoods_at) (nogoods_antichain A J depth) in
      lists_smallest A (contradicts H) c
      (λ E m. sym (form_contradicts E (c.small E m)) ∙ contains_intro E m (within_refl E))
      (λ E h p. contains_elim (nogoods_held s.lists) E (form_contradicts E h ∙ p))

  pub form_label : (n : ℕ) → n ≤ N → ListsSmallest A (λ E. carries H E n) (label_held s.lists n)
  form_label n l =
      let c : Antichain A (label_held s.lists n) = subst (Antichain A) (sym (held_label_at n l)) (label_antichain A J depth n) in
      lists_smallest A (λ E. carries H E n) c
      (λ E m.
      let h : E < 2 ^ A = c.small E m in
      let i = label_elim A J depth n (subst (Mem E) (held_label_at n l) m) in
      let none : contains (nogoods_held s.lists) E ≡ false = ap (λ (x : List ℕ). contains x E) held_nogoods_at ∙ inconsistent A J depth E h ∙ i.clean in
      (form_carries n E l h).1 (none, contains_intro E m (within_refl E)))
      (λ E h p. contains_elim (label_held s.lists n) E ((form_carries n E l h).0 p).1)

  -- ---- the depth

  stages_same : (k : ℕ) → stage_at A N J k ≡ stage_at A N H k
  stages_same k = same_stage J H (covered (λ j. (same j).0)) (covered (λ j. (same j).1)) A N k

  is_depth : IsDepth A N H depth
  is_depth = record {
    agrees = sym (stages_same depth) ∙ settled_agrees limits A N J depth stage verdict ∙ stages_same (suc depth);
    least = λ i h e. settled_least limits A N J depth stage verdict i h (stages_same i ∙ e ∙ sym (stages_same (suc i)));
  }

  depth_is : s.lists.depth ≡ depth
  unfolding lists_of
  depth_is = ap (λ (l : Lists). l.depth) (form_lists f)

  pub form_depth : IsDepth A N H s.lists.depth
  form_depth = subst (IsDepth A N H) (sym depth_is) is_depth

  pub form_label_at : (n : ℕ) → n ≤ N → label_held s.lists n ≡ label_at A H s.lists.depth n
  form_label_at n h =
      held_label_at n h ∙ same_label J H (covered (λ j. (same j).0)) (covered (λ j. (same j).1)) A depth n
      ∙ ap (λ (k : ℕ). label_at A H k n) (sym depth_is)

  pub form_nogoods_at : nogoods_held s.lists ≡ nogoods_at A H s.lists.depth
  form_nogoods_at =
      held_nogoods_at ∙ same_nogoods J H (covered (λ j. (same j).0)) (covered (λ j. (same j).1)) A depth ∙ ap (nogoods_at A H) (sym depth_is)

  pub form_later : (k : ℕ) → s.lists.depth ≤ k → stage_at A N H s.lists.depth ≡ stage_at A N H k
  form_later k h =
      ap (stage_at A N H) depth_is ∙ sym (stages_same depth)
      ∙ agree_stage A N J depth k (settled_later limits A N J depth stage verdict form_upto k (omega (arith, depth_is))) ∙ stages_same k
