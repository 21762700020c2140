-- The lists of stage k + 1 by computing from those of stage k: picked one after the other, they are the nogoods and the labels. Assumes nothing.
use mathlib.Core.Bool.{Bool, not, true}
use mathlib.Core.List.{List, Memᴰ as Mem, [], ◌++◌, ◌∷◌, append_assoc}
use mathlib.Core.Logic.{⊎_elim}
use mathlib.Core.Option.{Option, none, some}
use mathlib.Core.Path.{◌∙◌, ◌≡◌, ap, ap₂, refl, subst, sym}
use Prim.Native.Nat.{◌≤◌, suc, zero, ℕ}
use native.Mathlib.Omega.{arith}
use lib.ListN.{take}
use borrow.Author.Tests.{not-true}
use Rattle.theory.proofs.Lasting.{Upto, candidates_same}
use Rattle.theory.proofs.First.{best_first, best_none, best_some}
use Rattle.theory.proofs.Judgement.{stage_label_in, stage_nogoods}
use Rattle.theory.proofs.Lists.{and_intro, and_left, and_right, clash}
use Rattle.theory.proofs.Select.{Open, Selection, done, next}
use Rattle.theory.proofs.Start.{label_selection, nogood_selection}
use Rattle.theory.proofs.Step.{label_cands, nogood_cands}
use Rattle.theory.specs.Judge.{stage_at}
use Rattle.theory.specs.Lists.{some_of}
use Rattle.theory.specs.Sets.{contains}
use Rattle.theory.specs.Stages.{Justification, label_at, nogoods_at}
use Rattle.theory.specs.Step.{best, candidates, free, label_in, more, picks}

-- ---- picking in listing order gives the selection

module _ (bad l : List ℕ) where
  abbrev clean : ℕ → Bool
  clean E = not (contains bad E)

  open_free : (found : List ℕ) (H : ℕ) → Open found l clean H → free bad found H ≡ true
  unfolding free
  open_free found H o = and_intro o.pass (ap not o.free)

  free_open : (found : List ℕ) (H : ℕ) → Mem H l → free bad found H ≡ true → Open found l clean H
  unfolding free
  free_open found H m h =
      let p : Bool = not (contains bad H) in
      let q : Bool = not (contains found H) in
      record { cand = m; pass = and_left p q h; free = not-true (contains found H) (and_right p q h) }

  picks_from : (t : ℕ) (found left : List ℕ) → Selection (found ++ left) l clean → picks t bad found l ≡ take t left
  unfolding picks
  picks_from zero found left s = refl
  picks_from (suc t) found left s = go (best (free bad found) none l) refl (picks_from t)
    where
      go : (b : Option ℕ) → best (free bad found) none l ≡ b → ((f r : List ℕ) → Selection (f ++ r) l clean → picks t bad f l ≡ take t r)
          → more b (λ x. picks t bad (found ++ x ∷ []) l) ≡ take (suc t) left
      go none e ih =
          let none_open : (H : ℕ) → Open found l clean H → ⊥ = λ H o. clash (open_free found H o) ((best_none (free bad found) none l e).1 H o.cand) in
          sym (ap (take (suc t)) (done found l clean left s none_open))
      go (some H) e ih =
          let found_it : Mem H l × (free bad found H ≡ true) = ⊎_elim (λ (q : none ≡ some H). let z : ◌≡◌ {A = ℕ} 0 1 = cc in absurd (omega arith)) (λ r. r) (best_some (free bad found) none l H e) in
          let n = next found l clean left s H (free_open found H found_it.0 found_it.1) (λ G o. (best_first (free bad found) none l H e).1 G o.cand (open_free found G o)) in
          let again : Selection ((found ++ H ∷ []) ++ n.0) l clean = subst (λ (X : List ℕ). Selection X l clean) (ap (λ (r : List ℕ). found ++ r) n.1 ∙ sym (append_assoc found (H ∷ []) n.0)) s in
          ap (λ (r : List ℕ). H ∷ r) (ih (found ++ H ∷ []) n.0 again) ∙ sym (ap (take (suc t)) n.1)

  -- the first t members of the selection
  pub picks_selection : (t : ℕ) (X : List ℕ) → Selection X l clean → picks t bad [] l ≡ take t X
  picks_selection t X s = picks_from t [] X s

-- ---- the step of document 002

module _ (A : ℕ) (J : List Justification) (k t : ℕ) where
  pub nogoods_picks : picks t [] [] (nogood_cands A J k) ≡ take t (nogoods_at A J (suc k))
  unfolding contains some_of
  nogoods_picks = picks_selection [] (nogood_cands A J k) t (nogoods_at A J (suc k)) (nogood_selection A J k)

  pub label_picks : (n : ℕ) → picks t (nogoods_at A J (suc k)) [] (label_cands A J k n) ≡ take t (label_at A J (suc k) n)
  label_picks n = picks_selection (nogoods_at A J (suc k)) (label_cands A J k n) t (label_at A J (suc k) n) (label_selection A J k n)

-- the same from the lists of stage k as they lie: each list of stage k + 1 in full, or its first t members
module _ (A N : ℕ) (J : List Justification) (u : Upto N J) (k t : ℕ) where
  abbrev pub stage_lists : ℕ → List ℕ
  stage_lists n = label_in (stage_at A N J k).labels n

  pub next_nogoods : picks t [] [] (candidates stage_lists (stage_at A N J k).nogoods J 0) ≡ take t (stage_at A N J (suc k)).nogoods
  next_nogoods =
      ap (picks t [] []) (candidates_same N J u stage_lists (label_at A J k) (stage_at A N J k).nogoods (nogoods_at A J k) 0 (stage_label_in A N J k) (stage_nogoods A N J k))
      ∙ nogoods_picks A J k t ∙ ap (take t) (sym (stage_nogoods A N J (suc k)))

  pub next_label : (n : ℕ) → n ≤ N → picks t (stage_at A N J (suc k)).nogoods [] (candidates stage_lists (stage_lists n) J n) ≡ take t (label_in (stage_at A N J (suc k)).labels n)
  next_label n h =
      ap₂ (λ (b c : List ℕ). picks t b [] c) (stage_nogoods A N J (suc k)) (candidates_same N J u stage_lists (label_at A J k) (stage_lists n) (label_at A J k n) n (stage_label_in A N J k) (stage_label_in A N J k n h))
      ∙ label_picks A J k t n ∙ ap (take t) (sym (stage_label_in A N J (suc k) n h))
