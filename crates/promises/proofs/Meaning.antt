-- The words of the demands mean what documents 002 and 003 say. Assumes nothing.
use mathlib.Core.Bool.{true}
use mathlib.Core.List.{List}
use mathlib.Core.Logic.{◌↔◌}
use mathlib.Core.Path.{◌∙◌, ◌≡◌, refl, sym}
use Prim.Native.Nat.{◌≤◌, suc, zero, ℕ}
use native.Mathlib.Decide.{dec_lt}
use native.Mathlib.Nat.{not-suc-le-zero}
use native.Mathlib.Omega.{arith}
use lib.ListN.{length}
use borrow.Author.Tests.{lt-ltb, ltb-true}
use Rattle.promises.proofs.Counting.{ones_members}
use Rattle.promises.proofs.Last.{last_ends, last_new}
use Rattle.promises.proofs.Models.{carries_models, contradicts_models}
use Rattle.promises.proofs.Shaped.{shape_says}
use Rattle.promises.specs.Demand2.{IsDepth}
use Rattle.promises.specs.Meaning.{AtSomeStage, Meaning, Unrivalled}
use Rattle.sets.proofs.Membership.{among_alone, among_union, among_without, range_members, within_members}
use Rattle.theory.proofs.Demands.{among_together, carries_means, contradicts_means, from_all_means}
use Rattle.theory.proofs.Depth.{consequents_less}
use Rattle.theory.proofs.Judgement.{agree_at_last, agree_elim}
use Rattle.theory.proofs.Lists.{clash, not_so}
use Rattle.theory.proofs.Step.{Least, label_step, nogood_step}
use Rattle.theory.specs.Demands.{carries, contradicts}
use Rattle.theory.specs.Judge.{consequents, stage_at}
use Rattle.theory.specs.Sets.{alone, among, together}
use Rattle.theory.specs.Stages.{Justification}
use Rattle.theory.specs.Step.{candidates}

-- ---- stages

module _ (H : List Justification) (E : ℕ) where
  carries_stages : (n : ℕ) → (carries H E n ≡ true) ↔ ((AtSomeStage H E 0 → ⊥) × AtSomeStage H E n)
  carries_stages n = (
    λ h. let r = (carries_means H E n).0 h in (λ f. clash ((contradicts_means H E).1 f) r.0, r.1),
    λ p. (carries_means H E n).1 (not_so (contradicts H E) (λ h. p.0 ((contradicts_means H E).0 h)), p.1),
  )

-- ---- all assumptions together

together_members : (A k : ℕ) → (among (together A) k ≡ true) ↔ ((1 ≤ k) × (k ≤ A))
unfolding among
together_members A zero = (λ h. clash h refl, λ p. absurd (not-suc-le-zero p.0))
together_members A (suc i) = (
  λ h. (omega arith, ltb-true i A (sym (among_together A i) ∙ h)),
  λ p. among_together A i ∙ lt-ltb i A p.1,
)

-- ---- the step

unrivalled : (l : List ℕ) (E : ℕ) → Least l E ↔ Unrivalled l E
unrivalled l E = (λ u. record { listed = u.mem; alone = u.alone }, λ u. record { mem = u.listed; alone = u.alone })

-- the depth and the different consequents
pub depth_consequents : (A N : ℕ) (H : List Justification) (k : ℕ) → IsDepth A N H k → k ≤ length (consequents H)
depth_consequents A N H k f =
    let d : ℕ = length (consequents H) in
    elim (dec_lt d k) [
      | yes p ↦ absurd (f.least d p (agree_elim (stage_at A N H d) (stage_at A N H (suc d)) (agree_at_last A N H d (omega arith))))
      | no p ↦ omega arith
    ]

pub meaning : Meaning
unfolding candidates alone
meaning = record {
  alone_members = λ i k h. among_alone (suc i) k (omega arith) h;
  union_members = among_union;
  without_members = among_without;
  within_members = within_members;
  range_members = range_members;
  ones_members = ones_members;
  shape_says = shape_says;
  contradicts_stages = contradicts_means;
  carries_stages = carries_stages;
  together_members = together_members;
  from_all = from_all_means;
  contradicts_models = contradicts_models;
  carries_models = carries_models;
  nogoods_step = λ A H k E. let s = nogood_step A H k E in let u = unrivalled _ E in (λ m. u.0 (s.0 m), λ r. s.1 (u.1 r));
  label_step = λ A H k n E. let s = label_step A H k n E in let u = unrivalled _ E in (λ m. let r = s.0 m in (r.0, u.0 r.1), λ r. s.1 (r.0, u.1 r.1));
  depth_consequents = depth_consequents;
  consequents_same = λ H K f. omega (arith, consequents_less H K (λ j. (f j).0), consequents_less K H (λ j. (f j).1));
  last_ends = last_ends;
  last_new = last_new;
}
