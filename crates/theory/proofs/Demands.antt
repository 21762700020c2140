-- The words of the demands: what `contradicts`, `carries` and `follows_from_all` mean over all stages, and what the lists at the depth say of them. Assumes nothing.
use mathlib.Core.Bool.{Bool, false, not, true}
use mathlib.Core.List.{List}
use mathlib.Core.Logic.{◌↔◌}
use mathlib.Core.Path.{◌∙◌, ◌≡◌, ap, sym}
use Prim.Native.Nat.{◌+◌, ◌-◌, ◌<◌, ◌^◌, ◌≤◌, suc, zero, ℕ}
use native.Mathlib.Decide.{dec_lt}
use native.Mathlib.Nat.{mod-eq_of_lt}
use native.Mathlib.Omega.{arith}
use lib.Bits.{and_mask, or_add_and}
use lib.Dec.{ltb}
use lib.ListN.{length}
use lib.Pow.{ones_lt}
use borrow.Author.Tests.{eq-eqb, le-ltb, lt-ltb, ne_eqb, not-true}
use Rattle.std.proofs.lemmas.Nat.Bits.{bit_at_ones, bit_at_ones_above}
use Rattle.std.specs.Int.{bit_at}
use Rattle.theory.proofs.Lasting.{Upto}
use Rattle.theory.proofs.Depth.{consequents_length, settles}
use Rattle.theory.proofs.Following.{follows_later, follows_more}
use Rattle.theory.proofs.Judgement.{labels_mean, nogoods_mean, settled_stage, stage_label_in, stage_nogoods}
use Rattle.theory.proofs.Label.{inconsistent, supported}
use Rattle.theory.proofs.Lists.{and_intro, and_left, and_right, same_test}
use Rattle.theory.proofs.Sets.{or_within}
use Rattle.theory.specs.Demands.{carries, contradicts, follows_from_all}
use Rattle.theory.specs.Judge.{Stage, judge, settled}
use Rattle.theory.specs.Limits.{Limits}
use Rattle.theory.specs.Sets.{among, contains, digit, together, within}
use Rattle.theory.specs.Stages.{Justification, follows, label_at, nogoods_at}
use Rattle.theory.specs.Step.{label_in}

-- ---- as many stages as justifications are enough

-- nothing new follows from any set after as many stages as there are justifications
pub follows_end : (J : List Justification) (m : ℕ) → length J ≤ m → follows J (length J) ≡ follows J m
follows_end J m h = sym (settles J (length J) (consequents_length J)) ∙ settles J m (omega (arith, consequents_length J))

pub ends : (J : List Justification) (k E n : ℕ) → follows J k E n ≡ true → follows J (length J) E n ≡ true
ends J k E n f =
    ap (λ (S : ℕ → ℕ → Bool). S E n) (follows_end J (k + length J) (omega arith)) ∙ follows_later J k (k + length J) E n (omega arith) f

-- ---- over all stages

-- E contradicts itself exactly when falsity follows from it at some stage
pub contradicts_means : (J : List Justification) (E : ℕ) → (contradicts J E ≡ true) ↔ ((k : ℕ) × (follows J k E zero ≡ true))
unfolding contradicts
contradicts_means J E = (λ h. (length J, h), λ f. ends J f.0 E zero f.1)

-- E carries n exactly when E contradicts nothing and n follows from it at some stage
pub carries_means : (J : List Justification) (E n : ℕ) → (carries J E n ≡ true) ↔ ((contradicts J E ≡ false) × ((k : ℕ) × (follows J k E n ≡ true)))
unfolding carries
carries_means J E n =
    let p : Bool = not (contradicts J E) in
    let q : Bool = follows J (length J) E n in
    (λ h. (not-true (contradicts J E) (and_left p q h), (length J, and_right p q h)), λ r. and_intro (ap not r.0) (ends J r.1.0 E n r.1.1))

-- ---- from all assumptions together

pub within_together : (A E : ℕ) → E < 2 ^ A → within E (together A) ≡ true
unfolding together
within_together A E h = or_within E (2 ^ A - 1) (omega (arith, or_add_and E (2 ^ A - 1), and_mask E A, mod-eq_of_lt h))

together_low : (A : ℕ) → together A < 2 ^ A
unfolding together
together_low A = ones_lt A

pub among_together : (A i : ℕ) → among (together A) (suc i) ≡ ltb i A
unfolding among digit together
among_together A i = elim (dec_lt i A) [
  | yes h ↦ eq-eqb (bit_at (2 ^ A - 1) i) 1 (bit_at_ones A i h) ∙ sym (lt-ltb i A h)
  | no h ↦ ne_eqb (bit_at (2 ^ A - 1) i) 1 (λ e. absurd (omega (arith, bit_at_ones_above A i (up h)))) ∙ sym (le-ltb i A (up h))
]
  where
    up : (i < A → ⊥) → A ≤ i
    up h = omega arith

-- n follows from all A assumptions together exactly when it follows from some set of them at some stage
pub from_all_means : (A : ℕ) (J : List Justification) (n : ℕ) → (follows_from_all A J n ≡ true) ↔ ((E : ℕ) × (E < 2 ^ A) × ((k : ℕ) × (follows J k E n ≡ true)))
unfolding follows_from_all
from_all_means A J n = (
  λ h. (together A, together_low A, (length J, h)),
  λ r. ends J r.2.0 (together A) n (follows_more J r.2.0 r.0 (together A) n (within_together A r.0 r.1) r.2.1),
)

-- so does every assumption
pub from_all_own : (A : ℕ) (J : List Justification) (i : ℕ) → i < A → follows_from_all A J (suc i) ≡ true
unfolding follows_from_all follows
from_all_own A J i h = ends J zero (together A) (suc i) (among_together A i ∙ lt-ltb i A h)

-- ---- at a stage

-- falsity does not follow from E at stage k and n does, exactly when E contains no nogood of stage k and a member of n's label at stage k
pub stage_tells : (A : ℕ) (J : List Justification) (k n E : ℕ) → E < 2 ^ A
    → ((follows J k E zero ≡ false) × (follows J k E n ≡ true)) ↔ ((contains (nogoods_at A J k) E ≡ false) × (contains (label_at A J k n) E ≡ true))
stage_tells A J k n E h = (
  λ p. let c : contains (nogoods_at A J k) E ≡ false = inconsistent A J k E h ∙ p.0 in (c, supported A J k n E h c ∙ p.1),
  λ p. (sym (inconsistent A J k E h) ∙ p.0, sym (supported A J k n E h p.0) ∙ p.1),
)

-- ---- at the depth

module _ (L : Limits) (A N : ℕ) (J : List Justification) (d : ℕ) (s : Stage) (e : judge L A N J ≡ settled d s) (u : Upto N J) (E : ℕ) (h : E < 2 ^ A) where
  at_nogoods : s.nogoods ≡ nogoods_at A J d
  at_nogoods = ap (λ (t : Stage). t.nogoods) (settled_stage L A N J d s e) ∙ stage_nogoods A N J d

  at_label : (n : ℕ) → n ≤ N → label_in s.labels n ≡ label_at A J d n
  at_label n l = ap (λ (t : Stage). label_in t.labels n) (settled_stage L A N J d s e) ∙ stage_label_in A N J d n l

  -- E contradicts itself exactly when it contains a nogood
  pub depth_contradicts : contains s.nogoods E ≡ contradicts J E
  depth_contradicts =
      ap (λ (l : List ℕ). contains l E) at_nogoods
      ∙ same_test (λ c. (contradicts_means J E).1 ((nogoods_mean L A N J d s e u E h).0 c)) (λ c. (nogoods_mean L A N J d s e u E h).1 ((contradicts_means J E).0 c))

  -- E carries n exactly when it contains no nogood and a member of n's label
  pub depth_carries : (n : ℕ) → n ≤ N → (carries J E n ≡ true) ↔ ((contains s.nogoods E ≡ false) × (contains (label_in s.labels n) E ≡ true))
  depth_carries n l = (
    λ c.
        let r = (carries_means J E n).0 c in
        let none : contains s.nogoods E ≡ false = depth_contradicts ∙ r.0 in
        let none' : contains (nogoods_at A J d) E ≡ false = ap (λ (m : List ℕ). contains m E) (sym at_nogoods) ∙ none in
        (none, ap (λ (m : List ℕ). contains m E) (at_label n l) ∙ (labels_mean L A N J d s e u n E l h none').1 r.1),
    λ p.
        let none' : contains (nogoods_at A J d) E ≡ false = ap (λ (m : List ℕ). contains m E) (sym at_nogoods) ∙ p.0 in
        (carries_means J E n).1 (sym depth_contradicts ∙ p.0, (labels_mean L A N J d s e u n E l h none').0 (ap (λ (m : List ℕ). contains m E) (sym (at_label n l)) ∙ p.1)),
  )

  -- what follows from a consistent set at any stage follows from it at the depth
  pub depth_enough : contradicts J E ≡ false → (k n : ℕ) → n ≤ N → follows J k E n ≡ true → follows J d E n ≡ true
  depth_enough c k n l f =
      let p = (depth_carries n l).0 ((carries_means J E n).1 (c, (k, f))) in
      let none : contains (nogoods_at A J d) E ≡ false = ap (λ (m : List ℕ). contains m E) (sym at_nogoods) ∙ p.0 in
      sym (supported A J d n E h none) ∙ ap (λ (m : List ℕ). contains m E) (sym (at_label n l)) ∙ p.1
