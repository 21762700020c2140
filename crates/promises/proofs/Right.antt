-- A made store has the right shape. Assumes nothing.
use mathlib.Core.Bool.{false, true}
use mathlib.Core.List.{List, Memᴰ as Mem}
use mathlib.Core.Path.{◌∙◌, ◌≡◌, ap, ap₂, refl, subst, sym}
use Prim.Native.Nat.{◌+◌, ◌≤◌, ℕ}
use native.Mathlib.Omega.{arith}
use lib.Dec.{eqb}
use borrow.Author.Tests.{eq-eqb, le-leb}
use Rattle.promises.proofs.Form.{Form, form_a, form_held, form_lists, form_m, form_ranged, form_settled, made_form}
use Rattle.promises.proofs.InOrder.{in_order_ordered}
use Rattle.promises.specs.Calls.{ours}
use Rattle.promises.specs.Made.{Made, in_order}
use Rattle.rules.proofs.Laws.{held_right_lem, right_range}
use Rattle.rules.specs.Held.{held_right, said_by}
use Rattle.shape.proofs.Stage.{stage_right}
use Rattle.shape.specs.Shape.{lists_right}
use Rattle.stages.specs.Lists.{lists_of}
use Rattle.stages.specs.Steps.{Room}
use Rattle.stages.specs.declared.Lists.{Lists}
use Rattle.store.proofs.Shapes.{shape_elim}
use Rattle.store.specs.Shape.{held_fits, right_shape}
use Rattle.store.specs.declared.Store.{Store}
use Rattle.theory.proofs.Depth.{consequents_few}
use Rattle.theory.proofs.Judgement.{settled_stage, settled_told}
use Rattle.theory.proofs.Lists.{and_intro, clash, not_so, some_intro}
use Rattle.theory.specs.Judge.{stage_at}
use Rattle.theory.specs.Limits.{limits}
use Rattle.theory.specs.Stages.{Justification}

module _ {A M : ℕ} {H : List Justification} {s : Store} (f : Form A M H s) where
  abbrev J : List Justification
  J = in_order H

  abbrev depth : ℕ
  depth = (form_settled f).depth

  -- the stage at the depth, within the limits
  pub form_stage : (form_settled f).stage ≡ stage_at A (A + M) J depth
  form_stage = settled_stage limits A (A + M) J depth (form_settled f).stage (form_settled f).verdict

  pub form_room : Room (form_settled f).stage
  form_room =
      let t = settled_told limits A (A + M) J depth (form_settled f).stage (form_settled f).verdict in
      subst Room (sym form_stage) (record { few = t.4; short = t.5 })

  pub form_low : depth ≤ limits.numbers + 1
  form_low = let t = settled_told limits A (A + M) J depth (form_settled f).stage (form_settled f).verdict in
      omega (arith, t.1, consequents_few (A + M) J (λ j m. (form_ranged f j m).low), f.few, f.claims)

  lists_fit : lists_right s.lists A (A + M) ≡ true
  lists_fit =
      ap (λ (l : Lists). lists_right l A (A + M)) (form_lists f ∙ ap (lists_of depth) form_stage)
      ∙ stage_right A (A + M) J depth form_low (subst Room form_stage form_room)

  held_fit : held_right s.held ≡ true
  held_fit = ap held_right (form_held f) ∙ held_right_lem A M J f.room (form_ranged f) (in_order_ordered H)

  pub form_right : right_shape s ≡ true
  unfolding right_shape held_fits
  form_right =
      and_intro (and_intro (le-leb s.held.assumptions limits.assumptions (omega (arith, form_a f, f.few))) (and_intro (le-leb s.held.claims limits.claims (omega (arith, form_m f, f.claims))) held_fit))
      (ap₂ (λ (a m : ℕ). lists_right s.lists a (a + m)) (form_a f) (form_m f) ∙ lists_fit)

-- a made store has the right shape
pub made_right : {A M : ℕ} {H : List Justification} {s : Store} → Made ours A M H s → right_shape s ≡ true
made_right m = form_right (made_form m)

-- a store that holds a justification that names its own consequent as a support has the wrong shape, so no made store holds one
pub own_shape : (s : Store) (j : Justification) → Mem j (said_by s.held) → Mem j.consequent j.supports → right_shape s ≡ false
own_shape s j m own =
    not_so (right_shape s)
    (λ (r : right_shape s ≡ true). clash (some_intro (eqb j.consequent) own (eq-eqb j.consequent j.consequent refl)) (right_range s.held (shape_elim s r).0.right j m).foreign)

pub made_no_own : {A M : ℕ} {H : List Justification} {s : Store} → Made ours A M H s → (j : Justification) → Mem j (said_by s.held) → Mem j.consequent j.supports → ⊥
made_no_own m j k own = clash (made_right m) (own_shape _ j k own)
