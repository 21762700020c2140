-- A file with at most three assumptions: it is loaded, and what its store is. Assumes nothing.
use mathlib.Core.List.{List}
use mathlib.Core.Path.{◌∙◌, ◌≡◌, ap, ap₂, refl}
use Prim.Native.Nat.{◌+◌, ◌≤◌, ℕ}
use Rattle.casefile.specs.Case.{Case, case_of, whole}
use Rattle.casefile.specs.Load.{load_of}
use Rattle.casefile.specs.declared.Loaded.{Loaded}
use Rattle.promises.proofs.Form.{Form, form_a, form_m, form_said, made_form}
use Rattle.promises.proofs.Rows.{room_says}
use Rattle.promises.proofs.Truth.{demand_2}
use Rattle.promises.specs.Calls.{ours}
use Rattle.promises.specs.Made.{Made, in_order, loaded, put_in}
use Rattle.refuted.proofs.Cases.{made_are}
use Rattle.refuted.proofs.Small.{few_room}
use Rattle.refuted.specs.Cases.{ListsAre}
use Rattle.refuted.specs.Readings.{listed_by, relisted}
use Rattle.replies.specs.declared.Reply.{Reply}
use Rattle.replies.specs.declared.Reply.TheVariants.{Done}
use Rattle.rules.specs.Held.{said_by}
use Rattle.stages.specs.Lists.{lists_of}
use Rattle.store.specs.Calls.{is_done}
use Rattle.store.specs.Shape.{top}
use Rattle.store.specs.declared.Store.{Store}
use Rattle.theory.specs.Judge.{Stage, judge, settled}
use Rattle.theory.specs.Limits.{limits}
use Rattle.theory.specs.Lists.{choose}
use Rattle.theory.specs.Stages.{Justification}

module _ (bytes : List ℕ) (f : Case) (spells : case_of bytes ≡ whole f) (few : f.header.assumptions ≤ 3) where
  abbrev A : ℕ
  A = f.header.assumptions

  abbrev M : ℕ
  M = f.header.claims

  abbrev H : List Justification
  H = put_in f

  abbrev s : Store
  s = (load_of bytes).store

  pub file_done : (load_of bytes).reply ≡ Done
  file_done = (demand_2.loads bytes f spells Done).1 (room_says A (A + M) H (few_room A (A + M) H few))

  pub file_made : Made ours A M H s
  file_made = loaded bytes f spells refl refl file_done refl

  pub file_form : Form A M H s
  file_form = made_form file_made

  module _ (d : ℕ) (g : Stage) (e : judge limits A (A + M) (in_order H) ≡ settled d g) where
    pub file_are : ListsAre s d g.nogoods g.labels
    file_are = made_are file_made e

    -- .. listed by a reading
    module _ (R : ℕ → ℕ → List Justification → ℕ → Stage) where
      pub reading_made : Made (listed_by R) A M H (relisted R s)
      reading_made =
          let o : Loaded = record { reply = Done; «record» = (load_of bytes).«record»; store = relisted R s } in
          let x : (listed_by R).loading bytes ≡ o = ap (λ (r : Reply). choose (is_done r) o (load_of bytes)) file_done in
          loaded bytes f spells refl refl (ap (λ (y : Loaded). y.reply) x) (ap (λ (y : Loaded). y.store) x)

      pub reading_lists : (relisted R s).lists ≡ lists_of d (R A (A + M) (in_order H) d)
      reading_lists =
          let t : top s.held ≡ A + M = ap₂ (λ (a m : ℕ). a + m) (form_a file_form) (form_m file_form) in
          ap (λ (k : ℕ). lists_of k (R s.held.assumptions (top s.held) (said_by s.held) k)) file_are.depth
          ∙ ap₂ (λ (a n : ℕ). lists_of d (R a n (said_by s.held) d)) (form_a file_form) t
          ∙ ap (λ (J : List Justification). lists_of d (R A (A + M) J d)) (form_said file_form)
