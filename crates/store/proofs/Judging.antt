-- From what the stages say to the answer of judging; the refusals of adding and withdrawing before it. Assumes nothing.
use Rattle.std.specs.Prelude.{Ok, Err}
use mathlib.Core.Bool.{false, true}
use mathlib.Core.List.{List, []}
use mathlib.Core.Path.{◌∙◌, ◌≡◌, ap, ap₂, refl, subst, sym}
use Prim.Native.Nat.{◌+◌, ◌<◌, ◌≤◌, ℕ}
use native.Mathlib.Omega.{arith}
use borrow.Author.Tests.{le-leb, le-ltb, lt-ltb, ne_eqb}
use Rattle.replies.specs.Replies.{number_of}
use Rattle.replies.specs.declared.Reply.{Reply}
use Rattle.replies.specs.declared.Reply.TheVariants.{Counts, Done, Label, Nogoods, Shape}
use Rattle.rules.proofs.Laws.{right_held}
use Rattle.rules.specs.Held.{held_of, held_right, said_by}
use Rattle.rules.specs.Items.{fault_of}
use Rattle.rules.specs.declared.Held.{Held}
use Rattle.stages.proofs.Stages.{start_is}
use Rattle.stages.specs.Judged.{judged_by}
use Rattle.stages.specs.Lists.{first_stage, lists_of}
use Rattle.stages.specs.declared.Lists.{Lists}
use Rattle.store.proofs.Shapes.{Fitting, fits_elim}
use Rattle.store.specs.Calls.{add_of, answer, checked_of, else_kept, joined_by, judged_of, no_store, of_verdict, open_of, parted_from, start_store, store_of, withdraw_of}
use Rattle.store.specs.Shape.{held_fits, right_shape, top}
use Rattle.store.specs.declared.Outcome.{Outcome}
use Rattle.store.specs.declared.Store.{Store}
use Rattle.theory.specs.Judge.{Verdict, judge, label_over, nogoods_over, settled}
use Rattle.theory.specs.Limits.{limits}
use Rattle.theory.specs.Stages.{Justification}

-- ---- what is held is the right shape of what it says

pub again : (h : Held) → Fitting h → held_of h.assumptions h.claims (said_by h) ≡ h
again h f = sym (right_held h f.right)

-- ---- the answer of the stages, as judging hands it on

module _ (h : Held) where
  abbrev stages_say : Verdict
  stages_say = judge limits h.assumptions (h.assumptions + h.claims) (said_by h)

  judged_fits : held_fits h ≡ true → of_verdict no_store (held_of h.assumptions h.claims (said_by h)) stages_say ≡ judged_of h
  unfolding judged_of store_of
  judged_fits t = rw t

  pub judged_shape : held_fits h ≡ false → answer Shape no_store ≡ judged_of h
  unfolding judged_of
  judged_shape t = rw t

  module _ (t : held_fits h ≡ true) where
    outcome : (v : Verdict) → stages_say ≡ v → of_verdict no_store h v ≡ judged_of h
    outcome v e =
        ap (of_verdict no_store h) (sym e) ∙ ap (λ (k : Held). of_verdict no_store k stages_say) (sym (again h (fits_elim h t))) ∙ judged_fits t

    pub judged_refused : (r : Reply) → Err r ≡ judged_by stages_say → answer r no_store ≡ judged_of h
    judged_refused r e = go stages_say e ∙ outcome stages_say refl
      where
        go : (v : Verdict) → Err r ≡ judged_by v → answer r no_store ≡ of_verdict no_store h v
        go (settled d s) q = cc
        go nogoods_over q = let same : r ≡ Nogoods = cc in ap (λ (x : Reply). answer x no_store) same
        go (label_over n) q = let same : r ≡ Label n = cc in ap (λ (x : Reply). answer x no_store) same

    pub judged_done : (l : Lists) → Ok l ≡ judged_by stages_say → answer Done (record { held = h; lists = l }) ≡ judged_of h
    judged_done l e = go stages_say e ∙ outcome stages_say refl
      where
        go : (v : Verdict) → Ok l ≡ judged_by v → answer Done (record { held = h; lists = l }) ≡ of_verdict no_store h v
        go (settled d s) q = let same : l ≡ lists_of d s = cc in ap (λ (x : Lists). answer Done (record { held = h; lists = x })) same
        go nogoods_over q = cc
        go (label_over n) q = cc

-- ---- opening

module _ (A M : ℕ) where
  pub open_a : limits.assumptions < A → answer Counts no_store ≡ open_of A M
  unfolding open_of
  open_a h = rw (lt-ltb limits.assumptions A h)

  pub open_m : A ≤ limits.assumptions → limits.claims < M → answer Counts no_store ≡ open_of A M
  unfolding open_of
  open_m a h = rw (le-ltb limits.assumptions A a, lt-ltb limits.claims M h)

  pub open_done : A ≤ limits.assumptions → M ≤ limits.claims → answer Done (start_store A M) ≡ open_of A M
  unfolding open_of
  open_done a m = rw (le-ltb limits.assumptions A a, le-ltb limits.claims M m)

-- ---- a justification handed over

module _ (s : Store) (c : ℕ) (l : List ℕ) where
  abbrev item : Reply
  item = fault_of (top s.held) c l

  module _ (go : Justification → Outcome) where
    checked_shape : right_shape s ≡ false → answer Shape s ≡ checked_of s c l go
    checked_shape t = rw t

    checked_fault : right_shape s ≡ true → (number_of item ≡ 0 → ⊥) → answer item s ≡ checked_of s c l go
    checked_fault t f = rw (t, ne_eqb (number_of item) 0 f)

  pub add_shape : right_shape s ≡ false → answer Shape s ≡ add_of s c l
  unfolding add_of
  add_shape = checked_shape (joined_by s)

  pub add_fault : right_shape s ≡ true → (number_of item ≡ 0 → ⊥) → answer item s ≡ add_of s c l
  unfolding add_of
  add_fault = checked_fault (joined_by s)

  pub withdraw_shape : right_shape s ≡ false → answer Shape s ≡ withdraw_of s c l
  unfolding withdraw_of
  withdraw_shape = checked_shape (parted_from s)

-- ---- another set K of justifications, judged anew for the store s

module _ (s : Store) (K : List Justification) (fit : Fitting s.held) (right : held_right (held_of s.held.assumptions s.held.claims K) ≡ true)
    (said : said_by (held_of s.held.assumptions s.held.claims K) ≡ K) where
  abbrev A : ℕ
  A = s.held.assumptions

  abbrev M : ℕ
  M = s.held.claims

  next_fits : held_fits (held_of A M K) ≡ true
  unfolding held_fits held_of
  next_fits = rw (le-leb A limits.assumptions fit.few, le-leb M limits.claims fit.claims) right

  judged_next : judged_of (held_of A M K) ≡ store_of no_store A M K
  unfolding judged_of held_of
  judged_next = rw (next_fits, said)

  -- .. is what the stages of K say
  pub anew_stored : else_kept s (judged_of (held_of A M K)) ≡ store_of s A M K
  unfolding store_of
  anew_stored = ap (else_kept s) judged_next ∙ told (held_of A M K) (judge limits A (A + M) K)
    where
      told : (h : Held) (v : Verdict) → else_kept s (of_verdict no_store h v) ≡ of_verdict s h v
      told h (settled d g) = refl
      told h nogoods_over = refl
      told h (label_over m) = refl

-- ---- the store that holds nothing
pub start_store_lem : (A M : ℕ) (h : Held) (l : Lists) → h ≡ held_of A M [] → l ≡ lists_of 0 (first_stage A) → ◌≡◌ {A = Store} (record { held = h; lists = l }) (start_store A M)
unfolding start_store
start_store_lem A M h l p q = ap₂ (λ (h : Held) (l : Lists). record { held = h; lists = l }) p (q ∙ sym (start_is A M []))
