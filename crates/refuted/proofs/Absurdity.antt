-- A premise for falsity, whatever the counts: one nogood, the empty set; all labels empty; depth 1. Assumes nothing.
use mathlib.Core.Bool.{◌&&◌, false, true}
use mathlib.Core.List.Memᴰ.{head as here}
use mathlib.Core.List.Memᴰ.{tail as there}
use mathlib.Core.List.{List, Memᴰ as Mem, [], ◌∷◌, map}
use mathlib.Core.Path.{◌∙◌, ◌≡◌, ap, ap₂, refl, subst, sym}
use Prim.Native.Nat.{◌+◌, ◌<◌, ◌≤◌, suc, zero, zero-le, ℕ}
use native.Mathlib.Decide.{dec_lt}
use native.Mathlib.Nat.{not-suc-le-zero}
use native.Mathlib.Omega.{arith}
use lib.ListN.{length}
use lib.Pow.{pow_pos}
use borrow.Author.Tests.{le-ltb}
use Rattle.promises.proofs.Adding.{reached}
use Rattle.promises.proofs.Truth.{demand_2}
use Rattle.promises.specs.Calls.{ours}
use Rattle.promises.specs.Made.{Made, added, in_order}
use Rattle.promises.specs.Room.{AllInRoom, InRoom, Reaches}
use Rattle.refuted.proofs.Small.{done_with, made_open}
use Rattle.refuted.specs.Cases.{absurdity}
use Rattle.replies.specs.declared.Reply.TheVariants.{Done}
use Rattle.rules.specs.Items.{fault_of, justification_of, set_of}
use Rattle.store.specs.Calls.{add_of, open_of}
use Rattle.store.specs.Reading.{label_held, nogoods_held}
use Rattle.store.specs.declared.Store.{Store}
use Rattle.theory.proofs.Following.{follows_by}
use Rattle.theory.proofs.Label.{contains_elim, inconsistent, label_elim, nogood_elim}
use Rattle.theory.proofs.Lists.{and_left, clash}
use Rattle.theory.proofs.Order.{before_irrefl, nogoods_sorted}
use Rattle.theory.proofs.Sets.{within_zero}
use Rattle.theory.proofs.Start.{label_zero, label_zero_above, nogoods_zero}
use Rattle.theory.specs.Cases.{from}
use Rattle.theory.specs.Judge.{Stage, stage_at, stage_of}
use Rattle.theory.specs.Limits.{limits}
use Rattle.theory.specs.Lists.{all_of, numbers_below, numbers_to, some_of, sorted_by, those}
use Rattle.theory.specs.Sets.{before}
use Rattle.theory.specs.Stages.{Justification, follows, label_at, label_of, nogoods_at, nogoods_of}

abbrev H : List Justification
H = from 0 [] ∷ []

falsity_follows : (k E : ℕ) → follows H (suc k) E 0 ≡ true
falsity_follows k E = follows_by H k E 0 (from 0 []) (here refl) (record { of = refl; by = λ s m. elim m [ ] })

-- ---- lists

empty : (l : List ℕ) → ((x : ℕ) → Mem x l → ⊥) → l ≡ []
empty [] f = refl
empty (x ∷ l) f = absurd (f x (here refl))

-- strictly in order, with 0 alone for a member
zero_alone : (l : List ℕ) (x : ℕ) → Mem x l → ((y : ℕ) → Mem y l → y ≡ 0) → sorted_by before l ≡ true → l ≡ 0 ∷ []
unfolding sorted_by all_of
zero_alone [] x m f s = elim m [ ]
zero_alone (y ∷ []) x m f s = ap (λ (z : ℕ). z ∷ []) (f y (here refl))
zero_alone (y ∷ z ∷ l) x m f s =
    let b : before y z ≡ true = and_left (before y z) _ (and_left (before y z && all_of (before y) l) _ s) in
    absurd (before_irrefl z (subst (λ (v : ℕ). before v z ≡ true) (f y (here refl) ∙ sym (f z (there (here refl)))) b))

module _ (A : ℕ) (k : ℕ) where
  no_label : (n : ℕ) → label_at A H (suc k) n ≡ []
  no_label n = empty (label_at A H (suc k) n) (λ E m. clash (falsity_follows k E) (label_elim A H (suc k) n m).clean)

  one_nogood : nogoods_at A H (suc k) ≡ 0 ∷ []
  one_nogood =
      let w = contains_elim (nogoods_at A H (suc k)) 0 (inconsistent A H (suc k) 0 (pow_pos A) ∙ falsity_follows k 0) in
      zero_alone (nogoods_at A H (suc k)) w.0 w.1 (λ E m. sym ((nogood_elim A H (suc k) m).least.least 0 (within_zero E) (falsity_follows k 0))) (nogoods_sorted A H (suc k))

-- ---- room

in_room : (A N k : ℕ) → InRoom A N H k
in_room A N zero = record { nogoods = omega (arith, ap length (nogoods_zero A H)); labels = λ n p q. short n p }
  where
    short : (n : ℕ) → 1 ≤ n → length (label_at A H 0 n) ≤ limits.label
    short zero p = absurd (not-suc-le-zero p)
    short (suc i) p = elim (dec_lt i A) [
      | yes h ↦ omega (arith, ap length (label_zero A H i h))
      | no h ↦ omega (arith, ap length (label_zero_above A H i (omega arith)))
    ]
in_room A N (suc k) = record { nogoods = omega (arith, ap length (one_nogood A k)); labels = λ n p q. omega (arith, ap length (no_label A k n)) }

-- ---- the call

no_supports : (N : ℕ) → set_of N [] ≡ []
unfolding set_of some_of those
no_supports N = none (numbers_below (suc N))
  where
    none : (l : List ℕ) → those (λ n. false) l ≡ []
    none [] = refl
    none (x ∷ l) = none l

is_premise : (N : ℕ) → justification_of N 0 [] ≡ from 0 []
is_premise N = ap (from 0) (no_supports N)

reaches : (A M : ℕ) → Reaches A M [] 0 []
unfolding fault_of some_of in_order
reaches A M = record { sound = rw (le-ltb (A + M) 0 zero-le); new = λ m. elim m [ ]; room = omega arith }

module _ (A M : ℕ) (a : A ≤ limits.assumptions) (m : M ≤ limits.claims) where
  room : AllInRoom A (A + M) (justification_of (A + M) 0 [] ∷ [])
  room = subst (λ (j : Justification). AllInRoom A (A + M) (j ∷ [])) (sym (is_premise (A + M))) (in_room A (A + M))

  pub absurdity_done : (add_of (open_of A M).store 0 []).reply ≡ Done
  absurdity_done = ((demand_2.tells (made_open A M a m)).adding 0 [] Done).1 (reached 0 [] (reaches A M) room)

  pub absurdity_made : Made ours A M H (absurdity ours A M)
  absurdity_made =
      subst (λ (j : Justification). Made ours A M (j ∷ []) (absurdity ours A M)) (is_premise (A + M)) (added 0 [] (made_open A M a m) (done_with (add_of (open_of A M).store 0 []) absurdity_done))

  abbrev s : Store
  s = absurdity ours A M

  abbrev d : ℕ
  d = s.lists.depth

  -- stage 1 is the last that differs
  first_differs : stage_at A (A + M) H 0 ≡ stage_at A (A + M) H 1 → ⊥
  unfolding stage_at stage_of nogoods_at
  first_differs e =
      let z : ◌≡◌ {A = ℕ} 0 1 = ap length (sym (nogoods_zero A H) ∙ ap (λ (t : Stage). t.nogoods) e ∙ one_nogood A 0) in
      omega arith

  second_agrees : stage_at A (A + M) H 1 ≡ stage_at A (A + M) H 2
  unfolding stage_at stage_of nogoods_of nogoods_at label_of label_at
  second_agrees =
      ap₂ (λ (x : List ℕ) (y : List (List ℕ)). record { nogoods = x; labels = y }) (one_nogood A 0 ∙ sym (one_nogood A 1)) (each_same (numbers_to (A + M)))
    where
      each_same : (l : List ℕ) → map (label_at A H 1) l ≡ map (label_at A H 2) l
      each_same [] = refl
      each_same (n ∷ l) = ap₂ (λ (x : List ℕ) (y : List (List ℕ)). x ∷ y) (no_label A 0 n ∙ sym (no_label A 1 n)) (each_same l)

  pub absurdity_depth : d ≡ 1
  absurdity_depth = go d (demand_2.tells absurdity_made).depth.agrees (demand_2.tells absurdity_made).depth.least
    where
      go : (k : ℕ) → stage_at A (A + M) H k ≡ stage_at A (A + M) H (suc k) → ((i : ℕ) → i < k → stage_at A (A + M) H i ≡ stage_at A (A + M) H (suc i) → ⊥) → k ≡ 1
      go zero e f = absurd (first_differs e)
      go (suc zero) e f = refl
      go (suc (suc k)) e f = absurd (f 1 (omega arith) second_agrees)

  pub absurdity_nogoods : nogoods_held s.lists ≡ 0 ∷ []
  absurdity_nogoods = (demand_2.tells absurdity_made).nogoods_at_lem ∙ ap (nogoods_at A H) absurdity_depth ∙ one_nogood A 0

  pub absurdity_labels : (n : ℕ) → n ≤ A + M → label_held s.lists n ≡ []
  absurdity_labels n h = (demand_2.tells absurdity_made).label_at_lem n h ∙ ap (λ (k : ℕ). label_at A H k n) absurdity_depth ∙ no_label A 0 n
