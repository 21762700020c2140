-- Small cases: with at most 12 sets no list is over its limit, so what reaches its stages is answered 0. Assumes nothing.
use mathlib.Core.Bool.{◌&&◌, not}
use mathlib.Core.List.{List, [], ◌∷◌}
use mathlib.Core.Path.{◌≡◌, ap, sym}
use Prim.Native.Nat.{◌+◌, ◌≤◌, suc, zero, ℕ}
use native.Mathlib.Omega.{arith}
use lib.Count.{ones}
use lib.ListN.{length}
use Rattle.promises.proofs.Adding.{reached}
use Rattle.promises.proofs.Truth.{demand_2}
use Rattle.promises.specs.Calls.{ours}
use Rattle.promises.specs.Made.{Made, added, in_order, opened}
use Rattle.promises.specs.Room.{AllInRoom, Reaches}
use Rattle.replies.specs.declared.Reply.{Reply}
use Rattle.replies.specs.declared.Reply.TheVariants.{Done}
use Rattle.rules.specs.Items.{fault_of, justification_of}
use Rattle.store.proofs.Judging.{open_done}
use Rattle.store.specs.Calls.{add_of, answer, open_of, start_store}
use Rattle.store.specs.declared.Outcome.{Outcome}
use Rattle.store.specs.declared.Store.{Store}
use Rattle.theory.proofs.Depth.{count_all}
use Rattle.theory.specs.Limits.{limits}
use Rattle.theory.specs.Lists.{numbers_below, those}
use Rattle.theory.specs.Sets.{by_size, listing}
use Rattle.theory.specs.Stages.{Justification, follows, label_at, label_of, minimal, nogoods_at, nogoods_of}

module _ (A : ℕ) (J : List Justification) (k : ℕ) where
  few_nogoods : length (nogoods_at A J k) ≤ length (listing A)
  unfolding nogoods_at nogoods_of
  few_nogoods = count_all (minimal A (λ E. follows J k E zero)) (listing A)

  few_members : (n : ℕ) → length (label_at A J k n) ≤ length (listing A)
  unfolding label_at label_of
  few_members n = count_all (λ E. minimal A (λ F. follows J k F n) E && not (follows J k E zero)) (listing A)

pub small_room : (A N : ℕ) (J : List Justification) → length (listing A) ≤ limits.label → AllInRoom A N J
small_room A N J h k = record { nogoods = omega (arith, few_nogoods A J k); labels = λ n p q. omega (arith, few_members A J k n) }

-- three assumptions have eight sets
few_sets : (A : ℕ) → A ≤ 3 → length (listing A) ≤ limits.label
unfolding listing by_size numbers_below those ones
few_sets zero h = omega arith
few_sets (suc zero) h = omega arith
few_sets (suc (suc zero)) h = omega arith
few_sets (suc (suc (suc zero))) h = omega arith
few_sets (suc (suc (suc (suc A)))) h = absurd (omega arith)

pub few_room : (A N : ℕ) (J : List Justification) → A ≤ 3 → AllInRoom A N J
few_room A N J h = small_room A N J (few_sets A h)

-- ---- answers 0

pub opens_at : (A M : ℕ) → A ≤ limits.assumptions → M ≤ limits.claims → open_of A M ≡ answer Done (start_store A M)
opens_at A M a m = sym (open_done A M a m)

pub done_with : (o : Outcome) → o.reply ≡ Done → o ≡ answer Done o.store
done_with o e = ap (λ (r : Reply). answer r o.store) e

-- ---- stores made with at most three assumptions

pub made_open : (A M : ℕ) → A ≤ limits.assumptions → M ≤ limits.claims → Made ours A M [] (open_of A M).store
made_open A M a m = opened (done_with (open_of A M) (ap (λ (o : Outcome). o.reply) (opens_at A M a m)))

module _ {A M : ℕ} {H : List Justification} {s : Store} (m : Made ours A M H s) (c : ℕ) (l : List ℕ) (r : Reaches A M H c l) (few : A ≤ 3) where
  pub add_done : (add_of s c l).reply ≡ Done
  add_done = ((demand_2.tells m).adding c l Done).1 (reached c l r (few_room A (A + M) (justification_of (A + M) c l ∷ H) few))

  pub made_add : Made ours A M (justification_of (A + M) c l ∷ H) (add_of s c l).store
  made_add = added c l m (done_with (add_of s c l) add_done)

-- one adding to an opened store
module _ (A M c : ℕ) (l : List ℕ) (few : A ≤ 3) (claims : M ≤ limits.claims) (sound : fault_of (A + M) c l ≡ Done) where
  reaches_one : Reaches A M [] c l
  unfolding in_order
  reaches_one = record { sound = sound; new = λ m. elim m [ ]; room = omega arith }

  pub one_done : (add_of (open_of A M).store c l).reply ≡ Done
  one_done = add_done (made_open A M (omega arith) claims) c l reaches_one few

  pub one_made : Made ours A M (justification_of (A + M) c l ∷ []) (add_of (open_of A M).store c l).store
  one_made = made_add (made_open A M (omega arith) claims) c l reaches_one few
