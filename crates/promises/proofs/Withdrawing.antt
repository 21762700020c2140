-- What withdrawing from a made store answers, over what was put in. Assumes nothing.
use mathlib.Core.Bool.{Bool, false, not, true}
use mathlib.Core.List.{List, Memᴰ as Mem}
use mathlib.Core.Logic.{◌↔◌, ⊎_elim}
use mathlib.Core.Path.{◌∙◌, ◌≡◌, ap, ap₂, refl, subst, sym}
use Prim.Native.Nat.{◌+◌, ℕ}
use borrow.Author.Tests.{not-false, not-true}
use Rattle.promises.proofs.Form.{Form, form_withdraw, parted}
use Rattle.promises.proofs.Full.{judge_says, says_same}
use Rattle.promises.proofs.InOrder.{in_order_dropped, in_order_from, in_order_members, in_order_to}
use Rattle.promises.proofs.Right.{form_right}
use Rattle.promises.proofs.Rows.{Tests, by_choice, exactly, fault_told, given_one, passes, room_says, say_one, stages_say}
use Rattle.promises.specs.Made.{in_order}
use Rattle.promises.specs.Once.{One}
use Rattle.promises.specs.Room.{AllInRoom, StagesSay, WithdrawSays}
use Rattle.promises.specs.Rows.{given}
use Rattle.replies.specs.declared.Reply.{Reply}
use Rattle.replies.specs.declared.Reply.TheVariants.{Done, Falsity, Itself, Number, Supports, Unheld}
use Rattle.holding.proofs.Dropping.{dropped_from}
use Rattle.rules.proofs.Laws.{Ranged}
use Rattle.rules.proofs.Order.{mem_same, same_mem}
use Rattle.rules.specs.Held.{dropped, held_of}
use Rattle.rules.specs.Items.{fault_of, justification_of, same_justification}
use Rattle.store.specs.Calls.{answer, is_done, store_of, withdraw_of}
use Rattle.store.specs.Shape.{right_shape}
use Rattle.store.specs.declared.Outcome.{Outcome}
use Rattle.store.specs.declared.Store.{Store}
use Rattle.theory.proofs.Lists.{clash, either}
use Rattle.theory.specs.Judge.{judge}
use Rattle.theory.specs.Limits.{limits}
use Rattle.theory.specs.Lists.{choose, some_of}
use Rattle.theory.specs.Stages.{Justification}

module _ {A M : ℕ} {H : List Justification} {s : Store} (f : Form A M H s) (c : ℕ) (l : List ℕ) where
  abbrev N : ℕ
  N = A + M

  abbrev J : List Justification
  J = in_order H

  abbrev i : Justification
  i = justification_of (A + M) c l

  abbrev smaller : List Justification
  smaller = in_order (dropped i H)

  -- what is answered where the fault of the item is x
  abbrev unless : Reply → Reply
  unless x = (choose (not (is_done x)) (answer x s) (choose (not (some_of (same_justification i) J)) (answer Unheld s) (store_of s A M (dropped i J)))).reply

  reply_is : (withdraw_of s c l).reply ≡ unless (fault_of N c l)
  reply_is = ap (λ (o : Outcome). o.reply) (form_withdraw f c l) ∙ go (form_right f)
    where
      go : right_shape s ≡ true → (parted s (right_shape s) A M J c l).reply ≡ unless (fault_of N c l)
      go p = rw p

  unheld_test : Tests (not (some_of (same_justification i) J)) (Mem i H → ⊥)
  unheld_test = record {
    so = λ h m. clash (mem_same i J (in_order_to m)) (not-true (some_of (same_justification i) J) h);
    not_so = λ h n. n (in_order_from H (same_mem i J (not-false (some_of (same_justification i) J) h)));
  }

  in_range_lem : (j : Justification) → Mem j smaller → Ranged N j
  in_range_lem j m = f.ranged j (dropped_from i H (in_order_from (dropped i H) m))

  smaller_says : StagesSay A N (dropped i H) (store_of s A M smaller).reply
  unfolding store_of
  smaller_says =
      stages_say A N (dropped i H) s (held_of A M smaller) (judge limits A N smaller)
      (says_same A N (in_order_members (dropped i H)) (judge limits A N smaller)
      (judge_says A N smaller (λ j m t k. ((in_range_lem j m).between t k).1) (judge limits A N smaller) refl))

  parted_says : given (Mem i H → ⊥) Unheld (StagesSay A N (dropped i H)) (unless Done)
  parted_says =
      by_choice _ (λ (o : Outcome). o.reply) (not (some_of (same_justification i) J)) (answer Unheld s) (store_of s A M (dropped i J)) unheld_test refl
      (λ p. subst (λ (K : List Justification). StagesSay A N (dropped i H) (store_of s A M K).reply) (in_order_dropped i H) smaller_says)

  withdraw_says : WithdrawSays A M H c l (withdraw_of s c l).reply
  withdraw_says = subst (WithdrawSays A M H c l) (sym reply_is) (fault_told N c l unless _ Number Falsity Itself refl refl refl (λ d. parted_says) Supports refl)

  one_reply : One (WithdrawSays A M H c l)
  one_reply = given_one _ _ _ (given_one _ _ _ (given_one _ _ _ (given_one _ _ _ (given_one _ _ _ (say_one A N (dropped i H))))))

  -- withdrawing gives r exactly when the rows say
  pub form_withdrawing : (r : Reply) → ((withdraw_of s c l).reply ≡ r) ↔ WithdrawSays A M H c l r
  form_withdrawing r = exactly (WithdrawSays A M H c l) (withdraw_of s c l).reply one_reply withdraw_says r

  -- what is withdrawn was there
  unheld_refused : some_of (same_justification i) J ≡ false → (x : Reply) → is_done (unless x) ≡ false
  unheld_refused h x = ⊎_elim (λ (p : is_done x ≡ true). ap₂ told p h) (λ (p : is_done x ≡ false). ap₂ told p h ∙ p) (either (is_done x))
    where
      told : Bool → Bool → Bool
      told b d = is_done (choose (not b) (answer x s) (choose (not d) (answer Unheld s) (store_of s A M (dropped i J)))).reply

  pub was_held : {t : Store} → withdraw_of s c l ≡ answer Done t → Mem i H
  was_held e =
      ⊎_elim (λ (h : some_of (same_justification i) J ≡ true). in_order_from H (same_mem i J h))
      (λ (h : some_of (same_justification i) J ≡ false). clash (ap is_done (sym reply_is ∙ ap (λ (o : Outcome). o.reply) e)) (unheld_refused h (fault_of N c l)))
      (either (some_of (same_justification i) J))

-- what was put in, taken out with room at each stage of the rest, is answered 0
pub lets_go : (A M : ℕ) {H : List Justification} (c : ℕ) (l : List ℕ) → fault_of (A + M) c l ≡ Done → Mem (justification_of (A + M) c l) H → AllInRoom A (A + M) (dropped (justification_of (A + M) c l) H)
    → WithdrawSays A M H c l Done
lets_go A M {H} c l sound m w =
    let K : List Justification = dropped (justification_of (A + M) c l) H in
    subst (WithdrawSays A M H c l) sound
    (fault_told (A + M) c l (λ (x : Reply). x) _ Number Falsity Itself refl refl refl (λ d. passes Reply _ _ Done _ (λ n. n m) (room_says A (A + M) K w)) Supports refl)
