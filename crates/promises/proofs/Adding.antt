-- What adding to a made store answers, over what was put in. Assumes nothing.
use mathlib.Core.Bool.{false, not, true}
use mathlib.Core.List.Memᴰ
use mathlib.Core.List.{List, Memᴰ as Mem, ◌∷◌}
use mathlib.Core.Logic.{◌↔◌, ⊎_elim}
use mathlib.Core.Path.{◌∙◌, ◌≡◌, ap, refl, subst, sym}
use Prim.Native.Nat.{◌+◌, ◌≤◌, ℕ}
use native.Mathlib.Omega.{arith}
use lib.Dec.{leb}
use lib.ListN.{length}
use Rattle.promises.proofs.Form.{Form, form_add, tried}
use Rattle.promises.proofs.Full.{judge_says, says_same}
use Rattle.promises.proofs.InOrder.{in_order_from, in_order_members, in_order_new, in_order_to}
use Rattle.promises.proofs.Right.{form_right}
use Rattle.promises.proofs.Rows.{Tests, by_choice, exactly, fault_told, given_one, most_test, passes, room_says, say_one, stages_say}
use Rattle.promises.specs.Made.{in_order}
use Rattle.promises.specs.Once.{One}
use Rattle.promises.specs.Room.{AddSays, AllInRoom, Reaches, StagesSay}
use Rattle.promises.specs.Rows.{given}
use Rattle.replies.specs.declared.Reply.{Reply}
use Rattle.replies.specs.declared.Reply.TheVariants.{Already, Done, Falsity, Full, Itself, Number, Supports}
use Rattle.rules.proofs.Laws.{Ranged, faultless_ranged}
use Rattle.rules.proofs.Order.{mem_same, same_mem}
use Rattle.rules.specs.Held.{held_of, put}
use Rattle.rules.specs.Items.{fault_of, justification_of, same_justification}
use Rattle.store.specs.Calls.{add_of, answer, is_done, store_of}
use Rattle.store.specs.Shape.{right_shape}
use Rattle.store.specs.declared.Outcome.{Outcome}
use Rattle.store.specs.declared.Store.{Store}
use Rattle.theory.proofs.Lists.{clash}
use Rattle.theory.specs.Judge.{judge}
use Rattle.theory.specs.Limits.{limits}
use Rattle.theory.specs.Lists.{choose, some_of}
use Rattle.theory.specs.Stages.{Justification}

module _ {A M : ℕ} {H : List Justification} {s : Store} (f : Form A M H s) (c : ℕ) (l : List ℕ) where
  abbrev N : ℕ
  N = A + M

  abbrev J : List Justification
  J = in_order H

  abbrev i : Justification
  i = justification_of (A + M) c l

  abbrev larger : List Justification
  larger = in_order (i ∷ H)

  -- what is answered where the fault of the item is x
  abbrev unless : Reply → Reply
  unless x =
      (choose (not (is_done x)) (answer x s)
      (choose (some_of (same_justification i) J) (answer Already s)
      (choose (leb limits.held (length J)) (answer Full s)
      (store_of s A M (put i J))))).reply

  reply_is : (add_of s c l).reply ≡ unless (fault_of N c l)
  reply_is = ap (λ (o : Outcome). o.reply) (form_add f c l) ∙ go (form_right f)
    where
      go : right_shape s ≡ true → (tried s (right_shape s) A M (length J) J c l).reply ≡ unless (fault_of N c l)
      go p = rw p

  held_test : Tests (some_of (same_justification i) J) (Mem i H)
  held_test = record { so = λ h. in_order_from H (same_mem i J h); not_so = λ h m. clash (mem_same i J (in_order_to m)) h }

  module _ (sound : fault_of N c l ≡ Done) where
    in_range_lem : (j : Justification) → Mem j larger → Ranged N j
    in_range_lem j m =
        ⊎_elim (λ (q : j ≡ i). subst (Ranged N) (sym q) (faultless_ranged N c l sound)) (λ k. f.ranged j k) (Memᴰ.cases_cons (in_order_from (i ∷ H) m))

    larger_says : StagesSay A N (i ∷ H) (store_of s A M larger).reply
    unfolding store_of
    larger_says =
        stages_say A N (i ∷ H) s (held_of A M larger) (judge limits A N larger)
        (says_same A N (in_order_members (i ∷ H)) (judge limits A N larger)
        (judge_says A N larger (λ j m t k. ((in_range_lem j m).between t k).1) (judge limits A N larger) refl))

    joined_says : given (Mem i H) Already (given (limits.held ≤ length J) Full (StagesSay A N (i ∷ H))) (unless Done)
    joined_says =
        by_choice _ (λ (o : Outcome). o.reply) (some_of (same_justification i) J) (answer Already s) _ held_test refl
        (λ (p : some_of (same_justification i) J ≡ false). by_choice _ (λ (o : Outcome). o.reply) (leb limits.held (length J)) (answer Full s) (store_of s A M (put i J)) (most_test limits.held (length J)) refl
        (λ q. subst (λ (K : List Justification). StagesSay A N (i ∷ H) (store_of s A M K).reply) (in_order_new i H p) larger_says))

  add_says : AddSays A M H c l (add_of s c l).reply
  add_says = subst (AddSays A M H c l) (sym reply_is) (fault_told N c l unless _ Number Falsity Itself refl refl refl joined_says Supports refl)

  one_reply : One (AddSays A M H c l)
  one_reply = given_one _ _ _ (given_one _ _ _ (given_one _ _ _ (given_one _ _ _ (given_one _ _ _ (given_one _ _ _ (say_one A N (i ∷ H)))))))

  -- adding gives r exactly when the rows say
  pub form_adding : (r : Reply) → ((add_of s c l).reply ≡ r) ↔ AddSays A M H c l r
  form_adding r = exactly (AddSays A M H c l) (add_of s c l).reply one_reply add_says r

-- what reaches its stages, and has room at each, is answered 0
pub reached : {A M : ℕ} {H : List Justification} (c : ℕ) (l : List ℕ) → Reaches A M H c l → AllInRoom A (A + M) (justification_of (A + M) c l ∷ H) → AddSays A M H c l Done
reached {A} {M} {H} c l r w =
    let K : List Justification = justification_of (A + M) c l ∷ H in
    subst (AddSays A M H c l) r.sound
    (fault_told (A + M) c l (λ (x : Reply). x) _ Number Falsity Itself refl refl refl
    (λ d. passes Reply _ _ Done _ r.new (passes Reply _ _ Done _ (λ (z : limits.held ≤ length (in_order H)). omega (arith, r.room)) (room_says A (A + M) K w))) Supports refl)
