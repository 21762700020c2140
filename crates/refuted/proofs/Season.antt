-- Two programs that add a list otherwise than one by one are refuted: one that stops at the first refusal, one that judges the list at once. Assumes nothing.
use mathlib.Core.Bool.{Bool, true}
use mathlib.Core.List.{List, [], ◌++◌, ◌∷◌, map}
use mathlib.Core.Path.{◌∙◌, ◌≡◌, ap, refl, subst, sym}
use Prim.Native.Nat.{◌≤◌, ℕ}
use native.Mathlib.Omega.{arith}
use lib.Dec.{eqb, ltb}
use lib.ListN.{get_or, length}
use borrow.Author.Tests.{eqb-true}
use Rattle.asking.specs.Asking.{Left}
use Rattle.handed.specs.Supplied.{supplied_by}
use Rattle.handed.specs.declared.Handed.{Handed}
use Rattle.promises.proofs.Form.{made_form}
use Rattle.promises.proofs.Right.{made_right}
use Rattle.promises.proofs.Season.{one_by_one}
use Rattle.promises.specs.Calls.{ours}
use Rattle.promises.specs.Made.{Made, added, in_order}
use Rattle.promises.specs.Season.{OneByOne, after_each, numbers_each, passing}
use Rattle.refuted.proofs.Small.{done_with, made_open}
use Rattle.refuted.specs.Wrong.{at_once, faultless, handed_by, new_ones, put_together, stopping, together, up_to_refused}
use Rattle.replies.proofs.Laws.{two_digits, zero_done}
use Rattle.replies.specs.Replies.{number_of}
use Rattle.replies.specs.declared.Reply.{Reply}
use Rattle.replies.specs.declared.Reply.TheVariants.{Done, Number}
use Rattle.rules.specs.Held.{held_of, put, said_by}
use Rattle.rules.specs.Items.{fault_of, justification_of, same_justification, set_of}
use Rattle.season.specs.Season.{give_of}
use Rattle.store.proofs.Judging.{add_fault}
use Rattle.store.specs.Calls.{add_of, answer, is_done, no_store, of_verdict, open_of, start_store, store_of}
use Rattle.store.specs.Shape.{right_shape, top}
use Rattle.store.specs.declared.Outcome.{Outcome}
use Rattle.store.specs.declared.Store.{Store}
use Rattle.theory.proofs.Lists.{and_intro, and_left, and_right}
use Rattle.theory.specs.Cases.{at, verdict}
use Rattle.theory.specs.Judge.{Verdict, judge, label_over, same_sets}
use Rattle.theory.specs.Limits.{limits}
use Rattle.theory.specs.Lists.{alike, all_of, choose, numbers_below, some_of, those}
use Rattle.theory.specs.Stages.{Justification, ahead, lesser}

-- answered by ours with 0
all_accepted : (s : Store) (l : List Handed) (out : List ℕ) → right_shape s ≡ true → length l ≤ length out → is_done (ours.adding_all s l out).outcome.reply ≡ true
all_accepted s l out right few = ap (λ (x : Left). is_done x.outcome.reply) (one_by_one.one_by_one s l out right few)

-- ---- stops at the first refusal: 2, above A + M, then a premise for 1; the byte of the premise stays 200

abbrev bare : Store
bare = (open_of 0 1).store

bare_right : right_shape bare ≡ true
bare_right = made_right (made_open 0 1 (omega arith) (omega arith))

abbrev item : ℕ → Handed
item c = record { consequent = c; count = 0; supports = 0 ∷ 0 ∷ 0 ∷ 0 ∷ [] }

abbrev two : List Handed
two = item 2 ∷ item 1 ∷ []

abbrev lent : List ℕ
lent = 200 ∷ 200 ∷ []

above : fault_of (top bare.held) 2 (supplied_by (item 2)) ≡ Number
unfolding open_of start_store held_of fault_of supplied_by some_of
above = refl

above_refused : give_of bare (item 2) ≡ answer Number bare
above_refused =
    sym (add_fault bare 2 (supplied_by (item 2)) bare_right (λ z. let e : ◌≡◌ {A = ℕ} 4 0 = sym (ap number_of above) ∙ z in omega arith))
    ∙ ap (λ (r : Reply). answer r bare) above

stops : up_to_refused bare two ≡ item 2 ∷ []
unfolding up_to_refused
stops = ap (λ (o : Outcome). item 2 ∷ choose (ltb 1 (number_of o.reply)) [] (up_to_refused o.store (item 1 ∷ []))) above_refused

pub stops_at_a_refusal : OneByOne stopping → ⊥
unfolding numbers_each
stops_at_a_refusal w =
    let stopped : stopping.adding_all bare two lent ≡ ours.adding_all bare (item 2 ∷ []) lent =
    ap (λ (b : Bool). choose b (ours.adding_all bare (up_to_refused bare two) lent) (ours.adding_all bare two lent)) (all_accepted bare two lent bare_right (omega arith))
    ∙ ap (λ (l : List Handed). ours.adding_all bare l lent) stops in
    let says : get_or (stopping.adding_all bare two lent).bytes 1 0 ≡ 200 =
    ap (λ (x : Left). get_or x.bytes 1 0) (stopped ∙ one_by_one.one_by_one bare (item 2 ∷ []) lent bare_right (omega arith)) in
    let r : Reply = (add_of (passing bare (give_of bare (item 2))) 1 (supplied_by (item 1))).reply in
    let one : get_or (stopping.adding_all bare two lent).bytes 1 0 ≡ number_of r = ap (λ (x : Left). get_or x.bytes 1 0) (w.one_by_one bare two lent bare_right (omega arith)) in
    omega (arith, two_digits r, sym one ∙ says)

-- ---- judges the list at once: thirteen of the pairs of six assumptions are over as the label of 7, though a premise for 7 comes last

abbrev six : Store
six = (open_of 6 1).store

six_made : Made ours 6 1 [] six
six_made = made_open 6 1 (omega arith) (omega arith)

abbrev pair : ℕ → ℕ → Handed
pair a b = record { consequent = 7; count = 2; supports = a ∷ b ∷ 0 ∷ 0 ∷ [] }

abbrev pairs : List Handed
pairs = pair 1 2 ∷ pair 1 3 ∷ pair 1 4 ∷ pair 1 5 ∷ pair 1 6 ∷ pair 2 3 ∷ pair 2 4 ∷ pair 2 5 ∷ pair 2 6 ∷ pair 3 4 ∷ pair 3 5 ∷ pair 3 6 ∷ pair 4 5 ∷ []

abbrev season : List Handed
season = pairs ++ item 7 ∷ []

abbrev bytes : List ℕ
bytes = 0 ∷ 0 ∷ 0 ∷ 0 ∷ 0 ∷ 0 ∷ 0 ∷ 0 ∷ 0 ∷ 0 ∷ 0 ∷ 0 ∷ 0 ∷ 0 ∷ []

-- what the items put in, the last first
unfoldable puts : List Handed → List Justification → List Justification
puts [] H = H
puts (h ∷ l) H = puts l (justification_of 7 h.consequent (supplied_by h) ∷ H)

-- where one by one every byte is 0, every item was put in
module _ (m : List Handed) where
  all_put : (l : List Handed) {H : List Justification} {s : Store} → Made ours 6 1 H s → all_of (eqb 0) (numbers_each add_of s (l ++ m)) ≡ true → Made ours 6 1 (puts l H) (after_each add_of s l)
  unfolding numbers_each after_each puts all_of
  all_put [] p z = p
  all_put (h ∷ l) {H} {s} p z =
      let o : Outcome = give_of s h in
      let rest : List ℕ = numbers_each add_of (passing s o) (l ++ m) in
      let d : o.reply ≡ Done = zero_done o.reply (sym (eqb-true 0 (number_of o.reply) (and_left (eqb 0 (number_of o.reply)) (all_of (eqb 0) rest) z))) in
      let k : o.store ≡ passing s o = ap (λ (r : Reply). choose (is_done r) o.store s) (sym d) in
      all_put l (subst (Made ours 6 1 (justification_of 7 h.consequent (supplied_by h) ∷ H)) k (added h.consequent (supplied_by h) p (done_with o d)))
      (and_right (eqb 0 (number_of o.reply)) (all_of (eqb 0) rest) z)

all_first : (l m : List ℕ) → all_of (eqb 0) (l ++ m) ≡ true → all_of (eqb 0) l ≡ true
unfolding all_of
all_first [] m z = refl
all_first (x ∷ l) m z = and_intro (and_left (eqb 0 x) (all_of (eqb 0) (l ++ m)) z) (all_first l m (and_right (eqb 0 x) (all_of (eqb 0) (l ++ m)) z))

pairs_over : judge limits 6 7 (in_order (puts pairs [])) ≡ label_over 7
unfolding verdict puts in_order put set_of same_justification ahead lesser supplied_by
pairs_over = refl

season_settles : judge limits 6 7 (in_order (map (handed_by six) season ++ said_by six.held)) ≡ at 1 [] ((1 ∷ []) ∷ (2 ∷ []) ∷ (4 ∷ []) ∷ (8 ∷ []) ∷ (16 ∷ []) ∷ (32 ∷ []) ∷ (0 ∷ []) ∷ [])
unfolding verdict in_order put set_of same_justification ahead lesser supplied_by open_of start_store held_of
season_settles = refl

season_done : is_done (together six season).reply ≡ true
unfolding store_of open_of start_store held_of
season_done = ap (λ (v : Verdict). is_done (of_verdict six (held_of 6 1 (in_order (map (handed_by six) season ++ said_by six.held))) v).reply) season_settles

season_sound : all_of (faultless six) season ≡ true
unfolding open_of start_store held_of fault_of supplied_by some_of all_of
season_sound = refl

season_new : new_ones (said_by six.held) (map (handed_by six) season) ≡ bytes
unfolding new_ones same_justification same_sets alike set_of those numbers_below some_of supplied_by open_of start_store held_of
season_new = refl

pub judges_at_once : OneByOne at_once → ⊥
unfolding all_of store_of
judges_at_once w =
    let right : right_shape six ≡ true = made_right six_made in
    let few : length season ≤ length bytes = omega arith in
    let together-so : at_once.adding_all six season bytes ≡ put_together six season bytes =
    ap (λ (b : Bool). choose b (put_together six season bytes) (ours.adding_all six season bytes)) (and_intro (all_accepted six season bytes right few) (and_intro season_sound season_done)) in
    let zeros : all_of (eqb 0) (numbers_each add_of six season ++ []) ≡ true =
    ap (λ (x : Left). all_of (eqb 0) x.bytes) (sym (w.one_by_one six season bytes right few) ∙ together-so) ∙ ap (λ (x : List ℕ). all_of (eqb 0) (x ++ [])) season_new in
    let made = all_put (item 7 ∷ []) pairs six_made (all_first (numbers_each add_of six season) [] zeros) in
    let z : ◌≡◌ {A = ℕ} 8 0 =
    sym (ap (λ (v : Verdict). number_of (of_verdict no_store (held_of 6 1 (in_order (puts pairs []))) v).reply) pairs_over) ∙ ap (λ (o : Outcome). number_of o.reply) (made_form made).store in
    omega arith
