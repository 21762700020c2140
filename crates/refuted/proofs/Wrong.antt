-- A demand refutes each wrong program, by a small case. Assumes nothing.
use Rattle.std.specs.Prelude.{Option, Some, None, Result, Ok, Err}
use Rattle.promises.specs.Demand2.{QuestionSays}
use Rattle.plain.specs.declared.Plain.{Plain}
use mathlib.Core.Bool.{false, true}
use mathlib.Core.List.Memᴰ
use mathlib.Core.List.Memᴰ.{head as here}
use mathlib.Core.List.{List, Memᴰ as Mem, [], ◌∷◌}
use mathlib.Core.Logic.{inr, ⊎_elim}
use mathlib.Core.Path.{◌∙◌, ◌≡◌, ap, ap₂, refl, subst, sym}
use Prim.Native.Nat.{◌+◌, ◌<◌, ◌^◌, ◌≤◌, zero-le, ℕ}
use native.Mathlib.Nat.{eq-or-lt_of_le}
use native.Mathlib.Omega.{arith}
use lib.Count.{ones}
use lib.Dec.{eqb}
use lib.ListN.{length}
use Rattle.asking.specs.Asking.{answer_number, byte_of, first_in, question_of, reasoned, standing}
use Rattle.asking.specs.declared.Answer.{Answer}
use Rattle.asking.specs.declared.Answer.TheVariants.{Inconsistent, Supported, Unsupported}
use Rattle.refuted.proofs.Arrival.{keeps_arrival}
use Rattle.refuted.proofs.Cases.{p_cases}
use Rattle.refuted.proofs.Deducing.{demand_2_too, demand_3_too, lists_again, one_by_one_too, plain_path_too, refusals_too, stores_too}
use Rattle.refuted.proofs.Halting.{stops_at_falsity}
use Rattle.refuted.proofs.Labelled.{plain_path_labelled}
use Rattle.refuted.proofs.Naming.{names_the_asked, names_the_last}
use Rattle.refuted.proofs.Season.{judges_at_once, stops_at_a_refusal}
use Rattle.casefile.proofs.Cases.{listed as spells, listed_case}
use Rattle.plain.specs.Plainly.{byte_of as plain_byte, plain_by as plainWord}
use Rattle.promises.proofs.Adding.{reached}
use Rattle.promises.proofs.Answers.{byte_says, in_set, standing_says}
use Rattle.promises.proofs.Form.{Form, done_by, done_store, form_a, form_count, form_m, form_said, made_form, none_store}
use Rattle.refuted.proofs.Prefixed.{judges_prefixes}
use Rattle.refuted.proofs.Third.{calls_all_contradicted, stops_at_the_depth}
use Rattle.promises.proofs.Right.{made_right}
use Rattle.refuted.proofs.Small.{add_done, done_with, few_room, made_add, made_open, one_done, one_made, opens_at}
use Rattle.promises.proofs.Rows.{passes, room_says}
use Rattle.promises.proofs.Standing.{as_they_stand}
use Rattle.promises.proofs.Table.{standing_zero}
use Rattle.promises.proofs.Truth.{demand_2}
use Rattle.promises.proofs.Withdrawing.{lets_go}
use Rattle.promises.specs.Calls.{Calls, Read, ours, plainly, question}
use Rattle.promises.specs.Demand2.{Demand2, IsDepth, Smallest}
use Rattle.promises.specs.Made.{Made, Stores, added, in_order, opened, put_in, withdrawn}
use Rattle.promises.specs.Plain.{word_alone}
use Rattle.promises.specs.Room.{Reaches}
use Rattle.promises.specs.Rows.{given}
use Rattle.promises.specs.Standing.{AsTheyStand}
use Rattle.promises.specs.Table.{OverCounts, ReplyTable, ShapedRows}
use Rattle.refuted.specs.Cases.{listed_bytes}
use Rattle.refuted.specs.Wrong.{AddsNone, always_full, clearing, count_kept, deducing, deep, deeper, denying, Depths, emptying, forgetful, forgetting, from_labels, holding, idle, lenient, lists_kept, LoadsNone, not_freed, once, others_than, refusing, Refuted, sparing, unstruck, unstruck_lists, welcoming, worked_out}
use Rattle.replies.specs.Replies.{number_of}
use Rattle.replies.specs.declared.Reply.TheVariants.{Done}
use Rattle.replies.specs.declared.Reply.{Reply}
use Rattle.rules.specs.Held.{dropped, held_of, put, said_by}
use Rattle.rules.specs.Items.{fault_of, justification_of, same_justification, set_of}
use Rattle.shape.specs.Shape.{lists_right}
use Rattle.stages.specs.Lists.{lists_of}
use Rattle.stages.specs.declared.Lists.{Lists}
use Rattle.store.specs.Calls.{add_of, answer, is_done, no_store, open_of, start_store, store_of, withdraw_of}
use Rattle.store.specs.Reading.{label_held, nogoods_held}
use Rattle.store.specs.Shape.{held_fits, right_shape, top}
use Rattle.store.specs.declared.Outcome.{Outcome}
use Rattle.store.specs.declared.Store.{Store}
use Rattle.theory.proofs.Demands.{carries_means}
use Rattle.theory.proofs.Depth.{consequents_length}
use Rattle.theory.proofs.Lists.{and_intro, and_left, and_right, clash}
use Rattle.theory.proofs.Sets.{within_le}
use Rattle.theory.specs.Cases.{from}
use Rattle.theory.specs.Demands.{carries, contradicts}
use Rattle.theory.specs.Judge.{consequents, judge, same_sets}
use Rattle.theory.specs.Limits.{limits}
use Rattle.theory.specs.Lists.{alike, all_of, choose, numbers_below, numbers_to, some_of, those}
use Rattle.theory.specs.Places.{table}
use Rattle.theory.specs.Sets.{among, by_size, digit, listing, within}
use Rattle.theory.specs.Stages.{Justification, ahead, follows, gives, lesser, minimal}

-- ---- the bytes of two answers

-- the answer to a question, as a byte without the third word
abbrev plain : Result Answer Reply → ℕ
plain (Ok a) = byte_of false a
plain (Err r) = 0

abbrev plain_by : List Justification → ℕ → ℕ → ℕ
plain_by H E n = choose (contradicts H E) 2 (choose (carries H E n) 1 0)

not_both : (a : Result Answer Reply) → plain a ≡ 1 → plain a ≡ 0 → ⊥
not_both a p q = let z : ◌≡◌ {A = ℕ} 1 0 = sym p ∙ q in omega arith

answer_byte : (A : ℕ) (H : List Justification) (n E : ℕ) (a : Result Answer Reply) → QuestionSays A H n E a → plain a ≡ plain_by H E n
answer_byte A H n E (Ok a) h = byte_says A H n E false a h
answer_byte A H n E (Err r) h = absurd h

-- demand 2 gives the byte of every answer
told : {C : Calls} {A M : ℕ} {H : List Justification} {s : Store} → Demand2 C → Made C A M H s → (n E : ℕ) → n ≤ A + M → E < 2 ^ A → plain (C.reading s (question n E)).said ≡ plain_by H E n
told {C} {A} {H = H} {s = s} d m n E l h = answer_byte A H n E (C.reading s (question n E)).said (((d.tells m).question n E l h (C.reading s (question n E)).said).0 refl)

standing_plain : {A M : ℕ} {H : List Justification} {s : Store} → Form A M H s → (n E : ℕ) → n ≤ A + M → E < 2 ^ A → plain (Ok (standing s.lists n E)) ≡ plain_by H E n
standing_plain {A} {H = H} {s = s} f n E l h = byte_says A H n E false (standing s.lists n E) (standing_says f n E l h)

module _ (H : List Justification) (E n : ℕ) where
  carried : carries H E n ≡ true → plain_by H E n ≡ 1
  carried k = let c : contradicts H E ≡ false = ((carries_means H E n).0 k).0 in rw (c, k)

  struck : contradicts H E ≡ true → plain_by H E n ≡ 2
  struck c = rw c

-- ---- refuses each call
refuses : Demand2 refusing → ⊥
refuses d = let z : ◌≡◌ {A = ℕ} 3 0 = ap number_of (d.opens 0 0 zero-le zero-le) in omega arith

refuses_table : ReplyTable refusing → ⊥
unfolding given
refuses_table t =
    let fits : OverCounts 0 0 → ⊥ = ⊎_elim (λ (p : limits.assumptions < 0). omega arith) (λ (p : limits.claims < 0). omega arith) in
    let z : ◌≡◌ {A = ℕ} 3 0 = (t.opening 0 0 0).1 (inr (fits, refl)) in omega arith

-- .. so does every program that answers no adding, or no loading, with 0
fits : Reaches 1 1 [] 2 (1 ∷ [])
unfolding fault_of some_of in_order
fits = record { sound = refl; new = λ m. elim m [ ]; room = omega arith }

adds_none : (C : Calls) → AddsNone C → Demand2 C → ⊥
adds_none C never d =
    let o : C.opening 1 1 ≡ answer Done (C.opening 1 1).store = done_with (C.opening 1 1) (d.opens 1 1 (omega arith) (omega arith)) in
    never (C.opening 1 1).store 2 (1 ∷ []) (((d.tells (opened o)).adding 2 (1 ∷ []) Done).1 (reached 2 (1 ∷ []) fits (few_room 1 2 (justification_of 2 2 (1 ∷ []) ∷ []) (omega arith))))

loads_none : (C : Calls) → LoadsNone C → Demand2 C → ⊥
loads_none C never d = never listed_bytes ((d.loads listed_bytes listed_case spells Done).1 (room_says 3 5 (put_in listed_case) (few_room 3 5 (put_in listed_case) (omega arith))))

-- ---- calls every set unsupported: assumption 1 is supported by itself
one_carries : carries [] 1 1 ≡ true
unfolding carries contradicts follows among digit
one_carries = refl

denies : Demand2 denying → ⊥
denies d =
    let m : Made denying 1 0 [] (start_store 1 0) = opened (opens_at 1 0 (omega arith) (omega arith)) in
    not_both (Ok Unsupported) (told d m 1 1 (omega arith) (omega arith) ∙ carried [] 1 1 one_carries) refl

-- ---- claim 2 from assumption 1, claim 3 from claim 2; M claims
abbrev pub first : ℕ → Justification
first M = justification_of (1 + M) 2 (1 ∷ [])

abbrev second : ℕ → Justification
second M = justification_of (1 + M) 3 (2 ∷ [])

-- ---- adds nothing and reports 0
first_carries : carries (first 1 ∷ []) 1 2 ≡ true
unfolding carries contradicts follows among digit some_of gives all_of set_of those numbers_below
first_carries = refl

none_carries : (contradicts [] 1 ≡ false) × (carries [] 1 2 ≡ false)
unfolding carries contradicts follows among digit some_of
none_carries = (refl, refl)

none_byte : plain_by [] 1 2 ≡ 0
none_byte = let c = none_carries.0 in let k = none_carries.1 in rw (c, k)

adds_nothing : Demand2 idle → ⊥
adds_nothing d =
    let s : Store = start_store 1 1 in
    let o : open_of 1 1 ≡ answer Done s = opens_at 1 1 (omega arith) (omega arith) in
    let m : Made idle 1 1 (first 1 ∷ []) s = added 2 (1 ∷ []) (opened o) refl in
    not_both (question_of s 2 1) (told d m 2 1 (omega arith) (omega arith) ∙ carried (first 1 ∷ []) 1 2 first_carries)
    (told demand_2 (opened o) 2 1 (omega arith) (omega arith) ∙ none_byte)

-- ---- does all stages in the first add and none later

both_carry : carries (second 2 ∷ first 2 ∷ []) 1 3 ≡ true
unfolding carries contradicts follows among digit some_of gives all_of set_of those numbers_below
both_carry = refl

empty_carries_not : carries (second 2 ∷ first 2 ∷ []) 0 3 ≡ false
unfolding carries contradicts follows among digit some_of gives all_of set_of those numbers_below
empty_carries_not = refl

first_carries_not : carries (first 2 ∷ []) 1 3 ≡ false
unfolding carries contradicts follows among digit some_of gives all_of set_of those numbers_below
first_carries_not = refl

first_reaches : Reaches 1 2 [] 2 (1 ∷ [])
unfolding fault_of some_of in_order
first_reaches = record { sound = refl; new = λ m. elim m [ ]; room = omega arith }

one_held : length (in_order (first 2 ∷ [])) ≡ 1
unfolding in_order some_of put
one_held = refl

second_reaches : Reaches 1 2 (first 2 ∷ []) 3 (2 ∷ [])
unfolding fault_of some_of
second_reaches = record {
  sound = refl;
  new = λ m. let z : ◌≡◌ {A = ℕ} 3 2 = ap (λ (j : Justification). j.consequent) (Memᴰ.eq_of_singleton m) in omega arith;
  room = omega (arith, one_held);
}

-- {1} is the smallest set that carries 3
one_smallest : Smallest 1 (λ E. carries (second 2 ∷ first 2 ∷ []) E 3) 1
one_smallest = record {
  range = omega arith;
  has = both_carry;
  no_smaller = λ F w c.
      ⊎_elim (λ (e : F ≡ 1). e)
      (λ (h : F < 1). let z : F ≡ 0 = omega arith in clash (subst (λ (G : ℕ). carries (second 2 ∷ first 2 ∷ []) G 3 ≡ true) z c) empty_carries_not)
      (eq-or-lt_of_le (within_le F 1 w));
}

none_yet : (start_store 1 2).held.count ≡ 0
unfolding start_store held_of
none_yet = refl

stages_once : Demand2 once → ⊥
stages_once d =
    let s₀ : Store = start_store 1 2 in
    let o : open_of 1 2 ≡ answer Done s₀ = opens_at 1 2 (omega arith) (omega arith) in
    let m₀ : Made ours 1 2 [] s₀ = opened o in
    let out₁ : Outcome = add_of s₀ 2 (1 ∷ []) in
    let e₁ : out₁ ≡ answer Done out₁.store = done_with out₁ (((demand_2.tells m₀).adding 2 (1 ∷ []) Done).1 (reached 2 (1 ∷ []) first_reaches (few_room 1 3 (first 2 ∷ []) (omega arith)))) in
    let m₁ : Made ours 1 2 (first 2 ∷ []) out₁.store = added 2 (1 ∷ []) m₀ e₁ in
    let w₁ : Made once 1 2 (first 2 ∷ []) out₁.store = added 2 (1 ∷ []) (opened o) (ap (λ (n : ℕ). choose (eqb n 0) out₁ (lists_kept s₀ out₁)) none_yet ∙ e₁) in
    let out₂ : Outcome = add_of out₁.store 3 (2 ∷ []) in
    let kept : Outcome = lists_kept out₁.store out₂ in
    let r₂ : out₂.reply ≡ Done = ((demand_2.tells m₁).adding 3 (2 ∷ []) Done).1 (reached 3 (2 ∷ []) second_reaches (few_room 1 3 (second 2 ∷ first 2 ∷ []) (omega arith))) in
    let w₂ : Made once 1 2 (second 2 ∷ first 2 ∷ []) kept.store =
    added 3 (2 ∷ []) w₁ (ap (λ (n : ℕ). choose (eqb n 0) out₂ kept) (form_count (made_form m₁) ∙ one_held) ∙ done_with kept r₂) in
    clash ((((demand_2.tells m₁).label 3 (omega arith)).exactly 1).0 ((((d.tells w₂).label 3 (omega arith)).exactly 1).1 one_smallest)).has first_carries_not

-- ---- a made-up depth
made_up_depth : Depths deep → ⊥
made_up_depth d =
    let o : open_of 0 0 ≡ answer Done (start_store 0 0) = opens_at 0 0 zero-le zero-le in
    let m : Made deep 0 0 [] (deeper (answer Done (start_store 0 0))).store = opened (ap deeper o) in
    let k : ℕ = (start_store 0 0).lists.depth in
    (d.depth m).least k (omega arith) (demand_2.tells (opened o)).depth.agrees

any_made_up : (C : Calls) {A M : ℕ} {H : List Justification} {s : Store} → Made C A M H s → (IsDepth A (A + M) H s.lists.depth → ⊥) → Demand2 C → ⊥
any_made_up C m n d = n (d.tells m).depth

too_deep : ((A M : ℕ) (H : List Justification) (s : Store) → Made deep A M H s → s.lists.depth ≤ length (consequents H)) → ⊥
too_deep f =
    let t : Store = (deeper (answer Done (start_store 0 0))).store in
    omega (arith, f 0 0 [] t (opened (ap deeper (opens_at 0 0 zero-le zero-le))), consequents_length [])

-- ---- wrong in one call: falsity from assumption 1

abbrev against : Justification
against = justification_of 1 0 (1 ∷ [])

abbrev after : Outcome
after = add_of (open_of 1 0).store 0 (1 ∷ [])

open_with : open_of 1 0 ≡ answer Done (open_of 1 0).store
open_with = done_with (open_of 1 0) (demand_2.opens 1 0 (omega arith) (omega arith))

against_with : after ≡ answer Done after.store
against_with = done_with after p_cases.struck_done

against_says : (contradicts (against ∷ []) 1 ≡ true) × (carries (against ∷ []) 1 1 ≡ false)
unfolding carries contradicts follows among digit some_of gives all_of set_of those numbers_below
against_says = (refl, refl)

-- .. the label of 1 keeps {1}

one_kept : (bad : List ℕ) → label_held (lists_of 1 (unstruck 1 1 (from 0 (1 ∷ []) ∷ []) 1 bad)) 1 ≡ 1 ∷ []
unfolding lists_of table numbers_to numbers_below those minimal follows among digit within gives some_of all_of listing by_size ones
one_kept bad = refl

any_kept : (a n k : ℕ) (J : List Justification) (bad : List ℕ) → a ≡ 1 → n ≡ 1 → k ≡ 1 → J ≡ from 0 (1 ∷ []) ∷ [] → label_held (lists_of k (unstruck a n J k bad)) 1 ≡ 1 ∷ []
any_kept a n k J bad p q r s =
    ap₂ (λ (x y : ℕ). label_held (lists_of k (unstruck x y J k bad)) 1) p q ∙ ap₂ (λ (x : ℕ) (K : List Justification). label_held (lists_of x (unstruck 1 1 K x bad)) 1) r s
    ∙ one_kept bad

against_held : in_order (from 0 (1 ∷ []) ∷ []) ≡ from 0 (1 ∷ []) ∷ []
unfolding in_order some_of put
against_held = refl

strikes_nothing : Demand2 lenient → ⊥
strikes_nothing d =
    let s : Store = after.store in
    let t : Store = record { held = s.held; lists = unstruck_lists s } in
    let f : Form 1 0 (from 0 (1 ∷ []) ∷ []) s = made_form p_cases.struck_made in
    let w : Made lenient 1 0 (against ∷ []) t = added 0 (1 ∷ []) (opened open_with) (ap sparing against_with) in
    let e : label_held t.lists 1 ≡ 1 ∷ [] =
    any_kept s.held.assumptions (top s.held) s.lists.depth (said_by s.held) (nogoods_held s.lists) (form_a f) (ap₂ (λ (a m : ℕ). a + m) (form_a f) (form_m f))
    p_cases.struck_lists.depth (form_said f ∙ against_held) in
    clash ((((d.tells w).label 1 (omega arith)).exactly 1).0 (subst (Mem 1) (sym e) (here refl))).has against_says.1

-- .. {1} is called supported or unsupported, never inconsistent

never_inconsistent : (l : Lists) (n E : ℕ) (a : Result Answer Reply) → plain (forgetting l n E a) ≡ 2 → ⊥
never_inconsistent l n E (Ok (Supported F)) e = omega arith
never_inconsistent l n E (Ok Unsupported) e = omega arith
never_inconsistent l n E (Err r) e = omega arith
never_inconsistent l n E (Ok (Inconsistent G)) e = go (first_in (label_held l n) E) e
  where
    go : (m : Option ℕ) → plain (Ok (reasoned None m)) ≡ 2 → ⊥
    go (Some F) e = omega arith
    go None e = omega arith

forgets_nogoods : Demand2 forgetful → ⊥
forgets_nogoods d =
    let s : Store = after.store in
    let w : Made forgetful 1 0 (against ∷ []) s = added 0 (1 ∷ []) (opened open_with) against_with in
    never_inconsistent s.lists 1 1 (question_of s 1 1) (told d w 1 1 (omega arith) (omega arith) ∙ struck (against ∷ []) 1 1 against_says.0)

-- ---- calls every table full: claim 2 from assumption 1 fits

calls_all_full : Demand2 always_full → ⊥
calls_all_full = adds_none always_full (λ s c l e. let z : ◌≡◌ {A = ℕ} 9 0 = ap number_of e in omega arith)

-- ---- reads no list: the justifications of one made store with the lists of another. Nothing is held, yet the label of 2 has {1}

abbrev pub bare : Store
bare = (open_of 1 1).store

abbrev pub listed : Store
listed = (add_of bare 2 (1 ∷ [])).store

abbrev pub forged : Store
forged = record { held = bare.held; lists = listed.lists }

first_sound : fault_of 2 2 (1 ∷ []) ≡ Done
unfolding fault_of some_of
first_sound = refl

pub made_bare : Made ours 1 1 [] bare
made_bare = made_open 1 1 (omega arith) (omega arith)

pub made_listed : Made ours 1 1 (first 1 ∷ []) listed
made_listed = one_made 1 1 2 (1 ∷ []) (omega arith) (omega arith) first_sound

same_counts : (listed.held.assumptions ≡ bare.held.assumptions) × (top listed.held ≡ top bare.held)
same_counts =
    let f = made_form made_bare in
    let g = made_form made_listed in
    (form_a g ∙ sym (form_a f), omega (arith, form_a f, form_m f, form_a g, form_m g))

pub forged_right : right_shape forged ≡ true
unfolding right_shape
forged_right =
    and_intro (and_left (held_fits bare.held) _ (made_right made_bare))
    (sym (ap₂ (lists_right listed.lists) same_counts.0 same_counts.1) ∙ and_right (held_fits listed.held) _ (made_right made_listed))

-- 2 and {1} are in range
unrefused : {H : List Justification} {s : Store} → Form 1 1 H s → ShapedRows s (question 2 1) 0
unrefused {s = s} f = passes ℕ _ _ 0 _ (⊎_elim (λ (p : top s.held < 2). omega (arith, form_a f, form_m f)) (in_set f 1 (omega arith))) refl

supported_as_listed : plain (Ok (standing listed.lists 2 1)) ≡ 1
supported_as_listed = standing_plain (made_form made_listed) 2 1 (omega arith) (omega arith) ∙ carried (first 1 ∷ []) 1 2 first_carries

unsupported_anew : plain (Ok (worked_out bare.held 2 1)) ≡ 0
unsupported_anew =
    let f = made_form made_bare in
    ap (λ (l : Lists). plain (Ok (standing l 2 1))) (lists_again f) ∙ standing_plain f 2 1 (omega arith) (omega arith) ∙ none_byte

-- ---- withdraws the rule and keeps the lists, or the count

abbrev rest : List Justification
rest = dropped (first 1) (first 1 ∷ [])

rest_none : rest ≡ []
unfolding dropped those same_justification same_sets alike set_of some_of numbers_below
rest_none = refl

first_carries_none : carries (first 1 ∷ []) 0 2 ≡ false
unfolding carries contradicts follows among digit some_of gives all_of set_of those numbers_below
first_carries_none = refl

first_smallest : Smallest 1 (λ E. carries (first 1 ∷ []) E 2) 1
first_smallest = record {
  range = omega arith;
  has = first_carries;
  no_smaller = λ F w c.
      ⊎_elim (λ (e : F ≡ 1). e)
      (λ (h : F < 1). let z : F ≡ 0 = omega arith in clash (subst (λ (G : ℕ). carries (first 1 ∷ []) G 2 ≡ true) z c) first_carries_none)
      (eq-or-lt_of_le (within_le F 1 w));
}

pub listed_done : add_of bare 2 (1 ∷ []) ≡ answer Done listed
listed_done = done_with (add_of bare 2 (1 ∷ [])) (one_done 1 1 2 (1 ∷ []) (omega arith) (omega arith) first_sound)

pub bare_done : open_of 1 1 ≡ answer Done bare
bare_done = done_with (open_of 1 1) (ap (λ (o : Outcome). o.reply) (opens_at 1 1 (omega arith) (omega arith)))

withdrawn_done : (withdraw_of listed 2 (1 ∷ [])).reply ≡ Done
withdrawn_done = ((demand_2.tells made_listed).withdrawing 2 (1 ∷ []) Done).1 (lets_go 1 1 2 (1 ∷ []) first_sound (here refl) (few_room 1 2 rest (omega arith)))

withdraws_no_list : Demand2 emptying → ⊥
withdraws_no_list d =
    let o : Outcome = lists_kept listed (withdraw_of listed 2 (1 ∷ [])) in
    let w : Made emptying 1 1 rest o.store = withdrawn 2 (1 ∷ []) (added 2 (1 ∷ []) (opened bare_done) listed_done) (done_with o withdrawn_done) in
    let m : Mem 1 (label_held listed.lists 2) = (((demand_2.tells made_listed).label 2 (omega arith)).exactly 1).1 first_smallest in
    clash ((((d.tells w).label 2 (omega arith)).exactly 1).0 m).has (ap (λ (J : List Justification). carries J 1 2) rest_none ∙ none_carries.1)

none_left : length (in_order rest) ≡ 0
unfolding in_order
none_left = ap (λ (J : List Justification). length (in_order J)) rest_none

first_left : length (in_order (first 1 ∷ [])) ≡ 1
unfolding in_order some_of put
first_left = refl

frees_no_place : Stores not_freed → ⊥
frees_no_place d =
    let x : Outcome = withdraw_of listed 2 (1 ∷ []) in
    let o : Outcome = count_kept listed x in
    let w : Made not_freed 1 1 rest o.store = withdrawn 2 (1 ∷ []) (added 2 (1 ∷ []) (opened bare_done) listed_done) (done_with o withdrawn_done) in
    let f = made_form (withdrawn 2 (1 ∷ []) made_listed (done_with x withdrawn_done)) in
    let e : x.store ≡ o.store = done_store x.store o.store (sym f.store ∙ (d.holds w).store) in
    let n : listed.held.count ≡ 0 = sym (ap (λ (s : Store). s.held.count) e) ∙ form_count f ∙ none_left in
    omega (arith, form_count (made_form made_listed), first_left, n)

-- ---- withdraws every rule of the consequent: 2 from 1 goes with 2 from nothing

abbrev pub premise : Justification
premise = justification_of 2 2 []

sizes : (length premise.supports ≡ 0) × (length (first 1).supports ≡ 1)
unfolding set_of those some_of numbers_below
sizes = (refl, refl)

premise_reaches : Reaches 1 1 (first 1 ∷ []) 2 []
unfolding fault_of some_of
premise_reaches = record {
  sound = refl;
  new = λ m. let z : ◌≡◌ {A = ℕ} 0 1 = sym sizes.0 ∙ ap (λ (j : Justification). length j.supports) (Memᴰ.eq_of_singleton m) ∙ sizes.1 in omega arith;
  room = omega (arith, first_left);
}

abbrev pub double : Store
double = (add_of listed 2 []).store

pub double_done : add_of listed 2 [] ≡ answer Done double
double_done = done_with (add_of listed 2 []) (add_done made_listed 2 [] premise_reaches (omega arith))

pub made_double : Made ours 1 1 (premise ∷ first 1 ∷ []) double
made_double = made_add made_listed 2 [] premise_reaches (omega arith)

abbrev single : List Justification
single = dropped premise (premise ∷ first 1 ∷ [])

single_left : length (in_order single) ≡ 1
unfolding dropped those same_justification same_sets alike set_of some_of numbers_below in_order put
single_left = refl

cleared : others_than 2 (in_order (premise ∷ first 1 ∷ [])) ≡ []
unfolding dropped those same_justification same_sets alike set_of some_of numbers_below in_order put ahead lesser
cleared = refl

single_done : (withdraw_of double 2 []).reply ≡ Done
single_done = ((demand_2.tells made_double).withdrawing 2 [] Done).1 (lets_go 1 1 2 [] premise_reaches.sound (here refl) (few_room 1 2 single (omega arith)))

none_stored : (s : Store) → store_of s 1 1 [] ≡ answer Done (start_store 1 1)
unfolding store_of
none_stored s = done_by no_store s (start_store 1 1) (held_of 1 1 []) (judge limits 1 2 []) (none_store 1 1)

none_held : (start_store 1 1).held.count ≡ 0
unfolding start_store held_of
none_held = refl

clears_a_consequent : Stores clearing → ⊥
clears_a_consequent d =
    let x : Outcome = withdraw_of double 2 [] in
    let g = made_form made_double in
    let e : clearing.withdrawing double 2 [] ≡ answer Done (start_store 1 1) =
    ap (λ (r : Reply). choose (is_done r) (store_of double double.held.assumptions double.held.claims (others_than 2 (said_by double.held))) x) single_done
    ∙ ap₂ (λ (a m : ℕ). store_of double a m (others_than 2 (said_by double.held))) (form_a g) (form_m g)
    ∙ ap (λ (J : List Justification). store_of double 1 1 (others_than 2 J)) (form_said g) ∙ ap (store_of double 1 1) cleared ∙ none_stored double in
    let w : Made clearing 1 1 single (start_store 1 1) = withdrawn 2 [] (added 2 [] (added 2 (1 ∷ []) (opened bare_done) listed_done) double_done) e in
    let f = made_form (withdrawn 2 [] made_double (done_with x single_done)) in
    let u : x.store ≡ start_store 1 1 = done_store x.store (start_store 1 1) (sym f.store ∙ (d.holds w).store) in
    omega (arith, sym (form_count f) ∙ ap (λ (s : Store). s.held.count) u ∙ none_held, single_left)

reads_no_list : AsTheyStand deducing → ⊥
reads_no_list d =
    let w : ShapedRows forged (question 2 1) 0 = unrefused (made_form made_bare) in
    let read : (ours.reading forged (question 2 1)).said ≡ Ok (standing listed.lists 2 1) = ap (λ (a : Read (question 2 1)). a.said) ((as_they_stand.stands forged forged_right).reading (question 2 1) w) in
    let said : (deducing.reading forged (question 2 1)).said ≡ Ok (standing listed.lists 2 1) = ap (λ (a : Read (question 2 1)). a.said) ((d.stands forged forged_right).reading (question 2 1) w) in
    let worked : (deducing.reading forged (question 2 1)).said ≡ Ok (worked_out bare.held 2 1) =
    ap (λ (k : ℕ). choose (eqb k 0) (Ok (worked_out bare.held 2 1)) (question_of forged 2 1)) (ap answer_number read ∙ standing_zero listed.lists 2 1) in
    not_both (deducing.reading forged (question 2 1)).said (ap plain said ∙ supported_as_listed) (ap plain worked ∙ unsupported_anew)

-- ---- answers the plain question from the labels: of the same forged store

-- the byte of a word, 0 of a refusal
abbrev word_number : Result Plain Reply → ℕ
word_number (Ok w) = plain_byte w
word_number (Err r) = 0

word_byte : (a : Result Answer Reply) → word_number (word_alone a) ≡ plain a
word_byte (Ok (Inconsistent G)) = refl
word_byte (Ok (Supported F)) = refl
word_byte (Ok Unsupported) = refl
word_byte (Err r) = refl

nothing_follows : plain_byte (plainWord (in_order []) 1 2) ≡ 0
unfolding plainWord carries contradicts follows among digit some_of in_order
nothing_follows = refl

reads_labels : AsTheyStand from_labels → ⊥
reads_labels d =
    let f = made_form made_bare in
    let w : ShapedRows forged (question 2 1) 0 = unrefused f in
    let read : question_of forged 2 1 ≡ Ok (standing listed.lists 2 1) = ap (λ (a : Read (question 2 1)). a.said) ((as_they_stand.stands forged forged_right).reading (question 2 1) w) in
    let said : word_alone (question_of forged 2 1) ≡ Ok (plainWord (said_by bare.held) 1 2) = ap (λ (a : Read (plainly 2 1)). a.said) ((d.stands forged forged_right).reading (plainly 2 1) w) in
    not_both (question_of forged 2 1) (ap plain read ∙ supported_as_listed)
    (sym (word_byte (question_of forged 2 1)) ∙ ap word_number said ∙ ap (λ (J : List Justification). plain_byte (plainWord J 1 2)) (form_said f) ∙ nothing_follows)

-- ---- holds what names its own consequent as a support: claim 1 from itself

abbrev itself : Justification
itself = justification_of 1 1 (1 ∷ [])

holds_its_own : Stores welcoming → ⊥
unfolding some_of set_of those numbers_below start_store held_of
holds_its_own d =
    let s : Store = start_store 0 1 in
    let m : Made welcoming 0 1 (itself ∷ []) (holding s itself) = added 1 (1 ∷ []) (opened (opens_at 0 1 (omega arith) (omega arith))) refl in
    d.no_own m itself (((d.holds m).members itself).1 (here refl)) (here refl)

pub refuted : Refuted
refuted = record {
  stops_at_the_depth = stops_at_the_depth;
  calls_all_contradicted = calls_all_contradicted;
  refuses = refuses;
  refuses_table = refuses_table;
  adds_none = adds_none;
  loads_none = loads_none;
  denies = denies;
  adds_nothing = adds_nothing;
  stages_once = stages_once;
  made_up_depth = made_up_depth;
  too_deep = too_deep;
  any_made_up = any_made_up;
  keeps_arrival = keeps_arrival;
  strikes_nothing = strikes_nothing;
  judges_prefixes = judges_prefixes;
  forgets_nogoods = forgets_nogoods;
  calls_all_full = calls_all_full;
  stops_at_falsity = stops_at_falsity;
  names_the_asked = names_the_asked;
  names_the_last = names_the_last;
  holds_its_own = holds_its_own;
  stops_at_a_refusal = stops_at_a_refusal;
  judges_at_once = judges_at_once;
  withdraws_no_list = withdraws_no_list;
  clears_a_consequent = clears_a_consequent;
  frees_no_place = frees_no_place;
  reads_labels = reads_labels;
  reads_labels_untold = plain_path_labelled;
  reads_no_list = reads_no_list;
  reads_no_list_untold = (refusals_too, demand_2_too, demand_3_too, stores_too, one_by_one_too, plain_path_too);
}
