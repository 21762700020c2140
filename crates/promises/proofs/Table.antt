-- The reply table of our calls. Assumes nothing.
use Rattle.promises.proofs.Keeping.{lines_number}
use Rattle.std.specs.Prelude.{Result, Ok, Err}
use Rattle.bare.specs.declared.Told.{Told}
use mathlib.Core.Bool.{Bool, ◌||◌, false, not, true}
use mathlib.Core.List.Memᴰ
use mathlib.Core.List.Memᴰ.{head as here}
use mathlib.Core.List.Memᴰ.{tail as there}
use mathlib.Core.List.{List, Memᴰ as Mem, [], ◌++◌, ◌∷◌}
use mathlib.Core.Logic.{◌⊎◌, inl, inr, ⊎_elim}
use mathlib.Core.Option.{Option, none, some}
use mathlib.Core.Path.{◌≡◌, ap₂, refl, subst, sym}
use Prim.Native.Nat.{◌+◌, ◌<◌, ◌^◌, ◌≤◌, ℕ}
use native.Mathlib.Omega.{arith}
use lib.Dec.{eqb, leb, ltb}
use lib.ListN.{drop, get_or, length}
use borrow.Author.Tests.{eq-eqb, le-ltb, ltb-false, not-false, not-true}
use Rattle.asking.specs.Asking.{answer_number, context_reply, first_in, member_at, member_number, member_of, question_of, reasoned, standing}
use Rattle.bare.specs.Bare.{Answered, answered, ask_of, barely, faults_of, tell_of, told_number, wrote_as, in_kind, said_as}
use Rattle.bare.specs.declared.Query.{Query}
use Rattle.bare.specs.declared.Told.TheVariants.{Filled, Word, Lines}
use Rattle.bare.specs.declared.What.{What}
use Rattle.bare.specs.declared.What.TheVariants.{Context, Number as Of, Stages}
use Rattle.casefile.specs.Load.{load_of}
use Rattle.handed.specs.Supplied.{supplied_by}
use Rattle.handed.specs.declared.Handed.{Handed}
use Rattle.lent.specs.Lent.{Wrote, fitted, kept, written_number}
use Rattle.std.proofs.Common.{Ok}
use Rattle.lines.specs.Lines.{case_text, heading_of, line_of, line_text, refusal_text}
use Rattle.numbers.specs.Numbers.{number_at}
use Rattle.plain.specs.Plainly.{plain_by, plain_number, plain_of}
use Rattle.plain.specs.declared.Plain.TheVariants.{Inconsistent, Supported, Unsupported}
use Rattle.promises.proofs.Filing.{decode_one, decode_told, load_names, load_one, load_told, report_of}
use Rattle.promises.proofs.Full.{VerdictSays, judge_says}
use Rattle.promises.proofs.Rows.{Names, Tests, by_choice, exactly, fault_told, given_one, less_test, most_test, names_choice, no_row_one, not_test, or_test, outside_test, stages_name, stages_one, stages_told, unnamed}
use Rattle.promises.proofs.Telling.{covered}
use Rattle.promises.specs.Calls.{Ask, case_line, context, file, line, list_all, member, number_said, ours, plain_context, plainly, question, read_of, stage_lines}
use Rattle.promises.specs.Once.{One}
use Rattle.promises.specs.Room.{LabelFull}
use Rattle.promises.specs.Rows.{given, no_row}
use Rattle.promises.specs.Table.{AddRows, AllRows, AskRows, AskedOver, BareRows, DecodeRows, ItemRows, JudgeRows, LoadRows, OpenRows, PrintRows, RefusalRows, ReplyTable, ShapedRows, StageRows, TooFew, WithdrawRows, enlarged, handed, lessened, reported}
use Rattle.replies.proofs.Laws.{no_ten}
use Rattle.replies.specs.Replies.{number_of}
use Rattle.replies.specs.declared.Reply.{Reply}
use Rattle.replies.specs.declared.Reply.TheVariants.{Already, Counts, Done, Falsity, Full, Itself, Number, Place, Shape, Short, Supports, Unheld}
use Rattle.holding.proofs.Dropping.{dropped_from}
use Rattle.rules.proofs.Laws.{Ranged, faultless_ranged, right_range}
use Rattle.rules.proofs.Order.{mem_same, same_mem}
use Rattle.holding.proofs.Putting.{put_cases, put_new, put_old}
use Rattle.rules.specs.Held.{held_of, put, said_by}
use Rattle.rules.specs.Items.{fault_of, same_justification}
use Rattle.rules.specs.declared.Held.{Held}
use Rattle.season.specs.Season.{add_all_of, added_all}
use Rattle.stages.specs.declared.Lists.{Lists}
use Rattle.stagetext.specs.Stagetext.{stage_text, stages_of}
use Rattle.store.proofs.Shapes.{fits_elim, shape_elim}
use Rattle.store.specs.Calls.{add_of, answer, is_done, joined_by, judged_of, no_store, open_of, parted_from, start_store, store_of, withdraw_of}
use Rattle.store.specs.Reading.{label_held, list_held, nogoods_held}
use Rattle.store.specs.Shape.{held_fits, right_shape, top}
use Rattle.store.specs.declared.Outcome.{Outcome}
use Rattle.store.specs.declared.Store.{Store}
use Rattle.theory.proofs.Lists.{clash}
use Rattle.theory.proofs.Judgement.{same_judge}
use Rattle.theory.specs.Demands.{carries, contradicts}
use Rattle.theory.specs.Judge.{Verdict, judge}
use Rattle.theory.specs.Limits.{limits, over_counts}
use Rattle.theory.specs.Lists.{choose, some_of}
use Rattle.theory.specs.Sets.{in_range}
use Rattle.theory.specs.Stages.{Justification}
use Rattle.listing.specs.Listing.{listed_of, listing_of, listing_text}
use Rattle.writing.specs.Writing.{file_of, write_of}
use Rattle.promises.proofs.Decoding.{decode_onward}

abbrev replied : Outcome → ℕ
replied o = number_of o.reply

abbrev wrote : Wrote → ℕ
wrote w = written_number w.answer

-- ---- open

open_told : (A M : ℕ) → OpenRows A M (replied (open_of A M))
unfolding open_of
open_told A M = by_choice no_row replied (over_counts A M) (answer Counts no_store) (answer Done (start_store A M)) (or_test (less_test limits.assumptions A) (less_test limits.claims M)) refl (λ z. refl)

-- ---- add

module _ (s : Store) (c : ℕ) (l : List ℕ) where
  abbrev A : ℕ
  A = s.held.assumptions

  abbrev N : ℕ
  N = top s.held

  abbrev J : List Justification
  J = said_by s.held

  abbrev j : Justification
  j = handed s c l

  held_test : Tests (some_of (same_justification j) J) (Mem j J)
  held_test = record { so = λ h. same_mem j J h; not_so = λ h m. clash (mem_same j J m) h }

  module _ (right : right_shape s ≡ true) (sound : fault_of N c l ≡ Done) where
    in_range_lem : (i : Justification) → Mem i (j ∷ J) → Ranged N i
    in_range_lem i m =
        ⊎_elim (λ (q : i ≡ j). subst (Ranged N) (sym q) (faultless_ranged N c l sound)) (λ k. right_range s.held (shape_elim s right).0.right i k) (Memᴰ.cases_cons m)

    verdict : Verdict
    verdict = judge limits A N (put j J)

    judged : VerdictSays A N (j ∷ J) verdict
    unfolding verdict
    judged =
        judge_says A N (j ∷ J) (λ i m t k. ((in_range_lem i m).between t k).1) verdict
        (same_judge (j ∷ J) (put j J) (covered (λ i m. ⊎_elim (λ (q : i ≡ j). subst (λ (x : Justification). Mem x (put j J)) (sym q) (put_new j J)) (λ k. put_old j k) (Memᴰ.cases_cons m)))
        (covered (λ i m. ⊎_elim (λ q. here q) (λ k. there k) (put_cases j J m))) limits A N)

    abbrev stored : Outcome
    stored = store_of s A s.held.claims (put j J)

    stored_told : StageRows A N (enlarged s c l) (replied stored)
    unfolding store_of verdict
    stored_told = stages_told A N (j ∷ J) s (held_of A s.held.claims (put j J)) verdict judged

    stored_names : Names (LabelFull A N (enlarged s c l)) stored.reply
    unfolding store_of verdict
    stored_names = stages_name A N (j ∷ J) s (held_of A s.held.claims (put j J)) verdict judged

    abbrev unless_full : Outcome
    unless_full = choose (leb limits.held s.held.count) (answer Full s) stored

    join_told : given (Mem j J) 1 (given (limits.held ≤ s.held.count) 7 (StageRows A N (enlarged s c l))) (replied (joined_by s j))
    unfolding joined_by
    join_told =
        by_choice _ replied (some_of (same_justification j) J) (answer Already s) unless_full held_test refl
        (λ p. by_choice _ replied (leb limits.held s.held.count) (answer Full s) stored (most_test limits.held s.held.count) refl (λ q. stored_told))

    join_names : Names (LabelFull A N (enlarged s c l)) (joined_by s j).reply
    unfolding joined_by
    join_names =
        names_choice _ (λ (o : Outcome). o.reply) (some_of (same_justification j) J) (answer Already s) unless_full (unnamed _ Already refl (λ z. omega arith))
        (λ p. names_choice _ (λ (o : Outcome). o.reply) (leb limits.held s.held.count) (answer Full s) stored (unnamed _ Full refl (λ z. omega arith)) (λ q. stored_names))

  abbrev unless_fault : Reply → Outcome
  unless_fault x = choose (not (is_done x)) (answer x s) (joined_by s j)

  add_told : AddRows s c l (replied (add_of s c l))
  unfolding add_of
  add_told =
      by_choice _ replied (not (right_shape s)) (answer Shape s) (unless_fault (fault_of N c l)) (not_test (right_shape s)) refl
      (λ p. fault_told N c l (λ x. replied (unless_fault x)) _ 4 5 17 refl refl refl (λ d. join_told (not-false (right_shape s) p) d) 6 refl)

  add_names : Names (LabelFull A N (enlarged s c l)) (add_of s c l).reply
  unfolding add_of fault_of
  add_names =
      let f : Reply → Reply = λ x. (unless_fault x).reply in
      names_choice _ (λ (o : Outcome). o.reply) (not (right_shape s)) (answer Shape s) (unless_fault (fault_of N c l)) (unnamed _ Shape refl (λ z. omega arith))
      (λ p. names_choice _ f (ltb limits.supports (length l)) Supports _ (unnamed _ Supports refl (λ z. omega arith))
      (λ (q₁ : ltb limits.supports (length l) ≡ false). names_choice _ f (ltb N c || some_of (ltb N) l) Number _ (unnamed _ Number refl (λ z. omega arith))
      (λ (q₂ : ltb N c || some_of (ltb N) l ≡ false). names_choice _ f (some_of (eqb 0) l) Falsity _ (unnamed _ Falsity refl (λ z. omega arith))
      (λ (q₃ : some_of (eqb 0) l ≡ false). names_choice _ f (some_of (eqb c) l) Itself Done (unnamed _ Itself refl (λ z. omega arith))
      (λ (q₄ : some_of (eqb c) l ≡ false). join_names (not-false (right_shape s) p) (rw (q₁, q₂, q₃, q₄)))))))

  add_one : One (AddRows s c l)
  add_one = given_one _ _ _ (given_one _ _ _ (given_one _ _ _ (given_one _ _ _ (given_one _ _ _ (given_one _ _ _ (given_one _ _ _ (stages_one A N (enlarged s c l))))))))

-- ---- withdraw

module _ (s : Store) (c : ℕ) (l : List ℕ) where
  abbrev B : ℕ
  B = s.held.assumptions

  abbrev most : ℕ
  most = top s.held

  abbrev i : Justification
  i = handed s c l

  abbrev I : List Justification
  I = said_by s.held

  abbrev K : List Justification
  K = lessened s c l

  unheld_test : Tests (not (some_of (same_justification i) I)) (Mem i I → ⊥)
  unheld_test = record {
    so = λ h m. clash (mem_same i I m) (not-true (some_of (same_justification i) I) h);
    not_so = λ h n. n (same_mem i I (not-false (some_of (same_justification i) I) h));
  }

  module _ (right : right_shape s ≡ true) where
    less_range : (j : Justification) → Mem j K → Ranged most j
    less_range j m = right_range s.held (shape_elim s right).0.right j (dropped_from i I m)

    less_judged : VerdictSays B most K (judge limits B most K)
    less_judged = judge_says B most K (λ j m t k. ((less_range j m).between t k).1) (judge limits B most K) refl

    abbrev left_over : Outcome
    left_over = store_of s B s.held.claims K

    less_told : StageRows B most K (replied left_over)
    unfolding store_of
    less_told = stages_told B most K s (held_of B s.held.claims K) (judge limits B most K) less_judged

    less_names : Names (LabelFull B most K) left_over.reply
    unfolding store_of
    less_names = stages_name B most K s (held_of B s.held.claims K) (judge limits B most K) less_judged

    part_told : given (Mem i I → ⊥) 18 (StageRows B most K) (replied (parted_from s i))
    unfolding parted_from
    part_told = by_choice _ replied (not (some_of (same_justification i) I)) (answer Unheld s) left_over unheld_test refl (λ p. less_told)

    part_names : Names (LabelFull B most K) (parted_from s i).reply
    unfolding parted_from
    part_names = names_choice _ (λ (o : Outcome). o.reply) (not (some_of (same_justification i) I)) (answer Unheld s) left_over (unnamed _ Unheld refl (λ z. omega arith)) (λ p. less_names)

  abbrev fault_else : Reply → Outcome
  fault_else x = choose (not (is_done x)) (answer x s) (parted_from s i)

  withdraw_told : WithdrawRows s c l (replied (withdraw_of s c l))
  unfolding withdraw_of
  withdraw_told =
      by_choice _ replied (not (right_shape s)) (answer Shape s) (fault_else (fault_of most c l)) (not_test (right_shape s)) refl
      (λ p. fault_told most c l (λ x. replied (fault_else x)) _ 4 5 17 refl refl refl (λ d. part_told (not-false (right_shape s) p)) 6 refl)

  withdraw_names : Names (LabelFull B most K) (withdraw_of s c l).reply
  unfolding withdraw_of fault_of
  withdraw_names =
      let f : Reply → Reply = λ x. (fault_else x).reply in
      names_choice _ (λ (o : Outcome). o.reply) (not (right_shape s)) (answer Shape s) (fault_else (fault_of most c l)) (unnamed _ Shape refl (λ z. omega arith))
      (λ p. names_choice _ f (ltb limits.supports (length l)) Supports _ (unnamed _ Supports refl (λ z. omega arith))
      (λ q₁. names_choice _ f (ltb most c || some_of (ltb most) l) Number _ (unnamed _ Number refl (λ z. omega arith))
      (λ q₂. names_choice _ f (some_of (eqb 0) l) Falsity _ (unnamed _ Falsity refl (λ z. omega arith))
      (λ q₃. names_choice _ f (some_of (eqb c) l) Itself Done (unnamed _ Itself refl (λ z. omega arith))
      (λ q₄. part_names (not-false (right_shape s) p))))))

  withdraw_one : One (WithdrawRows s c l)
  withdraw_one = given_one _ _ _ (given_one _ _ _ (given_one _ _ _ (given_one _ _ _ (given_one _ _ _ (given_one _ _ _ (stages_one B most K))))))

-- ---- judging what is held

module _ (h : Held) where
  module _ (fits : held_fits h ≡ true) where
    judged_says : VerdictSays h.assumptions (top h) (said_by h) (judge limits h.assumptions (top h) (said_by h))
    judged_says =
        let f = fits_elim h fits in
        judge_says h.assumptions (top h) (said_by h) (λ j m t k. ((right_range h f.right j m).between t k).1) (judge limits h.assumptions (top h) (said_by h)) refl

    judged_told : StageRows h.assumptions (top h) (said_by h) (replied (store_of no_store h.assumptions h.claims (said_by h)))
    unfolding store_of
    judged_told =
        stages_told h.assumptions (top h) (said_by h) no_store (held_of h.assumptions h.claims (said_by h)) (judge limits h.assumptions (top h) (said_by h)) judged_says

    judged_named : Names (LabelFull h.assumptions (top h) (said_by h)) (store_of no_store h.assumptions h.claims (said_by h)).reply
    unfolding store_of
    judged_named = stages_name h.assumptions (top h) (said_by h) no_store (held_of h.assumptions h.claims (said_by h)) (judge limits h.assumptions (top h) (said_by h)) judged_says

  judge_told : JudgeRows h (replied (judged_of h))
  unfolding judged_of
  judge_told = by_choice _ replied (not (held_fits h)) (answer Shape no_store) (store_of no_store h.assumptions h.claims (said_by h)) (not_test (held_fits h)) refl (λ p. judged_told (not-false (held_fits h) p))

  judge_names : Names (LabelFull h.assumptions (top h) (said_by h)) (judged_of h).reply
  unfolding judged_of
  judge_names =
      names_choice _ (λ (o : Outcome). o.reply) (not (held_fits h)) (answer Shape no_store) (store_of no_store h.assumptions h.claims (said_by h)) (unnamed _ Shape refl (λ z. omega arith))
      (λ p. judged_named (not-false (held_fits h) p))

-- ---- add a list

all_told : (s : Store) (l : List Handed) (out : List ℕ) → AllRows s l out (replied (add_all_of s l out))
unfolding add_all_of
all_told s l out =
    by_choice _ replied (not (right_shape s)) (answer Shape s) (choose (ltb (length out) (length l)) (answer Short s) (answer Done (added_all s l))) (not_test (right_shape s)) refl
    (λ p. by_choice no_row replied (ltb (length out) (length l)) (answer Short s) (answer Done (added_all s l)) (less_test (length out) (length l)) refl (λ z. refl))

-- ---- the calls that read

fitted_told : (t out : List ℕ) → given (length out < length t) 15 no_row (wrote (fitted t out))
unfolding fitted
fitted_told t out = by_choice no_row wrote (ltb (length out) (length t)) (kept Short out) (record { answer = Ok (length t); bytes = t ++ drop (length t) out }) (less_test (length out) (length t)) refl (λ z. refl)

-- none of the three answers is a refusal
pub standing_zero : (l : Lists) (n E : ℕ) → answer_number (Ok (standing l n E)) ≡ 0
standing_zero l n E = refl

pub plain_zero : (J : List Justification) (E n : ℕ) → plain_number (Ok (plain_by J E n)) ≡ 0
plain_zero J E n = refl

module _ (s : Store) where
  read_told : (a : Ask) → AskRows s a (number_said a (read_of s a).said)
  unfolding question_of context_reply member_of member_at line_of heading_of listed_of write_of plain_of stages_of
  read_told (question n E) =
      let out : Bool = ltb (top s.held) n || not (in_range s.held.assumptions E) in
      by_choice _ answer_number (not (right_shape s)) (Err Shape) (choose out (Err Number) (Ok (standing s.lists n E))) (not_test (right_shape s)) refl
      (λ p. by_choice no_row answer_number out (Err Number) (Ok (standing s.lists n E)) (or_test (less_test (top s.held) n) (outside_test s E)) refl (λ q. standing_zero s.lists n E))
  read_told (context E out) =
      by_choice _ number_of (not (right_shape s)) Shape (choose (not (in_range s.held.assumptions E)) Number (choose (ltb (length out) (top s.held + 1)) Short Done)) (not_test (right_shape s)) refl
      (λ p. by_choice _ number_of (not (in_range s.held.assumptions E)) Number (choose (ltb (length out) (top s.held + 1)) Short Done) (outside_test s E) refl
      (λ q. by_choice no_row number_of (ltb (length out) (top s.held + 1)) Short Done (less_test (length out) (top s.held + 1)) refl (λ z. refl)))
  read_told (member n place) =
      let l : List ℕ = list_held s.lists n in
      by_choice _ member_number (not (right_shape s)) (Err Shape) (choose (ltb (top s.held) n) (Err Number) (choose (leb (length l) place) (Err Place) (Ok (get_or l place 0)))) (not_test (right_shape s)) refl
      (λ p. by_choice _ member_number (ltb (top s.held) n) (Err Number) (choose (leb (length l) place) (Err Place) (Ok (get_or l place 0))) (less_test (top s.held) n) refl
      (λ q. by_choice no_row member_number (leb (length l) place) (Err Place) (Ok (get_or l place 0)) (most_test (length l) place) refl (λ z. refl)))
  read_told (line n out) =
      let w : Wrote = fitted (line_text s n) out in
      by_choice _ wrote (not (right_shape s)) (kept Shape out) (choose (ltb (top s.held) n) (kept Number out) w) (not_test (right_shape s)) refl
      (λ p. by_choice _ wrote (ltb (top s.held) n) (kept Number out) w (less_test (top s.held) n) refl (λ q. fitted_told (line_text s n) out))
  read_told (case_line out) = by_choice _ wrote (not (right_shape s)) (kept Shape out) (fitted (case_text s) out) (not_test (right_shape s)) refl (λ p. fitted_told (case_text s) out)
  read_told (list_all out) = by_choice _ wrote (not (right_shape s)) (kept Shape out) (fitted (listing_text s) out) (not_test (right_shape s)) refl (λ p. fitted_told (listing_text s) out)
  read_told (file out) = by_choice _ wrote (not (right_shape s)) (kept Shape out) (fitted (file_of s.held) out) (not_test (right_shape s)) refl (λ p. fitted_told (file_of s.held) out)
  read_told (plainly n E) =
      let out : Bool = ltb (top s.held) n || not (in_range s.held.assumptions E) in
      by_choice _ plain_number (not (right_shape s)) (Err Shape) (choose out (Err Number) (Ok (plain_by (said_by s.held) E n))) (not_test (right_shape s)) refl
      (λ p. by_choice no_row plain_number out (Err Number) (Ok (plain_by (said_by s.held) E n)) (or_test (less_test (top s.held) n) (outside_test s E)) refl (λ q. plain_zero (said_by s.held) E n))
  read_told (plain_context E out) =
      by_choice _ number_of (not (right_shape s)) Shape (choose (not (in_range s.held.assumptions E)) Number (choose (ltb (length out) (top s.held + 1)) Short Done)) (not_test (right_shape s)) refl
      (λ p. by_choice _ number_of (not (in_range s.held.assumptions E)) Number (choose (ltb (length out) (top s.held + 1)) Short Done) (outside_test s E) refl
      (λ q. by_choice no_row number_of (ltb (length out) (top s.held + 1)) Short Done (less_test (length out) (top s.held + 1)) refl (λ z. refl)))
  read_told (stage_lines E out) =
      let w : Wrote = fitted (stage_text (top s.held) (said_by s.held) E) out in
      by_choice _ wrote (not (right_shape s)) (kept Shape out) (choose (not (in_range s.held.assumptions E)) (kept Number out) w) (not_test (right_shape s)) refl
      (λ p. by_choice _ wrote (not (in_range s.held.assumptions E)) (kept Number out) w (outside_test s E) refl (λ q. fitted_told (stage_text (top s.held) (said_by s.held) E) out))

  shaped_one : (a : Ask) → One (ShapedRows s a)
  shaped_one (question n E) = given_one _ _ _ no_row_one
  shaped_one (context E out) = given_one _ _ _ (given_one _ _ _ no_row_one)
  shaped_one (member n place) = given_one _ _ _ (given_one _ _ _ no_row_one)
  shaped_one (line n out) = given_one _ _ _ (given_one _ _ _ no_row_one)
  shaped_one (case_line out) = given_one _ _ _ no_row_one
  shaped_one (list_all out) = given_one _ _ _ no_row_one
  shaped_one (file out) = given_one _ _ _ no_row_one
  shaped_one (plainly n E) = given_one _ _ _ no_row_one
  shaped_one (plain_context E out) = given_one _ _ _ (given_one _ _ _ no_row_one)
  shaped_one (stage_lines E out) = given_one _ _ _ (given_one _ _ _ no_row_one)

-- ---- a bare list

module _ (N : ℕ) (g : Reply → ℕ) (e₆ : g Supports ≡ 6) (e₄ : g Number ≡ 4) (e₅ : g Falsity ≡ 5) (e₁₇ : g Itself ≡ 17) (next : ℕ → Type 0) where
  items_told : (l : List Handed) → (faults_of N l ≡ Done → next (g Done)) → ItemRows N l next (g (faults_of N l))
  unfolding ItemRows faults_of
  items_told [] k = k refl
  items_told (h ∷ l) k =
      fault_told N h.consequent (supplied_by h) (λ x. g (choose (is_done x) (faults_of N l) x)) (ItemRows N l next) 4 5 17 e₄ e₅ e₁₇
      (λ d. items_told l (λ r. k (ap₂ (λ (x y : Reply). choose (is_done x) y x) d r))) 6 e₆

items_one : (N : ℕ) (next : ℕ → Type 0) → One next → (l : List Handed) → One (ItemRows N l next)
unfolding ItemRows
items_one N next o [] = o
items_one N next o (h ∷ l) = given_one _ _ _ (given_one _ _ _ (given_one _ _ _ (given_one _ _ _ (items_one N next o l))))

module _ (q : Query) (l : List Handed) (out : List ℕ) where
  abbrev Q : ℕ
  Q = q.assumptions + q.claims

  abbrev answered_by : Answered → ℕ
  answered_by x = told_number x.answer

  abbrev refusal_of_lem : Reply → Answered
  refusal_of_lem r = answered (Err r) out

  set_test : Tests (not (in_range q.assumptions q.set)) (2 ^ q.assumptions ≤ q.set)
  unfolding in_range
  set_test =
      let w : ℕ = 2 ^ q.assumptions in
      record { so = λ h. ltb-false q.set w (not-true (ltb q.set w) h); not_so = λ h p. clash (not-false (ltb q.set w) h) (le-ltb q.set w p) }

  abbrev LastRows : What → ℕ → Type 0
  LastRows w = given (AskedOver Q w ⊎ (2 ^ q.assumptions ≤ q.set)) 4 (given (TooFew Q (barely Q l) q.set w out) 15 no_row)

  last_told : (w : What) (b : Bool) → Tests b (2 ^ q.assumptions ≤ q.set) → LastRows w (answered_by (choose b (answered (Err Number) out) (tell_of Q (barely Q l) q.set w out)))
  unfolding given
  last_told w true t = inl (inr (t.so refl), refl)
  last_told (Of n) false t = go (ltb Q n) (less_test Q n)
    where
      go : (o : Bool) → Tests o (Q < n) → LastRows (Of n) (told_number (choose o (Err Number) (Ok (Word (plain_by (barely Q l) q.set n)))))
      go true u = inl (inl (u.so refl), refl)
      go false u = inr (⊎_elim (u.not_so refl) (t.not_so refl), inr (λ z. z, refl))
  last_told Context false t =
      inr (⊎_elim (λ z. z) (t.not_so refl), by_choice no_row answered_by (ltb (length out) (Q + 1)) (answered (Err Short) out) _ (less_test (length out) (Q + 1)) refl (λ z. refl))
  last_told Stages false t = inr (⊎_elim (λ z. z) (t.not_so refl), subst (given (TooFew Q (barely Q l) q.set Stages out) 15 no_row) (sym (lines_number (fitted (stage_text Q (barely Q l) q.set) out).answer)) (fitted_told (stage_text Q (barely Q l) q.set) out))

  abbrev after_items : Reply → Answered
  after_items r = choose (not (is_done r)) (refusal_of_lem r) (choose (not (in_range q.assumptions q.set)) (refusal_of_lem Number) (tell_of Q (barely Q l) q.set q.what out))

  bare_told : BareRows q l out (answered_by (ask_of q l out))
  unfolding ask_of
  bare_told =
      by_choice _ answered_by (ltb limits.assumptions q.assumptions || ltb limits.claims q.claims) (refusal_of_lem Counts) (after_items (faults_of Q l)) (or_test (less_test limits.assumptions q.assumptions) (less_test limits.claims q.claims)) refl
      (λ p. items_told Q (λ r. answered_by (after_items r)) refl refl refl refl (LastRows q.what) l
      (λ d. last_told q.what (not (in_range q.assumptions q.set)) set_test))

  bare_one : One (BareRows q l out)
  bare_one = given_one _ _ _ (items_one Q (LastRows q.what) (given_one _ _ _ (given_one _ _ _ no_row_one)) l)

  -- ---- what is not refused is answered in the kind of what is asked
  pub bare_kind : (told_number (ask_of q l out).answer ≡ 0 → ⊥) → (r : Reply) × ((ask_of q l out).answer ≡ Err r)
  bare_kind = go (ask_of q l out).answer
    where
      go : (x : Result Told Reply) → (told_number x ≡ 0 → ⊥) → (r : Reply) × (x ≡ Err r)
      go (Ok t) k = absurd (k refl)
      go (Err r) k = (r, refl)

  abbrev Kind : What → Answered → Type 0
  Kind w x = (t : Told) → x.answer ≡ Ok t → in_kind w t ≡ true

  kind_choose : (w : What) (b : Bool) (r : Reply) (y : Answered) → Kind w y → Kind w (choose b (answered (Err r) out) y)
  kind_choose w true r y k t e = cc
  kind_choose w false r y k t e = k t e

  kind_said : {X : Type 0} (w : What) (say : X → Told) → ((x : X) → in_kind w (say x) ≡ true) → (r : Result X Reply) (t : Told) → said_as say r ≡ Ok t → in_kind w t ≡ true
  kind_said w say k (Ok x) t e = let same : say x ≡ t = cc in subst (λ (y : Told). in_kind w y ≡ true) same (k x)
  kind_said w say k (Err r) t e = cc

  tell_kind : (w : What) → Kind w (tell_of Q (barely Q l) q.set w out)
  tell_kind (Of n) = word_kind (ltb Q n)
    where
      word_kind : (b : Bool) → Kind (Of n) (answered (choose b (Err Number) (Ok (Word (plain_by (barely Q l) q.set n)))) out)
      word_kind true t e = cc
      word_kind false t e = let same : Word (plain_by (barely Q l) q.set n) ≡ t = cc in subst (λ (y : Told). in_kind (Of n) y ≡ true) same refl
  tell_kind Context = kind_choose Context (ltb (length out) (Q + 1)) Short _ (λ t e. let same : Filled ≡ t = cc in subst (λ (y : Told). in_kind Context y ≡ true) same refl)
  tell_kind Stages = kind_said Stages Lines (λ n. refl) (fitted (stage_text Q (barely Q l) q.set) out).answer

  pub bare_done : Kind q.what (ask_of q l out)
  unfolding ask_of
  bare_done =
      let w : What = q.what in
      kind_choose w (ltb limits.assumptions q.assumptions || ltb limits.claims q.claims) Counts _
      (kind_choose w (not (is_done (faults_of Q l))) (faults_of Q l) _ (kind_choose w (not (in_range q.assumptions q.set)) Number _ (tell_kind w)))

  -- ---- what no number refuses is an answer
  abbrev Answers0 : Answered → Type 0
  Answers0 x = told_number x.answer ≡ 0 → (t : Told) × (x.answer ≡ Ok t)

  said_choose : (b : Bool) (r : Reply) (y : Answered) → (b ≡ true → number_of r ≡ 0 → ⊥) → Answers0 y → Answers0 (choose b (answered (Err r) out) y)
  said_choose true r y k h z = absurd (k refl z)
  said_choose false r y k h z = h z

  tell_said : (w : What) → Answers0 (tell_of Q (barely Q l) q.set w out)
  unfolding fitted
  tell_said (Of n) = word_said (ltb Q n)
    where
      word_said : (b : Bool) → Answers0 (answered (choose b (Err Number) (Ok (Word (plain_by (barely Q l) q.set n)))) out)
      word_said true z = absurd (omega arith)
      word_said false z = (_, refl)
  tell_said Context = said_choose (ltb (length out) (Q + 1)) Short _ (λ p z. omega arith) (λ z. (_, refl))
  tell_said Stages = lines_said (ltb (length out) (length (stage_text Q (barely Q l) q.set)))
    where
      lines_said : (b : Bool) → Answers0 (wrote_as (choose b (kept Short out) (record { answer = Ok (length (stage_text Q (barely Q l) q.set)); bytes = stage_text Q (barely Q l) q.set ++ drop (length (stage_text Q (barely Q l) q.set)) out })))
      lines_said true z = absurd (omega arith)
      lines_said false z = (_, refl)

  pub bare_said : Answers0 (ask_of q l out)
  unfolding ask_of
  bare_said =
      said_choose (ltb limits.assumptions q.assumptions || ltb limits.claims q.claims) Counts _ (λ p z. omega arith)
      (said_choose (not (is_done (faults_of Q l))) (faults_of Q l) _ (λ p z. let e : is_done (faults_of Q l) ≡ true = eq-eqb _ 0 z in cc)
      (said_choose (not (in_range q.assumptions q.set)) Number _ (λ p z. omega arith) (tell_said q.what)))

-- ---- all of it

pub reply_table : ReplyTable ours
reply_table = record {
  opening = λ A M. exactly (OpenRows A M) (replied (open_of A M)) (given_one _ _ _ no_row_one) (open_told A M);
  adding = λ s c l. exactly (AddRows s c l) (replied (add_of s c l)) (add_one s c l) (add_told s c l);
  adding_all = λ s l out. exactly (AllRows s l out) (replied (add_all_of s l out)) (given_one _ _ _ (given_one _ _ _ no_row_one)) (all_told s l out);
  withdrawing = λ s c l. exactly (WithdrawRows s c l) (replied (withdraw_of s c l)) (withdraw_one s c l) (withdraw_told s c l);
  reading = λ s a. exactly (AskRows s a) (number_said a (read_of s a).said) (given_one _ _ _ (shaped_one s a)) (read_told s a);
  loading = λ bytes. exactly (LoadRows bytes) (report_of (load_of bytes)) (load_one bytes) (load_told bytes);
  judging = λ h. exactly (JudgeRows h) (replied (judged_of h)) (given_one _ _ _ (stages_one h.assumptions (top h) (said_by h))) (judge_told h);
  shape = λ s. refl;
  refusal = λ r k out. exactly (RefusalRows r k out) (wrote (fitted (refusal_text r k) out)) (given_one _ _ _ no_row_one) (fitted_told (refusal_text r k) out);
  printing = λ bytes out. exactly (PrintRows bytes out) (wrote (fitted (listing_of bytes) out)) (given_one _ _ _ no_row_one) (fitted_told (listing_of bytes) out);
  bare = λ q l out. exactly (BareRows q l out) (told_number (ask_of q l out).answer) (bare_one q l out) (bare_told q l out);
  decoding = λ bytes at. exactly (DecodeRows bytes at) (reported (number_at bytes at)) (decode_one bytes at) (decode_told bytes at);
  onward = decode_onward;
  adding_names = add_names;
  withdrawing_names = withdraw_names;
  loading_names = load_names;
  judging_names = judge_names;
  no_ten = no_ten;
}
