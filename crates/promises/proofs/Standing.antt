-- Of a right shape, our calls read the lists as they stand, and add and withdraw from the justifications alone. Assumes nothing.
use Rattle.std.specs.Prelude.{Result, Ok, Err}
use mathlib.Core.Bool.{◌||◌, false, not, true}
use mathlib.Core.List.{List, [], ◌++◌}
use mathlib.Core.Path.{◌∙◌, ◌≡◌, ap, ap₂, sym}
use Prim.Native.Nat.{◌+◌, suc, ℕ}
use native.Mathlib.Omega.{arith}
use lib.Dec.{ltb}
use lib.ListN.{drop, length}
use borrow.Author.Tests.{le-ltb}
use Rattle.asking.specs.Asking.{context_bytes, context_of, context_reply, first_in, member_at, member_of, question_of, standing}
use Rattle.asking.specs.declared.Answer.{Answer}
use Rattle.lent.specs.Lent.{Wrote, fitted}
use Rattle.lines.specs.Lines.{case_text, heading_of, line_of, line_text, refusal_text}
use Rattle.plain.specs.Plainly.{plain_after, plain_by, plain_bytes, plain_of}
use Rattle.plain.specs.declared.Plain.{Plain}
use Rattle.promises.proofs.Form.{add_tried, parted_done, tried_done, withdraw_parted}
use Rattle.promises.proofs.InOrder.{in_order_is, in_order_put}
use Rattle.promises.proofs.Rows.{less_test, or_test, outside_test, passed, test_off}
use Rattle.promises.proofs.Third.{third_byte, third_word}
use Rattle.promises.specs.Calls.{Ask, case_line, context, file, line, list_all, member, ours, over, plain_context, plainly, question, read_of, reads, stage_lines, written}
use Rattle.promises.specs.Made.{in_order}
use Rattle.promises.specs.Standing.{AsTheyStand, Stands, as_read}
use Rattle.promises.specs.Table.{ShapedRows, enlarged, handed, lessened}
use Rattle.replies.specs.declared.Reply.{Reply}
use Rattle.replies.specs.declared.Reply.TheVariants.{Done}
use Rattle.holding.proofs.Dropping.{dropped_ordered}
use Rattle.rules.proofs.Scan.{right_elim}
use Rattle.rules.specs.Held.{said_by}
use Rattle.stagetext.specs.Stagetext.{stage_text, stages_of}
use Rattle.store.proofs.Shapes.{shape_elim}
use Rattle.store.specs.Calls.{add_of, answer, is_done, no_store, store_of, withdraw_of}
use Rattle.store.specs.Reading.{held_from_all, label_held, nogoods_held}
use Rattle.store.specs.Shape.{right_shape, top}
use Rattle.store.specs.declared.Store.{Store}
use Rattle.theory.specs.Lists.{choose}
use Rattle.theory.specs.Sets.{in_range}
use Rattle.theory.specs.Stages.{Justification}
use Rattle.listing.specs.Listing.{listed_of, listing_text}
use Rattle.writing.specs.Writing.{file_of, write_of}

abbrev wrote : List ℕ → List ℕ → Wrote
wrote t out = record { answer = written t; bytes = over t out }

fits : (t out : List ℕ) → ltb (length out) (length t) ≡ false → fitted t out ≡ wrote t out
unfolding fitted
fits t out h = rw h

module _ (s : Store) (right : right_shape s ≡ true) where
  abbrev N : ℕ
  N = top s.held

  abbrev A : ℕ
  A = s.held.assumptions

  -- ---- the lists as they stand

  question_stands : (n E : ℕ) → ltb N n || not (in_range A E) ≡ false → question_of s n E ≡ Ok (standing s.lists n E)
  unfolding question_of
  question_stands n E h = rw (right, h)

  context_done : (E : ℕ) (out : List ℕ) → not (in_range A E) ≡ false → ltb (length out) (N + 1) ≡ false → context_reply s E (length out) ≡ Done
  unfolding context_reply
  context_done E out h k = rw (right, h, k)

  context_stands : (E : ℕ) (out : List ℕ) → context_reply s E (length out) ≡ Done → context_bytes s E out ≡ context_of s E ++ drop (N + 1) out
  unfolding context_bytes
  context_stands E out e = ap (λ (r : Reply). choose (is_done r) (context_of s E ++ drop (N + 1) out) out) e

  member_stands : (n place : ℕ) → ltb N n ≡ false → member_of s n place ≡ member_at s.lists n place
  unfolding member_of
  member_stands n place h = rw (right, h)

  line_stands : (n : ℕ) (out : List ℕ) → ltb N n ≡ false → ltb (length out) (length (line_text s n)) ≡ false → line_of s n out ≡ wrote (line_text s n) out
  unfolding line_of
  line_stands n out h k = rw (right, h) (fits (line_text s n) out k)

  heading_stands : (out : List ℕ) → ltb (length out) (length (case_text s)) ≡ false → heading_of s out ≡ wrote (case_text s) out
  unfolding heading_of
  heading_stands out h = rw right (fits (case_text s) out h)

  listing_stands : (out : List ℕ) → ltb (length out) (length (listing_text s)) ≡ false → listed_of s out ≡ wrote (listing_text s) out
  unfolding listed_of
  listing_stands out h = rw right (fits (listing_text s) out h)

  writing_stands : (out : List ℕ) → ltb (length out) (length (file_of s.held)) ≡ false → write_of s out ≡ wrote (file_of s.held) out
  unfolding write_of
  writing_stands out h = rw right (fits (file_of s.held) out h)

  plain_stands : (n E : ℕ) → ltb N n || not (in_range A E) ≡ false → plain_of s n E ≡ Ok (plain_by (said_by s.held) E n)
  unfolding plain_of
  plain_stands n E h = rw (right, h)

  plain_context_stands : (E : ℕ) (out : List ℕ) → context_reply s E (length out) ≡ Done → plain_after s E out ≡ plain_bytes s E ++ drop (N + 1) out
  unfolding plain_after
  plain_context_stands E out e = ap (λ (r : Reply). choose (is_done r) (plain_bytes s E ++ drop (N + 1) out) out) e

  stages_stand : (E : ℕ) (out : List ℕ) → not (in_range A E) ≡ false → ltb (length out) (length (stage_text N (said_by s.held) E)) ≡ false → stages_of s E out ≡ wrote (stage_text N (said_by s.held) E) out
  unfolding stages_of
  stages_stand E out h k = rw (right, h) (fits (stage_text N (said_by s.held) E) out k)

  read_stands : (a : Ask) → ShapedRows s a 0 → read_of s a ≡ as_read s a
  unfolding context_of plain_bytes
  read_stands (question n E) w =
      let p = passed _ _ _ w (λ z. omega arith) in
      ap (λ (x : Result Answer Reply). reads (question n E) x s []) (question_stands n E (test_off (ltb N n || not (in_range A E)) (or_test (less_test N n) (outside_test s E)) p.0))
  read_stands (context E out) w =
      let p = passed _ _ _ w (λ z. omega arith) in
      let q = passed _ _ _ p.1 (λ z. omega arith) in
      let d = context_done E out (test_off (not (in_range A E)) (outside_test s E) p.0) (test_off (ltb (length out) (N + 1)) (less_test (length out) (N + 1)) q.0) in
      ap₂ (λ (x : Reply) (b : List ℕ). reads (context E out) x s b) d (context_stands E out d)
  read_stands (member n place) w =
      let p = passed _ _ _ w (λ z. omega arith) in
      ap (λ (x : Result ℕ Reply). reads (member n place) x s []) (member_stands n place (test_off (ltb N n) (less_test N n) p.0))
  read_stands (line n out) w =
      let p = passed _ _ _ w (λ z. omega arith) in
      let q = passed _ _ _ p.1 (λ z. omega arith) in
      let t : List ℕ = line_text s n in
      ap (λ (x : Wrote). reads (line n out) x.answer s x.bytes) (line_stands n out (test_off (ltb N n) (less_test N n) p.0) (test_off (ltb (length out) (length t)) (less_test (length out) (length t)) q.0))
  read_stands (case_line out) w =
      let p = passed _ _ _ w (λ z. omega arith) in
      ap (λ (x : Wrote). reads (case_line out) x.answer s x.bytes) (heading_stands out (test_off (ltb (length out) (length (case_text s))) (less_test (length out) (length (case_text s))) p.0))
  read_stands (list_all out) w =
      let p = passed _ _ _ w (λ z. omega arith) in
      let t : List ℕ = listing_text s in
      ap (λ (x : Wrote). reads (list_all out) x.answer s x.bytes) (listing_stands out (test_off (ltb (length out) (length t)) (less_test (length out) (length t)) p.0))
  read_stands (file out) w =
      let p = passed _ _ _ w (λ z. omega arith) in
      let t : List ℕ = file_of s.held in
      ap (λ (x : Wrote). reads (file out) x.answer s x.bytes) (writing_stands out (test_off (ltb (length out) (length t)) (less_test (length out) (length t)) p.0))
  read_stands (plainly n E) w =
      let p = passed _ _ _ w (λ z. omega arith) in
      ap (λ (x : Result Plain Reply). reads (plainly n E) x s []) (plain_stands n E (test_off (ltb N n || not (in_range A E)) (or_test (less_test N n) (outside_test s E)) p.0))
  read_stands (plain_context E out) w =
      let p = passed _ _ _ w (λ z. omega arith) in
      let q = passed _ _ _ p.1 (λ z. omega arith) in
      let d = context_done E out (test_off (not (in_range A E)) (outside_test s E) p.0) (test_off (ltb (length out) (N + 1)) (less_test (length out) (N + 1)) q.0) in
      ap₂ (λ (x : Reply) (b : List ℕ). reads (plain_context E out) x s b) d (plain_context_stands E out d)
  read_stands (stage_lines E out) w =
      let p = passed _ _ _ w (λ z. omega arith) in
      let q = passed _ _ _ p.1 (λ z. omega arith) in
      let t : List ℕ = stage_text N (said_by s.held) E in
      ap (λ (x : Wrote). reads (stage_lines E out) x.answer s x.bytes) (stages_stand E out (test_off (not (in_range A E)) (outside_test s E) p.0) (test_off (ltb (length out) (length t)) (less_test (length out) (length t)) q.0))

  -- ---- the justifications alone

  adding_stands : (c : ℕ) (l : List ℕ) (t : Store) → add_of s c l ≡ answer Done t → store_of no_store A s.held.claims (in_order (enlarged s c l)) ≡ answer Done t
  adding_stands c l t e =
      let J : List Justification = said_by s.held in
      let p = tried_done s t (right_shape s) A s.held.claims s.held.count J c l (sym (add_tried s c l) ∙ e) in
      ap (store_of no_store A s.held.claims) (in_order_put (handed s c l) J (right_elim s.held (shape_elim s right).0.right).order p.new) ∙ p.store

  withdrawing_stands : (c : ℕ) (l : List ℕ) (t : Store) → withdraw_of s c l ≡ answer Done t → store_of no_store A s.held.claims (in_order (lessened s c l)) ≡ answer Done t
  withdrawing_stands c l t e =
      let J : List Justification = said_by s.held in
      let K : List Justification = lessened s c l in
      let p = parted_done s t (right_shape s) A s.held.claims J c l (sym (withdraw_parted s c l) ∙ e) in
      let o : K ≡ in_order K = in_order_is K K (dropped_ordered (handed s c l) J (right_elim s.held (shape_elim s right).0.right).order) (λ j. (λ m. m, λ m. m)) in
      ap (store_of no_store A s.held.claims) (sym o) ∙ p.store

  stands : Stands ours s
  unfolding standing
  stands = record {
    reading = read_stands;
    adding = adding_stands;
    withdrawing = withdrawing_stands;
    third_word = λ i. third_word i (label_held s.lists (suc i)) (held_from_all s (suc i));
    third_byte = λ i E. third_byte i E (first_in (nogoods_held s.lists) E) (label_held s.lists (suc i)) (held_from_all s (suc i));
  }

pub as_they_stand : AsTheyStand ours
as_they_stand = record {
  stands = stands;
  refusal = λ r k out h. fits (refusal_text r k) out (le-ltb (length out) (length (refusal_text r k)) h);
}
