-- Whatever store of right shape is handed in, forged or not: adding and withdrawing work from the justifications alone; questions read the lists as they stand; whether an empty label is contradicted comes from the justifications. Assumes nothing.
use Rattle.std.specs.Prelude.{true, List, [], ◌++◌, ◌↔◌, ◌≡◌, ◌+◌, ◌≤◌, suc, ℕ, drop, length, None, Ok}
use Rattle.asking.specs.Asking.{byte_of, first_in, member_at, standing}
use Rattle.lines.specs.Lines.{case_text, line_text, refusal_text}
use Rattle.plain.specs.Plainly.{byte_of as plain_byte, plain_by}
use Rattle.promises.specs.Calls.{Ask, Calls, Read, case_line, context, file, line, list_all, member, over, plain_context, plainly, question, reads, stage_lines, written}
use Rattle.promises.specs.Made.{in_order}
use Rattle.promises.specs.Table.{ShapedRows, enlarged, lessened}
use Rattle.replies.specs.declared.Reply.{Reply}
use Rattle.replies.specs.declared.Reply.TheVariants.{Done}
use Rattle.rules.specs.Held.{said_by}
use Rattle.stagetext.specs.Stagetext.{stage_text}
use Rattle.store.specs.Calls.{answer, no_store, store_of}
use Rattle.store.specs.Reading.{contradicted_in, held_from_all, label_held, nogoods_held}
use Rattle.store.specs.Shape.{right_shape, top}
use Rattle.store.specs.declared.Store.{Store}
use Rattle.text.specs.Texts.{word}
use Rattle.theory.specs.Demands.{follows_from_all}
use Rattle.theory.specs.Places.{table}
use Rattle.listing.specs.Listing.{listing_text}
use Rattle.wording.specs.Wording.{word_of}
use Rattle.writing.specs.Writing.{file_of}

-- what is read of the lists; of an empty label the third word, and byte 3, of the justifications, and so the file
abbrev pub as_read : Store → (a : Ask) → Read a
as_read s (question n E) = reads (question n E) (Ok (standing s.lists n E)) s []
as_read s (context E out) = reads (context E out) Done s (table (top s.held + 1) (λ n. byte_of (contradicted_in s n) (standing s.lists n E)) ++ drop (top s.held + 1) out)
as_read s (member n place) = reads (member n place) (member_at s.lists n place) s []
as_read s (line n out) = reads (line n out) (written (line_text s n)) s (over (line_text s n) out)
as_read s (case_line out) = reads (case_line out) (written (case_text s)) s (over (case_text s) out)
as_read s (list_all out) = reads (list_all out) (written (listing_text s)) s (over (listing_text s) out)
as_read s (file out) = reads (file out) (written (file_of s.held)) s (over (file_of s.held) out)
-- the plain path reads no list
as_read s (plainly n E) = reads (plainly n E) (Ok (plain_by (said_by s.held) E n)) s []
as_read s (plain_context E out) = reads (plain_context E out) Done s (table (top s.held + 1) (λ n. plain_byte (plain_by (said_by s.held) E n)) ++ drop (top s.held + 1) out)
as_read s (stage_lines E out) = reads (stage_lines E out) (written (stage_text (top s.held) (said_by s.held) E)) s (over (stage_text (top s.held) (said_by s.held) E) out)

-- the word in the line of i + 1
abbrev pub said_of : Store → ℕ → List ℕ
said_of s i = word_of (suc i) (label_held s.lists (suc i)) (held_from_all s (suc i))

pub record Stands (C : Calls) (s : Store) : Type 0 where
  -- what the reply table does not refuse reads the lists as they stand, the file and the plain path what is held
  pub reading : (a : Ask) → ShapedRows s a 0 → C.reading s a ≡ as_read s a
  -- adding works from the justifications alone: answered 0, the store of those held with this one, judged anew; the lists of s do not come into it
  pub adding : (c : ℕ) (l : List ℕ) (t : Store) → C.adding s c l ≡ answer Done t → store_of no_store s.held.assumptions s.held.claims (in_order (enlarged s c l)) ≡ answer Done t
  -- so does withdrawing: the store of those held without this one, judged anew
  pub withdrawing : (c : ℕ) (l : List ℕ) (t : Store) → C.withdrawing s c l ≡ answer Done t → store_of no_store s.held.assumptions s.held.claims (in_order (lessened s c l)) ≡ answer Done t
  -- `contradicted` where the label has no set in it and the number follows from all assumptions by the justifications
  pub third_word : (i : ℕ) → (said_of s i ≡ word " contradicted") ↔ ((label_held s.lists (suc i) ≡ []) × (follows_from_all s.held.assumptions (said_by s.held) (suc i) ≡ true))
  -- byte 3 where no nogood lies within E and the line says so
  pub third_byte : (i E : ℕ) → (byte_of (contradicted_in s (suc i)) (standing s.lists (suc i) E) ≡ 3) ↔ ((first_in (nogoods_held s.lists) E ≡ None) × (said_of s i ≡ word " contradicted"))

pub record AsTheyStand (C : Calls) : Type 0 where
  pub stands : (s : Store) → right_shape s ≡ true → Stands C s
  -- the line of a refusal: `refused`, its number, its record
  pub refusal : (r : Reply) (k : ℕ) (out : List ℕ) → length (refusal_text r k) ≤ length out → C.refusal r k out ≡ record { answer = written (refusal_text r k); bytes = over (refusal_text r k) out }
