-- A program with one of its calls exchanged for another. Assumes nothing.
use Rattle.std.specs.Prelude.{not, List, [], ◌++◌, ℕ, ltb, drop, length, Result}
use Rattle.asking.specs.Asking.{Left, left}
use Rattle.asking.specs.declared.Answer.{Answer}
use Rattle.casefile.specs.declared.Loaded.{Loaded}
use Rattle.handed.specs.declared.Handed.{Handed}
use Rattle.lent.specs.Lent.{Wrote}
use Rattle.plain.specs.declared.Plain.{Plain}
use Rattle.promises.specs.Calls.{Ask, Calls, Read, case_line, context, file, line, list_all, member, plain_context, plainly, question, reads, stage_lines}
use Rattle.promises.specs.Season.{Adds, after_each, numbers_each}
use Rattle.replies.specs.declared.Reply.{Reply}
use Rattle.replies.specs.declared.Reply.TheVariants.{Done, Long, Shape, Short}
use Rattle.store.specs.Calls.{answer, is_done}
use Rattle.store.specs.Shape.{right_shape}
use Rattle.store.specs.declared.Outcome.{Outcome}
use Rattle.store.specs.declared.Store.{Store}
use Rattle.theory.specs.Limits.{file_bytes}
use Rattle.theory.specs.Lists.{choose}

-- what a program prints of a file, by its own loading, reading and refusals
abbrev pub printing_by : (List ℕ → Loaded) → (Store → (a : Ask) → Read a) → (Reply → ℕ → List ℕ → Wrote) → List ℕ → List ℕ → Wrote
printing_by loading reading refusal bytes out =
    choose (ltb file_bytes (length bytes)) (refusal Long 0 out)
    (choose (is_done (loading bytes).reply) (record { answer = (reading (loading bytes).store (list_all out)).said; bytes = (reading (loading bytes).store (list_all out)).bytes })
    (refusal (loading bytes).reply (loading bytes).«record» out))

-- a list added one by one, by its own adding
abbrev pub adding_all_by : Adds → Store → List Handed → List ℕ → Left
adding_all_by add s l out =
    choose (not (right_shape s)) (left (answer Shape s) out)
    (choose (ltb (length out) (length l)) (left (answer Short s) out)
    (left (answer Done (after_each add s l)) (numbers_each add s l ++ drop (length l) out)))

-- C with these six calls for its own, and what it prints by them
abbrev pub exchanged : Calls → (ℕ → ℕ → Outcome) → (List ℕ → Loaded) → Adds → (Store → List Handed → List ℕ → Left) → (Store → ℕ → List ℕ → Outcome) → (Store → (a : Ask) → Read a) → Calls
exchanged C opening loading adding adding_all withdrawing reading = record {
  opening = opening;
  loading = loading;
  judging = C.judging;
  adding = adding;
  adding_all = adding_all;
  withdrawing = withdrawing;
  reading = reading;
  shape = C.shape;
  refusal = C.refusal;
  printing = printing_by loading reading C.refusal;
  decoding = C.decoding;
  bare = C.bare;
}

abbrev pub with_opening : (ℕ → ℕ → Outcome) → Calls → Calls
with_opening f C = exchanged C f C.loading C.adding C.adding_all C.withdrawing C.reading

abbrev pub with_loading : (List ℕ → Loaded) → Calls → Calls
with_loading f C = exchanged C C.opening f C.adding C.adding_all C.withdrawing C.reading

-- it adds lists by the adding that it has now
abbrev pub with_adding : Adds → Calls → Calls
with_adding f C = exchanged C C.opening C.loading f (adding_all_by f) C.withdrawing C.reading

abbrev pub with_adding_all : (Store → List Handed → List ℕ → Left) → Calls → Calls
with_adding_all f C = exchanged C C.opening C.loading C.adding f C.withdrawing C.reading

abbrev pub with_withdrawing : (Store → ℕ → List ℕ → Outcome) → Calls → Calls
with_withdrawing f C = exchanged C C.opening C.loading C.adding C.adding_all f C.reading

abbrev pub with_reading : (Store → (a : Ask) → Read a) → Calls → Calls
with_reading f C = exchanged C C.opening C.loading C.adding C.adding_all C.withdrawing f

-- a question answered by f, what else is read by r
abbrev pub answering : (Store → ℕ → ℕ → Result Answer Reply) → (Store → (a : Ask) → Read a) → Store → (a : Ask) → Read a
answering f r s (question n E) = reads (question n E) (f s n E) s []
answering f r s (context E out) = r s (context E out)
answering f r s (member n place) = r s (member n place)
answering f r s (line n out) = r s (line n out)
answering f r s (case_line out) = r s (case_line out)
answering f r s (list_all out) = r s (list_all out)
answering f r s (file out) = r s (file out)
answering f r s (plainly n E) = r s (plainly n E)
answering f r s (plain_context E out) = r s (plain_context E out)
answering f r s (stage_lines E out) = r s (stage_lines E out)

-- a line written by f, what else is read by r
abbrev pub lining : (Store → ℕ → List ℕ → Wrote) → (Store → (a : Ask) → Read a) → Store → (a : Ask) → Read a
lining f r s (question n E) = r s (question n E)
lining f r s (context E out) = r s (context E out)
lining f r s (member n place) = r s (member n place)
lining f r s (line n out) = reads (line n out) (f s n out).answer s (f s n out).bytes
lining f r s (case_line out) = r s (case_line out)
lining f r s (list_all out) = r s (list_all out)
lining f r s (file out) = r s (file out)
lining f r s (plainly n E) = r s (plainly n E)
lining f r s (plain_context E out) = r s (plain_context E out)
lining f r s (stage_lines E out) = r s (stage_lines E out)

-- the lines of the stages written by f, what else is read by r
abbrev pub staging : (Store → ℕ → List ℕ → Wrote) → (Store → (a : Ask) → Read a) → Store → (a : Ask) → Read a
staging f r s (question n E) = r s (question n E)
staging f r s (context E out) = r s (context E out)
staging f r s (member n place) = r s (member n place)
staging f r s (line n out) = r s (line n out)
staging f r s (case_line out) = r s (case_line out)
staging f r s (list_all out) = r s (list_all out)
staging f r s (file out) = r s (file out)
staging f r s (plainly n E) = r s (plainly n E)
staging f r s (plain_context E out) = r s (plain_context E out)
staging f r s (stage_lines E out) = reads (stage_lines E out) (f s E out).answer s (f s E out).bytes

-- a plain question answered by f, what else is read by r
abbrev pub wording : (Store → ℕ → ℕ → Result Plain Reply) → (Store → (a : Ask) → Read a) → Store → (a : Ask) → Read a
wording f r s (question n E) = r s (question n E)
wording f r s (context E out) = r s (context E out)
wording f r s (member n place) = r s (member n place)
wording f r s (line n out) = r s (line n out)
wording f r s (case_line out) = r s (case_line out)
wording f r s (list_all out) = r s (list_all out)
wording f r s (file out) = r s (file out)
wording f r s (plainly n E) = reads (plainly n E) (f s n E) s []
wording f r s (plain_context E out) = r s (plain_context E out)
wording f r s (stage_lines E out) = r s (stage_lines E out)

abbrev pub with_plainly : (Store → ℕ → ℕ → Result Plain Reply) → Calls → Calls
with_plainly f C = with_reading (wording f C.reading) C

abbrev pub with_stages : (Store → ℕ → List ℕ → Wrote) → Calls → Calls
with_stages f C = with_reading (staging f C.reading) C

abbrev pub with_line : (Store → ℕ → List ℕ → Wrote) → Calls → Calls
with_line f C = with_reading (lining f C.reading) C

abbrev pub with_question : (Store → ℕ → ℕ → Result Answer Reply) → Calls → Calls
with_question f C = with_reading (answering f C.reading) C

-- a file written by f, what else is read by r
abbrev pub filing : (Store → List ℕ → Wrote) → (Store → (a : Ask) → Read a) → Store → (a : Ask) → Read a
filing f r s (question n E) = r s (question n E)
filing f r s (context E out) = r s (context E out)
filing f r s (member n place) = r s (member n place)
filing f r s (line n out) = r s (line n out)
filing f r s (case_line out) = r s (case_line out)
filing f r s (list_all out) = r s (list_all out)
filing f r s (plainly n E) = r s (plainly n E)
filing f r s (plain_context E out) = r s (plain_context E out)
filing f r s (stage_lines E out) = r s (stage_lines E out)
filing f r s (file out) = reads (file out) (f s out).answer s (f s out).bytes

abbrev pub with_file : (Store → List ℕ → Wrote) → Calls → Calls
with_file f C = with_reading (filing f C.reading) C
