-- Definitions that code and promises share, said a second time by what they give: numbers, texts, bytes and orders, written out, through the calls. Assumes nothing.
use Rattle.std.specs.Prelude.{◌++◌, ◌∷◌, List, [], map, ◌≡◌, ◌<◌, ◌≤◌, ℕ, drop, length, Ok, Err, Some, None}
use Rattle.std.proofs.Math.Option.{some}
use Prim.Native.String.{String}
use Rattle.asking.specs.Asking.{answer_set}
use Rattle.asking.specs.declared.Answer.TheVariants.{Inconsistent, Supported, Unsupported}
use Rattle.bare.specs.Bare.{answered}
use Rattle.bare.specs.declared.Told.TheVariants.{Filled, Lines, Word}
use Rattle.bare.specs.declared.What.TheVariants.{Context, Number as Of, Stages}
use Rattle.handed.specs.declared.Handed.{Handed}
use Rattle.lent.specs.Lent.{written_length}
use Rattle.plain.specs.declared.Plain.TheVariants.{Inconsistent as Against, Supported as Plainly, Unsupported as Neither}
use Rattle.promises.specs.Calls.{Calls, case_line, context, file, line, over, plain_context, plainly, question, reads, stage_lines, written}
use Rattle.promises.specs.Plain.{asking}
use Rattle.refuted.specs.Cases.{ListsAre, Prints, listed_bytes}
use Rattle.replies.specs.Replies.{number_of}
use Rattle.replies.specs.declared.Reply.{Reply}
use Rattle.replies.specs.declared.Reply.TheVariants.{After, Already, Counts, Done, Ends, Falsity, Form, Full, Itself, Label, Long, Nogoods, Number, Place, Shape, Short, Supports, Unheld}
use Rattle.rules.specs.Held.{said_by}
use Rattle.store.specs.declared.Store.{Store}
use Rattle.text.specs.Texts.{word}
use Rattle.theory.specs.Cases.{from}
use Rattle.theory.specs.Limits.{file_bytes, limits}
use Rattle.theory.specs.Lists.{numbers_below}
use Rattle.theory.specs.Sets.{contains}

-- the sowing: README tells it
abbrev pub sowing_bytes : List ℕ
sowing_bytes = 3 ∷ 4 ∷ 6 ∷ 0 ∷ 2 ∷ 2 ∷ 3 ∷ 4 ∷ 1 ∷ 1 ∷ 5 ∷ 1 ∷ 2 ∷ 6 ∷ 2 ∷ 3 ∷ 4 ∷ 7 ∷ 2 ∷ 3 ∷ 5 ∷ 0 ∷ 2 ∷ 1 ∷ 2 ∷ []

-- .. its records in held order
abbrev pub sowing_file : List ℕ
sowing_file = 3 ∷ 4 ∷ 6 ∷ 0 ∷ 2 ∷ 1 ∷ 2 ∷ 0 ∷ 2 ∷ 2 ∷ 3 ∷ 4 ∷ 1 ∷ 1 ∷ 5 ∷ 1 ∷ 2 ∷ 6 ∷ 2 ∷ 3 ∷ 4 ∷ 7 ∷ 2 ∷ 3 ∷ 5 ∷ []

abbrev pub sowing : Calls → Store
sowing C = (C.loading sowing_bytes).store

-- .. its rules handed over
abbrev pub hands : ℕ → ℕ → List ℕ → Handed
hands c k l = record { consequent = c; count = k; supports = l }

abbrev pub sowing_list : List Handed
sowing_list =
    hands 7 2 (5 ∷ 3 ∷ 0 ∷ 0 ∷ []) ∷ hands 0 2 (2 ∷ 3 ∷ 0 ∷ 0 ∷ []) ∷ hands 4 1 (1 ∷ 0 ∷ 0 ∷ 0 ∷ []) ∷ hands 5 2 (2 ∷ 2 ∷ 9 ∷ 9 ∷ []) ∷ hands 6 2 (3 ∷ 4 ∷ 0 ∷ 0 ∷ []) ∷ hands 0 2 (1 ∷ 2 ∷ 0 ∷ 0 ∷ []) ∷ []

-- 5 from 5; 4 from five supports
abbrev pub own_item : Handed
own_item = hands 5 1 (5 ∷ 0 ∷ 0 ∷ 0 ∷ [])

abbrev pub long_item : Handed
long_item = hands 4 5 (1 ∷ 2 ∷ 3 ∷ 5 ∷ [])

-- A=3, M=3: 6 from 1; 5 from 2,3; 4 from 1,2; 5 from 1,3; falsity from 1,2,3; 5 from 1,2; 4 from 3
abbrev pub keys_bytes : List ℕ
keys_bytes = 3 ∷ 3 ∷ 7 ∷ 6 ∷ 1 ∷ 1 ∷ 5 ∷ 2 ∷ 2 ∷ 3 ∷ 4 ∷ 2 ∷ 1 ∷ 2 ∷ 5 ∷ 2 ∷ 1 ∷ 3 ∷ 0 ∷ 3 ∷ 1 ∷ 2 ∷ 3 ∷ 5 ∷ 2 ∷ 1 ∷ 2 ∷ 4 ∷ 1 ∷ 3 ∷ []

abbrev pub keys : Calls → Store
keys C = (C.loading keys_bytes).store

-- what is printed of the bytes is the text t
abbrev pub PrintsFile : Calls → List ℕ → String → Type 0
PrintsFile C bytes t = (out : List ℕ) → length (word t) ≤ length out → C.printing bytes out ≡ record { answer = written (word t); bytes = over (word t) out }

-- the line of a refusal is the text t
abbrev pub Refuses : Calls → Reply → ℕ → String → Type 0
Refuses C r k t = (out : List ℕ) → length (word t) ≤ length out → C.refusal r k out ≡ record { answer = written (word t); bytes = over (word t) out }

pub record Pinned (C : Calls) : Type 0 where
  -- the limits of document 01
  pub limits_are : limits ≡ record { assumptions = 32; claims = 96; numbers = 128; held = 256; supports = 4; label = 12; nogoods = 32 }
  -- the number of each reply
  pub numbers : map number_of (Done ∷ Already ∷ Shape ∷ Counts ∷ Number ∷ Falsity ∷ Supports ∷ Full ∷ Label 5 ∷ Nogoods ∷ Ends ∷ Form ∷ After ∷ Long ∷ Short ∷ Place ∷ Itself ∷ Unheld ∷ [])
      ≡ 0 ∷ 1 ∷ 2 ∷ 3 ∷ 4 ∷ 5 ∷ 6 ∷ 7 ∷ 8 ∷ 9 ∷ 11 ∷ 12 ∷ 13 ∷ 14 ∷ 15 ∷ 16 ∷ 17 ∷ 18 ∷ []
  -- the bytes of a text
  pub bytes : word "case {1,2}\n" ≡ 99 ∷ 97 ∷ 115 ∷ 101 ∷ 32 ∷ 123 ∷ 49 ∷ 44 ∷ 50 ∷ 125 ∷ 10 ∷ []
  -- the sowing, line by line; line one with a different number in each field
  pub sowing_done : (C.loading sowing_bytes).reply ≡ Done
  pub sowing_first : (out : List ℕ) → 13 ≤ length out → C.reading (sowing C) (case_line out) ≡ reads (case_line out) (written (word "case 3 4 6 2\n")) (sowing C) (over (word "case 3 4 6 2\n") out)
  pub sowing_0 : Prints C (sowing C) 0 "0 nogood {1,2} {2,3}\n"
  pub sowing_1 : Prints C (sowing C) 1 "1 supported {1}\n"
  pub sowing_2 : Prints C (sowing C) 2 "2 supported {2}\n"
  pub sowing_3 : Prints C (sowing C) 3 "3 supported {3}\n"
  pub sowing_4 : Prints C (sowing C) 4 "4 supported {1}\n"
  pub sowing_5 : Prints C (sowing C) 5 "5 supported {2}\n"
  pub sowing_6 : Prints C (sowing C) 6 "6 supported {1,3}\n"
  pub sowing_7 : Prints C (sowing C) 7 "7 contradicted\n"
  -- the length that a line reports
  pub sowing_length : (out : List ℕ) → 18 ≤ length out → written_length (C.reading (sowing C) (line 6 out)).said ≡ some 18
  -- the three answers, of {1,3} and {2,3}; the sets that they name; the contexts of both
  pub sowing_asked : ((C.reading (sowing C) (question 6 5)).said ≡ Ok (Supported 5)) × ((C.reading (sowing C) (question 7 5)).said ≡ Ok Unsupported) × ((C.reading (sowing C) (question 7 6)).said ≡ Ok (Inconsistent 6))
  pub sowing_named : (answer_set (C.reading (sowing C) (question 6 5)).said ≡ Some 5) × (answer_set (C.reading (sowing C) (question 7 5)).said ≡ None) × (answer_set (C.reading (sowing C) (question 7 6)).said ≡ Some 6)
  pub sowing_context : (out : List ℕ) → 8 ≤ length out → C.reading (sowing C) (context 5 out) ≡ reads (context 5 out) Done (sowing C) ((0 ∷ 1 ∷ 0 ∷ 1 ∷ 1 ∷ 0 ∷ 1 ∷ 3 ∷ []) ++ drop 8 out)
  pub sowing_against : (out : List ℕ) → 8 ≤ length out → C.reading (sowing C) (context 6 out) ≡ reads (context 6 out) Done (sowing C) ((2 ∷ 2 ∷ 2 ∷ 2 ∷ 2 ∷ 2 ∷ 2 ∷ 2 ∷ []) ++ drop 8 out)
  -- the same without labels: the words alone, 0 in place of 3, and the lines of the stages of {2,3}
  pub sowing_plain : ((C.reading (sowing C) (plainly 6 5)).said ≡ Ok Plainly) × ((C.reading (sowing C) (plainly 7 5)).said ≡ Ok Neither) × ((C.reading (sowing C) (plainly 7 6)).said ≡ Ok Against)
  pub sowing_bytes_lem : (out : List ℕ) → 8 ≤ length out → C.reading (sowing C) (plain_context 5 out) ≡ reads (plain_context 5 out) Done (sowing C) ((0 ∷ 1 ∷ 0 ∷ 1 ∷ 1 ∷ 0 ∷ 1 ∷ 0 ∷ []) ++ drop 8 out)
  pub sowing_stages : (out : List ℕ) → 28 ≤ length out
      → C.reading (sowing C) (stage_lines 6 out) ≡ reads (stage_lines 6 out) (written (word "0 2 3\n1 0 2 3 5\n2 0 2 3 5 7\n")) (sowing C) (over (word "0 2 3\n1 0 2 3 5\n2 0 2 3 5 7\n") out)
  -- and from a bare list of its rules, supports in another order and twice: the word, the context, the lines
  pub bare_word : (out : List ℕ) → C.bare (asking 3 4 (Of 6) 5) sowing_list out ≡ answered (Ok (Word Plainly)) out
  pub bare_context : (out : List ℕ) → 8 ≤ length out → C.bare (asking 3 4 Context 5) sowing_list out ≡ answered (Ok Filled) ((0 ∷ 1 ∷ 0 ∷ 1 ∷ 1 ∷ 0 ∷ 1 ∷ 0 ∷ []) ++ drop 8 out)
  pub bare_stages : (out : List ℕ) → 28 ≤ length out → C.bare (asking 3 4 Stages 6) sowing_list out ≡ answered (Ok (Lines 28)) (word "0 2 3\n1 0 2 3 5\n2 0 2 3 5 7\n" ++ drop 28 out)
  -- refused whatever is asked: an item that names its own consequent before one of five supports is 17; that one first is 6; a set with an assumption above A is 4, and so is a number above A + M
  pub bare_refused : (out : List ℕ) → (C.bare (asking 3 4 (Of 6) 5) (own_item ∷ long_item ∷ []) out ≡ answered (Err Itself) out)
      × (C.bare (asking 3 4 Context 5) (long_item ∷ own_item ∷ []) out ≡ answered (Err Supports) out) × (C.bare (asking 3 4 Stages 8) sowing_list out ≡ answered (Err Number) out)
      × (C.bare (asking 3 4 (Of 8) 5) sowing_list out ≡ answered (Err Number) out)
  -- the file that is written of it
  pub sowing_file_lem : (out : List ℕ) → 25 ≤ length out → C.reading (sowing C) (file out) ≡ reads (file out) (written sowing_file) (sowing C) (over sowing_file out)
  -- what is printed: the document's eighteen bytes; a record that stands twice, counted once; then no bytes, and more than 4,096
  pub eighteen : PrintsFile C listed_bytes "case 3 2 4 2\n0 nogood {1,2}\n1 supported {1}\n2 supported {2}\n3 supported {3}\n4 supported {1} {2,3}\n5 supported {2,3}\n"
  pub twice : PrintsFile C (1 ∷ 1 ∷ 2 ∷ 2 ∷ 1 ∷ 1 ∷ 2 ∷ 1 ∷ 1 ∷ []) "case 1 1 1 1\n0 nogood\n1 supported {1}\n2 supported {1}\n"
  -- empty labels: 3 follows from 1 beyond the depth; a premise for falsity, and no rule for 3
  pub beyond : PrintsFile C (1 ∷ 2 ∷ 3 ∷ 0 ∷ 1 ∷ 1 ∷ 2 ∷ 1 ∷ 1 ∷ 3 ∷ 1 ∷ 2 ∷ []) "case 1 2 3 1\n0 nogood {1}\n1 contradicted\n2 contradicted\n3 contradicted\n"
  pub beside : PrintsFile C (1 ∷ 2 ∷ 2 ∷ 0 ∷ 0 ∷ 2 ∷ 0 ∷ []) "case 1 2 2 1\n0 nogood {}\n1 contradicted\n2 contradicted\n3 unsupported\n"
  pub nothing : PrintsFile C [] "refused 11 0\n"
  pub long : (bytes : List ℕ) → file_bytes < length bytes → PrintsFile C bytes "refused 14 0\n"
  -- {1} {2,3} {1,2} serves where {1} {2,3} does, the label of 4 in the document's case, and is longer
  pub longer : (map (contains (1 ∷ 6 ∷ 3 ∷ [])) (numbers_below 8) ≡ map (contains (1 ∷ 6 ∷ [])) (numbers_below 8)) × (length {A = ℕ} (1 ∷ 6 ∷ []) < length {A = ℕ} (1 ∷ 6 ∷ 3 ∷ []))
  -- a refusal's line; 14 is the program's own
  pub label_refused : Refuses C (Label 14) 13 "refused 8 13\n"
  pub long_refused : Refuses C Long 0 "refused 14 0\n"
  pub after_refused : Refuses C After 256 "refused 13 256\n"
  -- the held order: by consequent, then by number of supports, then by the supports as lists
  pub keys_held : said_by (keys C).held ≡ from 0 (1 ∷ 2 ∷ 3 ∷ []) ∷ from 4 (3 ∷ []) ∷ from 4 (1 ∷ 2 ∷ []) ∷ from 5 (1 ∷ 2 ∷ []) ∷ from 5 (1 ∷ 3 ∷ []) ∷ from 5 (2 ∷ 3 ∷ []) ∷ from 6 (1 ∷ []) ∷ []
  -- the listing order: {3} before {1,2}, fewer assumptions first; {1,2} {1,3} {2,3}, the smaller number first
  pub keys_lists : ListsAre (keys C) 1 (7 ∷ []) ((1 ∷ []) ∷ (2 ∷ []) ∷ (4 ∷ []) ∷ (4 ∷ 3 ∷ []) ∷ (3 ∷ 5 ∷ 6 ∷ []) ∷ (1 ∷ []) ∷ [])
