-- A case file: its header and its records, and what is held of them. Assumes nothing.
use Rattle.std.specs.Prelude.{List, [], ◌∷◌, ◌≡◌, ℕ, zero, suc, ◌+◌, Result, Ok, Err}
use Rattle.casefile.specs.declared.Fault.{Fault}
use Rattle.casefile.specs.declared.Parsed.{Parsed}
use Rattle.items.specs.Items.{Header, Item, header_from, record_from}
use Rattle.numbers.specs.Numbers.{Taken, got, bad}
use Rattle.replies.specs.declared.Reply.TheVariants.{After}
use Rattle.replies.specs.declared.Reply.{Reply}
use Rattle.rules.specs.Held.{held_of, put}
use Rattle.rules.specs.Items.{justification_of, same_justification}
use Rattle.theory.specs.Lists.{choose, some_of}
use Rattle.theory.specs.Stages.{Justification}

-- ---- the file

-- what reading gives: the whole, or the fault with its record
pub data Reading (X : Type 0) : Type 0 where
  whole : X → Reading X
  refused : Reply → ℕ → Reading X

-- after the last record, the r-th: 13
abbrev pub ending : ℕ → List ℕ → Reading (List Item)
ending r [] = whole []
ending r (b ∷ l) = refused After r

-- the item, then those after it
abbrev pub with_item : Item → Reading (List Item) → Reading (List Item)
with_item i (whole l) = whole (i ∷ l)
with_item i (refused f r) = refused f r

-- record r, then those after it
abbrev pub with_record : ℕ → Taken Item → (List ℕ → Reading (List Item)) → Reading (List Item)
with_record r (got i l) later = with_item i (later l)
with_record r (bad f) later = refused f r

-- n records, after r of them; the record being read counts from 1
unfoldable pub records_from : ℕ → ℕ → ℕ → List ℕ → Reading (List Item)
records_from N r zero l = ending r l
records_from N r (suc n) l = with_record (suc r) (record_from N l) (records_from N (suc r) n)

-- a header and its items
pub record Case : Type 0 where
  pub header : Header
  pub items : List Item

-- the header, then its records
abbrev pub case_with : Header → Reading (List Item) → Reading Case
case_with h (whole l) = whole (record { header = h; items = l })
case_with h (refused f r) = refused f r

-- the header is record 0
abbrev pub case_after : Taken Header → Reading Case
case_after (got h l) = case_with h (records_from (h.assumptions + h.claims) 0 h.records l)
case_after (bad f) = refused f 0

-- the case that the bytes spell
unfoldable pub case_of : List ℕ → Reading Case
case_of l = case_after (header_from l)

-- ---- what is held

-- j with those of H, each once
unfoldable pub joined : Justification → List Justification → List Justification
joined j H = choose (some_of (same_justification j) H) H (put j H)

-- the items one after another, after those of H; repeated records are held once
unfoldable pub gathered : ℕ → List Justification → List Item → List Justification
gathered N H [] = H
gathered N H (i ∷ l) = gathered N (joined (justification_of N i.consequent i.supports) H) l

-- what is held of a case
abbrev pub held_by : Case → List Justification
held_by s = gathered (s.header.assumptions + s.header.claims) [] s.items

-- ---- the answer

-- a fault with its record
abbrev pub refused_of : Reply → ℕ → Result Parsed Fault
refused_of f r = Err (record { reply = f; «record» = r })

-- the announced count, and what is held
abbrev pub done_of : Case → Parsed
done_of s = record { records = s.header.records; held = held_of s.header.assumptions s.header.claims (held_by s) }

-- one or the other
abbrev pub parsed_of : Reading Case → Result Parsed Fault
parsed_of (whole s) = Ok (done_of s)
parsed_of (refused f r) = refused_of f r

-- what a case file says
unfoldable pub parse_of : List ℕ → Result Parsed Fault
parse_of l = parsed_of (case_of l)

abbrev pub Parses : List ℕ → Result Parsed Fault → Type 0
Parses l r = r ≡ parse_of l
