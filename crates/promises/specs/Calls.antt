-- The calls as one value, so that a demand can be said of any program. Assumes nothing.
use Rattle.std.specs.Prelude.{Bool, List, [], ◌++◌, ℕ, drop, length, Result, Ok}
use Rattle.asking.specs.Asking.{Left, answer_number, context_bytes, context_reply, left, member_number, member_of, question_of}
use Rattle.asking.specs.declared.Answer.{Answer}
use Rattle.bare.specs.Bare.{Answered, ask_of}
use Rattle.bare.specs.declared.Query.{Query}
use Rattle.casefile.specs.Load.{load_of}
use Rattle.casefile.specs.declared.Loaded.{Loaded}
use Rattle.handed.specs.declared.Handed.{Handed}
use Rattle.lent.specs.Lent.{Wrote, fitted, written_number}
use Rattle.lines.specs.Lines.{heading_of, line_of, refusal_text}
use Rattle.numbers.specs.Numbers.{number_at}
use Rattle.numbers.specs.declared.Number.{Number}
use Rattle.plain.specs.Plainly.{plain_after, plain_number, plain_of}
use Rattle.plain.specs.declared.Plain.{Plain}
use Rattle.replies.specs.Replies.{number_of}
use Rattle.replies.specs.declared.Reply.{Reply}
use Rattle.rules.specs.declared.Held.{Held}
use Rattle.season.specs.Season.{add_all_of, bytes_after}
use Rattle.stagetext.specs.Stagetext.{stages_of}
use Rattle.store.specs.Calls.{add_of, judged_of, open_of, withdraw_of}
use Rattle.store.specs.Shape.{right_shape}
use Rattle.store.specs.declared.Outcome.{Outcome}
use Rattle.store.specs.declared.Store.{Store}
use Rattle.listing.specs.Listing.{listed_of, listing_of}
use Rattle.writing.specs.Writing.{write_of}

-- ---- the calls that read

-- what a store is asked
pub data Ask : Type 0 where
  -- of a number and a set
  question : ℕ → ℕ → Ask
  -- of a set, into lent bytes
  context : ℕ → List ℕ → Ask
  -- of a number and a place from 0
  member : ℕ → ℕ → Ask
  -- the text line of a number, and the first line of a listing, into lent bytes
  line : ℕ → List ℕ → Ask
  case_line : List ℕ → Ask
  -- the whole listing, into lent bytes
  list_all : List ℕ → Ask
  -- the case file, into lent bytes
  file : List ℕ → Ask
  -- without labels: of a number and a set; of a set, into lent bytes; the lines of the stages of a set, into lent bytes
  plainly : ℕ → ℕ → Ask
  plain_context : ℕ → List ℕ → Ask
  stage_lines : ℕ → List ℕ → Ask

-- what is said to each
abbrev pub Said : Ask → Type 0
Said (question n E) = Result Answer Reply
Said (context E out) = Reply
Said (member n place) = Result ℕ Reply
Said (line n out) = Result ℕ Reply
Said (case_line out) = Result ℕ Reply
Said (list_all out) = Result ℕ Reply
Said (file out) = Result ℕ Reply
Said (plainly n E) = Result Plain Reply
Said (plain_context E out) = Reply
Said (stage_lines E out) = Result ℕ Reply

-- the document's number of it
abbrev pub number_said : (a : Ask) → Said a → ℕ
number_said (question n E) x = answer_number x
number_said (context E out) x = number_of x
number_said (member n place) x = member_number x
number_said (line n out) x = written_number x
number_said (case_line out) x = written_number x
number_said (list_all out) x = written_number x
number_said (file out) x = written_number x
number_said (plainly n E) x = plain_number x
number_said (plain_context E out) x = number_of x
number_said (stage_lines E out) x = written_number x

-- the bytes lent to the call; none where it takes none
abbrev pub lent_to : Ask → List ℕ
lent_to (question n E) = []
lent_to (context E out) = out
lent_to (member n place) = []
lent_to (line n out) = out
lent_to (case_line out) = out
lent_to (list_all out) = out
lent_to (file out) = out
lent_to (plainly n E) = []
lent_to (plain_context E out) = out
lent_to (stage_lines E out) = out

-- what a call that reads leaves: what it says, the store, and the lent bytes
pub record Read (a : Ask) : Type 0 where
  pub said : Said a
  pub store : Store
  pub bytes : List ℕ

abbrev pub reads : (a : Ask) → Said a → Store → List ℕ → Read a
reads a x s b = record { said = x; store = s; bytes = b }

-- the text t and its length, bytes after it kept
abbrev pub written : List ℕ → Result ℕ Reply
written t = Ok (length t)

abbrev pub over : List ℕ → List ℕ → List ℕ
over t out = t ++ drop (length t) out

-- ---- all of them

-- a call that has a store takes it by value and hands one back
pub record Calls : Type 0 where
  pub opening : ℕ → ℕ → Outcome
  pub loading : List ℕ → Loaded
  -- the store of what is held, judged anew
  pub judging : Held → Outcome
  pub adding : Store → ℕ → List ℕ → Outcome
  -- a list of justifications, with lent bytes for the reply number of each
  pub adding_all : Store → List Handed → List ℕ → Left
  pub withdrawing : Store → ℕ → List ℕ → Outcome
  pub reading : Store → (a : Ask) → Read a
  -- whether a store has the right shape
  pub shape : Store → Bool
  -- the line of a refusal with its record, into lent bytes
  pub refusal : Reply → ℕ → List ℕ → Wrote
  -- what the listing program prints of the bytes of a file, into lent bytes
  pub printing : List ℕ → List ℕ → Wrote
  -- the number at a place of the bytes of a file
  pub decoding : List ℕ → ℕ → Result Number Reply
  -- what is asked of a bare list of justifications, with lent bytes; no store is in it
  pub bare : Query → List Handed → List ℕ → Answered

-- what the contracts of the product's calls that read say
abbrev pub read_of : Store → (a : Ask) → Read a
read_of s (question n E) = reads (question n E) (question_of s n E) s []
read_of s (context E out) = reads (context E out) (context_reply s E (length out)) s (context_bytes s E out)
read_of s (member n place) = reads (member n place) (member_of s n place) s []
read_of s (line n out) = reads (line n out) (line_of s n out).answer s (line_of s n out).bytes
read_of s (case_line out) = reads (case_line out) (heading_of s out).answer s (heading_of s out).bytes
read_of s (list_all out) = reads (list_all out) (listed_of s out).answer s (listed_of s out).bytes
read_of s (file out) = reads (file out) (write_of s out).answer s (write_of s out).bytes
read_of s (plainly n E) = reads (plainly n E) (plain_of s n E) s []
read_of s (plain_context E out) = reads (plain_context E out) (context_reply s E (length out)) s (plain_after s E out)
read_of s (stage_lines E out) = reads (stage_lines E out) (stages_of s E out).answer s (stages_of s E out).bytes

-- ours: what the contracts of the product's calls say of every answer (`Coded`)
abbrev pub ours : Calls
ours = record {
  opening = open_of;
  loading = load_of;
  judging = judged_of;
  adding = add_of;
  adding_all = λ s l out. left (add_all_of s l out) (bytes_after s l out);
  withdrawing = withdraw_of;
  reading = read_of;
  shape = right_shape;
  refusal = λ r k out. fitted (refusal_text r k) out;
  printing = λ bytes out. fitted (listing_of bytes) out;
  decoding = number_at;
  bare = ask_of;
}
