-- The reply table of document 01: for every call, every input, forged stores included, and every number, the exact condition of the answer. Assumes nothing.
use Rattle.std.specs.Prelude.{false, ◌↔◌, ◌⊎◌, ◌≡◌, ◌*◌, ◌+◌, ◌-◌, ◌<◌, ◌^◌, ◌≤◌, suc, zero, ℕ, drop, length, Result, Ok, Err}
use mathlib.Core.List.{List, Memᴰ as Mem, [], ◌∷◌}
use Rattle.std.proofs.Math.Option.{some}
use Rattle.bare.specs.Bare.{barely, told_number}
use Rattle.bare.specs.declared.Query.{Query}
use Rattle.bare.specs.declared.What.{What}
use Rattle.bare.specs.declared.What.TheVariants.{Context, Number as Of, Stages}
use Rattle.casefile.specs.Case.{Case, Reading, case_of, refused, whole}
use Rattle.handed.specs.Supplied.{supplied_by}
use Rattle.handed.specs.declared.Handed.{Handed}
use Rattle.lent.specs.Lent.{written_number}
use Rattle.lines.specs.Lines.{case_text, line_text, refusal_text}
use Rattle.numbers.specs.declared.Number.{Number}
use Rattle.promises.specs.Calls.{Ask, Calls, case_line, context, file, line, list_all, member, number_said, plain_context, plainly, question, stage_lines}
use Rattle.promises.specs.Made.{put_in}
use Rattle.promises.specs.Room.{Above, LabelFull, NogoodsFull}
use Rattle.promises.specs.Rows.{given, no_row}
use Rattle.replies.specs.Replies.{named_by, number_of}
use Rattle.replies.specs.declared.Reply.{Reply}
use Rattle.rules.specs.Held.{dropped, said_by}
use Rattle.rules.specs.Items.{justification_of}
use Rattle.rules.specs.declared.Held.{Held}
use Rattle.stagetext.specs.Stagetext.{stage_text}
use Rattle.store.specs.Reading.{list_held}
use Rattle.store.specs.Shape.{held_fits, right_shape, top}
use Rattle.store.specs.declared.Store.{Store}
use Rattle.theory.specs.Limits.{limits}
use Rattle.theory.specs.Stages.{Justification}
use Rattle.listing.specs.Listing.{listing_of, listing_text}
use Rattle.writing.specs.Writing.{file_of}

-- ---- open

-- A or M above its limit
abbrev pub OverCounts : ℕ → ℕ → Type 0
OverCounts A M = (limits.assumptions < A) ⊎ (limits.claims < M)

abbrev pub OpenRows : ℕ → ℕ → ℕ → Type 0
OpenRows A M = given (OverCounts A M) 3 no_row

-- ---- add

-- the stages of J, with A assumptions and the numbers up to N: at the first stage with a list over its limit 9 if the nogoods are over, else 8
abbrev pub StageRows : ℕ → ℕ → List Justification → ℕ → Type 0
StageRows A N J =
    given (NogoodsFull A N J) 9
    (given ((n : ℕ) × LabelFull A N J n) 8
    no_row)

-- consequent c with supports l, as s holds it
abbrev pub handed : Store → ℕ → List ℕ → Justification
handed s c l = justification_of (top s.held) c l

-- what s holds, with it
abbrev pub enlarged : Store → ℕ → List ℕ → List Justification
enlarged s c l = handed s c l ∷ said_by s.held

-- a justification handed over: the shape, the faults of the item, then the next rows
abbrev pub HandedRows : Store → ℕ → List ℕ → (ℕ → Type 0) → ℕ → Type 0
HandedRows s c l next =
    given (right_shape s ≡ false) 2
    (given (limits.supports < length l) 6
    (given (Above (top s.held) c l) 4
    (given (Mem 0 l) 5
    (given (Mem c l) 17
    next))))

abbrev pub AddRows : Store → ℕ → List ℕ → ℕ → Type 0
AddRows s c l =
    HandedRows s c l
    (given (Mem (handed s c l) (said_by s.held)) 1
    (given (limits.held ≤ s.held.count) 7
    (StageRows s.held.assumptions (top s.held) (enlarged s c l))))

-- ---- add a list

-- fewer bytes than items is 15; the reply of each item is that of adding it (`OneByOne`)
abbrev pub AllRows : Store → List Handed → List ℕ → ℕ → Type 0
AllRows s l out = given (right_shape s ≡ false) 2 (given (length out < length l) 15 no_row)

-- ---- withdraw

-- what s holds, without it
abbrev pub lessened : Store → ℕ → List ℕ → List Justification
lessened s c l = dropped (handed s c l) (said_by s.held)

abbrev pub WithdrawRows : Store → ℕ → List ℕ → ℕ → Type 0
WithdrawRows s c l =
    HandedRows s c l
    (given (Mem (handed s c l) (said_by s.held) → ⊥) 18
    (StageRows s.held.assumptions (top s.held) (lessened s c l)))

-- ---- judging what is held in its places

abbrev pub JudgeRows : Held → ℕ → Type 0
JudgeRows h = given (held_fits h ≡ false) 2 (StageRows h.assumptions (top h) (said_by h))

-- ---- the calls that read

-- an assumption above A in the set E
abbrev pub Outside : Store → ℕ → Type 0
Outside s E = 2 ^ s.held.assumptions ≤ E

-- of a store of right shape
abbrev pub ShapedRows : Store → Ask → ℕ → Type 0
ShapedRows s (question n E) = given ((top s.held < n) ⊎ Outside s E) 4 no_row
ShapedRows s (context E out) = given (Outside s E) 4 (given (length out < top s.held + 1) 15 no_row)
ShapedRows s (member n place) = given (top s.held < n) 4 (given (length (list_held s.lists n) ≤ place) 16 no_row)
ShapedRows s (line n out) = given (top s.held < n) 4 (given (length out < length (line_text s n)) 15 no_row)
ShapedRows s (case_line out) = given (length out < length (case_text s)) 15 no_row
ShapedRows s (list_all out) = given (length out < length (listing_text s)) 15 no_row
ShapedRows s (file out) = given (length out < length (file_of s.held)) 15 no_row
-- as the calls that they mirror; the lines as context
ShapedRows s (plainly n E) = given ((top s.held < n) ⊎ Outside s E) 4 no_row
ShapedRows s (plain_context E out) = given (Outside s E) 4 (given (length out < top s.held + 1) 15 no_row)
ShapedRows s (stage_lines E out) = given (Outside s E) 4 (given (length out < length (stage_text (top s.held) (said_by s.held) E)) 15 no_row)

abbrev pub AskRows : Store → Ask → ℕ → Type 0
AskRows s a = given (right_shape s ≡ false) 2 (ShapedRows s a)

-- ---- a bare list

-- each item in order by 6, 4, 5, 17
unfoldable pub ItemRows : ℕ → List Handed → (ℕ → Type 0) → ℕ → Type 0
ItemRows N [] next = next
ItemRows N (h ∷ l) next =
    given (limits.supports < length (supplied_by h)) 6
    (given (Above N h.consequent (supplied_by h)) 4
    (given (Mem 0 (supplied_by h)) 5
    (given (Mem h.consequent (supplied_by h)) 17
    (ItemRows N l next))))

-- the number asked is above N
abbrev pub AskedOver : ℕ → What → Type 0
AskedOver N (Of n) = N < n
AskedOver N Context = ⊥
AskedOver N Stages = ⊥

-- fewer lent bytes than what is asked needs
abbrev pub TooFew : ℕ → List Justification → ℕ → What → List ℕ → Type 0
TooFew N J E (Of n) out = ⊥
TooFew N J E Context out = length out < N + 1
TooFew N J E Stages out = length out < length (stage_text N J E)

-- 3, then each item in order, then 4 for the number or set asked, then 15
abbrev pub BareRows : Query → List Handed → List ℕ → ℕ → Type 0
BareRows q l out =
    let N : ℕ = q.assumptions + q.claims in
    given (OverCounts q.assumptions q.claims) 3
    (ItemRows N l
    (given (AskedOver N q.what ⊎ (2 ^ q.assumptions ≤ q.set)) 4
    (given (TooFew N (barely N l) q.set q.what out) 15 no_row)))

-- ---- the line of a refusal

abbrev pub RefusalRows : Reply → ℕ → List ℕ → ℕ → Type 0
RefusalRows r k out = given (length out < length (refusal_text r k)) 15 no_row

-- ---- what is printed of a file

abbrev pub PrintRows : List ℕ → List ℕ → ℕ → Type 0
PrintRows bytes out = given (length out < length (listing_of bytes)) 15 no_row

-- ---- load

-- the number, and the record being read, from 1; the header is record 0
abbrev pub Reported : Type 0
Reported = ℕ × ℕ

-- numbers are taken from the file one after another, and the first fault decides: the rows after what was taken, with the bytes left
abbrev pub Next : Type 0 → Type 1
Next X = X → List ℕ → Reported → Type 0

-- in record k, after a byte b of 128 or more: a missing byte is 11; any byte but 1 to 127 is 12
unfoldable pub SecondRows : ℕ → ℕ → List ℕ → Next ℕ → Reported → Type 0
SecondRows k b [] next a = a ≡ (11, k)
SecondRows k b (c ∷ l) next a = given ((c < 1) ⊎ (127 < c)) (12, k) (next (b - 128 + 128 * c) l) a

-- a number: a missing byte is 11; a byte below 128 is the number
unfoldable pub NumberRows : ℕ → List ℕ → Next ℕ → Reported → Type 0
NumberRows k [] next a = a ≡ (11, k)
NumberRows k (b ∷ l) next a = ((b < 128) × next b l a) ⊎ ((128 ≤ b) × SecondRows k b l next a)

-- n numbers
unfoldable pub NumbersRows : ℕ → ℕ → List ℕ → Next (List ℕ) → Reported → Type 0
NumbersRows k zero l next = next [] l
NumbersRows k (suc n) l next = NumberRows k l (λ x l₁. NumbersRows k n l₁ (λ xs l₂. next (x ∷ xs) l₂))

-- n records more, after r of them, which put in H. After a record's number of supports: 6; after its supports: 4, then 5, then 17; after the last record: 13; then the stages
unfoldable pub RecordRows : ℕ → ℕ → ℕ → ℕ → List Justification → List ℕ → Reported → Type 0
RecordRows A N zero r H l = given (0 < length l) (13, r) (λ a. StageRows A N H a.0 × (a.1 ≡ r))
RecordRows A N (suc n) r H l =
    NumberRows (suc r) l (λ c l₁.
    NumberRows (suc r) l₁ (λ k l₂.
    given (limits.supports < k) (6, suc r)
    (NumbersRows (suc r) k l₂ (λ s l₃.
    given (Above N c s) (4, suc r)
    (given (Mem 0 s) (5, suc r)
    (given (Mem c s) (17, suc r)
    (RecordRows A N n (suc r) (justification_of N c s ∷ H) l₃)))))))

-- the number at a place of the bytes: 0 and the number, or the fault
abbrev pub reported : Result Number Reply → Reported
reported (Ok x) = (0, x.value)
reported (Err f) = (number_of f, 0)

abbrev pub DecodeRows : List ℕ → ℕ → Reported → Type 0
DecodeRows bytes at = NumberRows 0 (drop at bytes) (λ x rest a. a ≡ (0, x))

-- the next number begins one byte on after a number below 128, else two
abbrev pub Onward : ℕ → ℕ → ℕ → Type 0
Onward at n next = ((n < 128) × (next ≡ at + 1)) ⊎ ((128 ≤ n) × (next ≡ at + 2))

-- A, M, count J; after the header: 3, then 7; then J records
abbrev pub LoadRows : List ℕ → Reported → Type 0
LoadRows l =
    NumberRows 0 l (λ A l₁.
    NumberRows 0 l₁ (λ M l₂.
    NumberRows 0 l₂ (λ J l₃.
    given (OverCounts A M) (3, 0)
    (given (limits.held < J) (7, 0)
    (RecordRows A (A + M) J 0 [] l₃)))))

-- n is the lowest number whose label is over, in the stages of the whole file
abbrev pub LoadNames : Reading Case → ℕ → Type 0
LoadNames (whole f) n = LabelFull f.header.assumptions (f.header.assumptions + f.header.claims) (put_in f) n
LoadNames (refused x r) n = ⊥

-- ---- the table

pub record ReplyTable (C : Calls) : Type 0 where
  pub opening : (A M a : ℕ) → (number_of (C.opening A M).reply ≡ a) ↔ OpenRows A M a
  pub adding : (s : Store) (c : ℕ) (l : List ℕ) (a : ℕ) → (number_of (C.adding s c l).reply ≡ a) ↔ AddRows s c l a
  pub adding_all : (s : Store) (l : List Handed) (out : List ℕ) (a : ℕ) → (number_of (C.adding_all s l out).outcome.reply ≡ a) ↔ AllRows s l out a
  pub withdrawing : (s : Store) (c : ℕ) (l : List ℕ) (a : ℕ) → (number_of (C.withdrawing s c l).reply ≡ a) ↔ WithdrawRows s c l a
  pub reading : (s : Store) (q : Ask) (a : ℕ) → (number_said q (C.reading s q).said ≡ a) ↔ AskRows s q a
  pub loading : (bytes : List ℕ) (a : Reported) → ((number_of (C.loading bytes).reply, (C.loading bytes).«record») ≡ a) ↔ LoadRows bytes a
  pub judging : (h : Held) (a : ℕ) → (number_of (C.judging h).reply ≡ a) ↔ JudgeRows h a
  pub shape : (s : Store) → C.shape s ≡ right_shape s
  pub refusal : (r : Reply) (k : ℕ) (out : List ℕ) (a : ℕ) → (written_number (C.refusal r k out).answer ≡ a) ↔ RefusalRows r k out a
  pub printing : (bytes out : List ℕ) (a : ℕ) → (written_number (C.printing bytes out).answer ≡ a) ↔ PrintRows bytes out a
  pub bare : (q : Query) (l : List Handed) (out : List ℕ) (a : ℕ) → (told_number (C.bare q l out).answer ≡ a) ↔ BareRows q l out a
  pub decoding : (bytes : List ℕ) (at : ℕ) (a : Reported) → (reported (C.decoding bytes at) ≡ a) ↔ DecodeRows bytes at a
  pub onward : (bytes : List ℕ) (at n next : ℕ) → C.decoding bytes at ≡ Ok (record { value = n; next = next }) → Onward at n next
  -- 8 names the lowest such claim or assumption; no other reply names one
  pub adding_names : (s : Store) (c : ℕ) (l : List ℕ) (n : ℕ) → (named_by (C.adding s c l).reply ≡ some n)
      ↔ ((number_of (C.adding s c l).reply ≡ 8) × LabelFull s.held.assumptions (top s.held) (enlarged s c l) n)
  pub withdrawing_names : (s : Store) (c : ℕ) (l : List ℕ) (n : ℕ) → (named_by (C.withdrawing s c l).reply ≡ some n)
      ↔ ((number_of (C.withdrawing s c l).reply ≡ 8) × LabelFull s.held.assumptions (top s.held) (lessened s c l) n)
  pub loading_names : (bytes : List ℕ) (n : ℕ) → (named_by (C.loading bytes).reply ≡ some n) ↔ ((number_of (C.loading bytes).reply ≡ 8) × LoadNames (case_of bytes) n)
  -- the number 10 stays unused
  pub no_ten : (r : Reply) → number_of r ≡ 10 → ⊥
  pub judging_names : (h : Held) (n : ℕ) → (named_by (C.judging h).reply ≡ some n) ↔ ((number_of (C.judging h).reply ≡ 8) × LabelFull h.assumptions (top h) (said_by h) n)
