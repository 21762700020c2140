-- Question, context and lines from a bare list of justifications, as document 02 has them. Assumes nothing.
use Rattle.std.specs.Prelude.{not, List, [], ◌++◌, ◌∷◌, map, ◌≡◌, ◌+◌, ℕ, ltb, drop, length, Err, Result, Ok, Bool, true, false}
use Rattle.bare.specs.declared.Query.{Query}
use Rattle.bare.specs.declared.Told.{Told}
use Rattle.bare.specs.declared.Told.TheVariants.{Filled, Lines, Word}
use Rattle.bare.specs.declared.What.{What}
use Rattle.bare.specs.declared.What.TheVariants.{Context, Number as Of, Stages}
use Rattle.handed.specs.Supplied.{supplied_by}
use Rattle.handed.specs.declared.Handed.{Handed}
use Rattle.lent.specs.Lent.{Wrote, fitted}
use Rattle.plain.specs.Plainly.{byte_of, fill_bytes, fill_reply, plain_by, word_in}
use Rattle.replies.specs.Replies.{checked, number_of}
use Rattle.replies.specs.declared.Reply.{Reply}
use Rattle.replies.specs.declared.Reply.TheVariants.{Counts, Done, Number, Short}
use Rattle.rules.specs.Items.{fault_of, justification_of}
use Rattle.stagetext.specs.Stagetext.{put_of, stage_text}
use Rattle.store.specs.Calls.{is_done}
use Rattle.theory.specs.Limits.{over_counts}
use Rattle.theory.specs.Lists.{choose}
use Rattle.theory.specs.Places.{table}
use Rattle.theory.specs.Sets.{in_range}
use Rattle.theory.specs.Stages.{Justification}

-- ---- the list

-- the justification that an item hands over, N being A + M
abbrev pub just_of : ℕ → Handed → Justification
just_of N h = justification_of N h.consequent (supplied_by h)

abbrev pub barely : ℕ → List Handed → List Justification
barely N l = map (just_of N) l

-- the first fault of an item: 6, 4, 5, 17
abbrev pub fault_of_item : ℕ → Handed → Reply
fault_of_item N h = fault_of N h.consequent (supplied_by h)

-- the fault of the first item that has one
unfoldable pub faults_of : ℕ → List Handed → Reply
faults_of N [] = Done
faults_of N (h ∷ l) = let later : Reply = faults_of N l in choose (is_done (fault_of_item N h)) later (fault_of_item N h)

-- ---- the call

-- what the call leaves: the answer and the lent bytes
pub record Answered : Type 0 where
  pub answer : Result Told Reply
  pub bytes : List ℕ

abbrev pub answered : Result Told Reply → List ℕ → Answered
answered r b = record { answer = r; bytes = b }

-- what a call of a store answers, as this call says it; a refusal is handed on as it is
abbrev pub said_as : {X : Type 0} → (X → Told) → Result X Reply → Result Told Reply
said_as say (Ok x) = Ok (say x)
said_as say (Err r) = Err r

-- the answer is of the kind that is asked for
abbrev pub in_kind : What → Told → Bool
in_kind (Of n) (Word a) = true
in_kind (Of n) Filled = false
in_kind (Of n) (Lines k) = false
in_kind Context (Word a) = false
in_kind Context Filled = true
in_kind Context (Lines k) = false
in_kind Stages (Word a) = false
in_kind Stages Filled = false
in_kind Stages (Lines k) = true

-- the text written, or 15
abbrev pub wrote_as : Wrote → Answered
wrote_as w = answered (said_as Lines w.answer) w.bytes

-- what follows from E by J, of the numbers up to N: 4 for the number asked, 15 for too few bytes
abbrev pub tell_of : ℕ → List Justification → ℕ → What → List ℕ → Answered
tell_of N J E (Of n) out = answered (choose (ltb N n) (Err Number) (Ok (Word (plain_by J E n)))) out
tell_of N J E Context out =
    choose (ltb (length out) (N + 1)) (answered (Err Short) out)
    (answered (Ok Filled) (table (N + 1) (λ n. byte_of (plain_by J E n)) ++ drop (N + 1) out))
tell_of N J E Stages out = wrote_as (fitted (stage_text N J E) out)

-- 3, then each item in order by 6, 4, 5, 17, then 4 for the number or set asked, then 15; a refusal keeps every byte
unfoldable pub ask_of : Query → List Handed → List ℕ → Answered
ask_of q l out =
    let N : ℕ = q.assumptions + q.claims in
    choose (over_counts q.assumptions q.claims) (answered (Err Counts) out)
    (choose (not (is_done (faults_of N l))) (answered (Err (faults_of N l)) out)
    (choose (not (in_range q.assumptions q.set)) (answered (Err Number) out)
    (tell_of N (barely N l) q.set q.what out)))

abbrev pub Answers : Query → List Handed → List ℕ → Result Told Reply → List ℕ → Type 0
Answers q l out r after = answered r after ≡ ask_of q l out

-- the document's number of an answer
abbrev pub told_number : Result Told Reply → ℕ
told_number (Ok t) = 0
told_number (Err r) = number_of r

-- ---- as it is read from marks

-- what the marks say of the numbers up to N
abbrev pub told_in : List ℕ → ℕ → What → List ℕ → Answered
told_in m N (Of n) out = answered (said_as Word (word_in m N n)) out
told_in m N Context out = answered (said_as (λ _. Filled) (checked (fill_reply N (length out)))) (fill_bytes m N out)
told_in m N Stages out = wrote_as (put_of m N out)
