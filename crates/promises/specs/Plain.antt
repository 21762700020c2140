-- The plain path: on every store made by the calls it answers as the labels do; its lines over what was put in; and the same from a bare list. Assumes nothing.
use Rattle.std.specs.Prelude.{true, List, ◌++◌, ◌≡◌, ◌+◌, ◌<◌, ◌^◌, ◌≤◌, ℕ, eqb, drop, get_or, length, Result, Ok, Err}
use Rattle.asking.specs.declared.Answer.{Answer}
use Rattle.asking.specs.declared.Answer.TheVariants.{Inconsistent as Against, Supported as For, Unsupported as Neither}
use Rattle.bare.specs.Bare.{answered, barely, faults_of, said_as, tell_of}
use Rattle.bare.specs.declared.Query.{Query}
use Rattle.bare.specs.declared.Told.TheVariants.{Filled, Lines, Word}
use Rattle.bare.specs.declared.What.{What}
use Rattle.bare.specs.declared.What.TheVariants.{Context, Number as Of, Stages}
use Rattle.handed.specs.declared.Handed.{Handed}
use Rattle.plain.specs.Plainly.{plain_by}
use Rattle.plain.specs.declared.Plain.{Plain}
use Rattle.plain.specs.declared.Plain.TheVariants.{Inconsistent, Supported, Unsupported}
use Rattle.promises.specs.Calls.{Calls, context, over, plain_context, plainly, question, reads, stage_lines, written}
use Rattle.promises.specs.Made.{Input, Made, SameMembers}
use Rattle.replies.specs.Replies.{checked}
use Rattle.replies.specs.declared.Reply.{Reply}
use Rattle.replies.specs.declared.Reply.TheVariants.{Done}
use Rattle.rules.specs.Held.{said_by}
use Rattle.stagetext.specs.Stagetext.{longest, stage_text}
use Rattle.store.specs.Shape.{right_shape, top}
use Rattle.store.specs.declared.Store.{Store}
use Rattle.theory.specs.Limits.{limits}
use Rattle.theory.specs.Lists.{choose}
use Rattle.theory.specs.Places.{table}

-- the answer of the labels, its name left out
abbrev pub word_alone : Result Answer Reply → Result Plain Reply
word_alone (Ok (Against G)) = Ok Inconsistent
word_alone (Ok (For F)) = Ok Supported
word_alone (Ok Neither) = Ok Unsupported
word_alone (Err r) = Err r

-- 0 in place of 3
abbrev pub unthird : ℕ → ℕ
unthird x = choose (eqb x 3) 0 x

abbrev pub asking : ℕ → ℕ → What → ℕ → Query
asking A M w E = record { assumptions = A; claims = M; what = w; set = E }

pub record PlainPath (C : Calls) : Type 0 where
  -- of every store made by the calls, every number and every set, refusals too: the three replies are those of the labels
  pub replies : {A M : ℕ} {H : Input} {s : Store} → Made C A M H s → (n E : ℕ) → (C.reading s (plainly n E)).said ≡ word_alone (C.reading s (question n E)).said
  -- so is the reply of the context ..
  pub context_reply_lem : {A M : ℕ} {H : Input} {s : Store} → Made C A M H s → (E : ℕ) (out : List ℕ) → (C.reading s (plain_context E out)).said ≡ (C.reading s (context E out)).said
  -- .. and so are its bytes, with 0 in place of 3; later ones are kept
  pub context_bytes_lem : {A M : ℕ} {H : Input} {s : Store} → Made C A M H s → (E : ℕ) (out : List ℕ) → E < 2 ^ A → A + M + 1 ≤ length out
      → C.reading s (plain_context E out) ≡ reads (plain_context E out) Done s (table (A + M + 1) (λ n. unthird (get_or (C.reading s (context E out)).bytes n 0)) ++ drop (A + M + 1) out)
  -- what is answered, over what was put in
  pub says : {A M : ℕ} {H : Input} {s : Store} → Made C A M H s → (n E : ℕ) → n ≤ A + M → E < 2 ^ A → (C.reading s (plainly n E)).said ≡ Ok (plain_by H E n)
  -- the lines: one a stage from 0 up to the last with something new
  pub lines : {A M : ℕ} {H : Input} {s : Store} → Made C A M H s → (E : ℕ) (out : List ℕ) → E < 2 ^ A → length (stage_text (A + M) H E) ≤ length out
      → C.reading s (stage_lines E out) ≡ reads (stage_lines E out) (written (stage_text (A + M) H E)) s (over (stage_text (A + M) H E) out)
  -- so many lent bytes are always enough: for what was put in, ..
  pub enough : {A M : ℕ} {H : Input} {s : Store} → Made C A M H s → (E : ℕ) → length (stage_text (A + M) H E) ≤ longest
  -- .. for any store of right shape, forged or not, and for a bare list without fault
  pub enough_held : (s : Store) → right_shape s ≡ true → (E : ℕ) → length (stage_text (top s.held) (said_by s.held) E) ≤ longest
  pub enough_bare : (A M : ℕ) (l : List Handed) → A ≤ limits.assumptions → M ≤ limits.claims → faults_of (A + M) l ≡ Done → (E : ℕ) → length (stage_text (A + M) (barely (A + M) l) E) ≤ longest
  -- a bare list, any number of items: what follows by it, and nothing else
  pub bare : (q : Query) (l : List Handed) (out : List ℕ) → q.assumptions ≤ limits.assumptions → q.claims ≤ limits.claims → faults_of (q.assumptions + q.claims) l ≡ Done → q.set < 2 ^ q.assumptions
      → C.bare q l out ≡ tell_of (q.assumptions + q.claims) (barely (q.assumptions + q.claims) l) q.set q.what out
  -- where a made store has the same put in, it answers as the store's calls do, refusals too
  pub bare_question : {A M : ℕ} {H : Input} {s : Store} → Made C A M H s → (l : List Handed) → faults_of (A + M) l ≡ Done → SameMembers H (barely (A + M) l)
      → (n E : ℕ) (out : List ℕ) → C.bare (asking A M (Of n) E) l out ≡ answered (said_as Word (C.reading s (plainly n E)).said) out
  pub bare_context : {A M : ℕ} {H : Input} {s : Store} → Made C A M H s → (l : List Handed) → faults_of (A + M) l ≡ Done → SameMembers H (barely (A + M) l)
      → (E : ℕ) (out : List ℕ) → C.bare (asking A M Context E) l out ≡ answered (said_as (λ _. Filled) (checked (C.reading s (plain_context E out)).said)) (C.reading s (plain_context E out)).bytes
  pub bare_lines : {A M : ℕ} {H : Input} {s : Store} → Made C A M H s → (l : List Handed) → faults_of (A + M) l ≡ Done → SameMembers H (barely (A + M) l)
      → (E : ℕ) (out : List ℕ) → C.bare (asking A M Stages E) l out ≡ answered (said_as Lines (C.reading s (stage_lines E out)).said) (C.reading s (stage_lines E out)).bytes
