-- What a call that writes into lent bytes leaves. Assumes nothing.
use Rattle.std.specs.Prelude.{List, ◌++◌, ◌≡◌, ℕ, ltb, drop, length, Result, Ok, Err}
use Rattle.std.proofs.Math.Option.{Option, none, some}
use Rattle.lent.specs.declared.Listed.{Listed}
use Rattle.replies.specs.Replies.{number_of}
use Rattle.replies.specs.declared.Reply.{Reply}
use Rattle.replies.specs.declared.Reply.TheVariants.{Short}
use Rattle.store.specs.declared.Store.{Store}
use Rattle.theory.specs.Lists.{choose}

-- what a call that writes leaves: its answer and the lent bytes
pub record Wrote : Type 0 where
  pub answer : Result ℕ Reply
  pub bytes : List ℕ

-- a refusal reports no length and keeps every byte
abbrev pub kept : Reply → List ℕ → Wrote
kept r out = record { answer = Err r; bytes = out }

-- 15 where the lent bytes are shorter than the text; else the text and its length, bytes after it kept
unfoldable pub fitted : List ℕ → List ℕ → Wrote
fitted t out =
    choose (ltb (length out) (length t)) (kept Short out)
    (record { answer = Ok (length t); bytes = t ++ drop (length t) out })

-- the answer r and the lent bytes after the call are those of w
abbrev pub Leaves : Wrote → Result ℕ Reply → List ℕ → Type 0
Leaves w r after = record { answer = r; bytes = after } ≡ w

-- .. and the store in the answer is the one that came in
abbrev pub Hands : Store → Wrote → Listed → List ℕ → Type 0
Hands s w r after = (r ≡ record { answer = w.answer; store = s }) × (after ≡ w.bytes)

-- the document's number of each answer
abbrev pub written_number : Result ℕ Reply → ℕ
written_number (Ok n) = 0
written_number (Err r) = number_of r

-- the length that it reports; a refusal reports none
abbrev pub written_length : Result ℕ Reply → Option ℕ
written_length (Ok n) = some n
written_length (Err r) = none
