-- Question and context without labels: read from what follows from the set, stage by stage. Assumes nothing.
use Rattle.std.specs.Prelude.{◌||◌, not, List, ◌++◌, ◌≡◌, ◌+◌, ℕ, ltb, drop, get_or, length, Result, Ok, Err}
use Rattle.asking.specs.Asking.{context_reply, left}
use Rattle.following.specs.First.{since_of}
use Rattle.plain.specs.declared.Plain.{Plain}
use Rattle.plain.specs.declared.Plain.TheVariants.{Inconsistent, Supported, Unsupported}
use Rattle.plain.specs.declared.Told.{Told}
use Rattle.replies.specs.Replies.{number_of}
use Rattle.replies.specs.declared.Reply.{Reply}
use Rattle.replies.specs.declared.Reply.TheVariants.{Done, Number, Shape, Short}
use Rattle.rules.specs.Held.{said_by}
use Rattle.store.specs.Calls.{answer, is_done}
use Rattle.store.specs.Reading.{refusal_of}
use Rattle.store.specs.Shape.{right_shape, top}
use Rattle.store.specs.declared.Outcome.{Outcome}
use Rattle.store.specs.declared.Store.{Store}
use Rattle.theory.specs.Demands.{carries, contradicts}
use Rattle.theory.specs.Limits.{limits}
use Rattle.theory.specs.Lists.{choose}
use Rattle.theory.specs.Places.{table}
use Rattle.theory.specs.Sets.{in_range}
use Rattle.theory.specs.Stages.{Justification}

-- inconsistent if falsity follows from E; else supported if n follows from E; else unsupported
unfoldable pub plain_by : List Justification → ℕ → ℕ → Plain
plain_by J E n = choose (contradicts J E) Inconsistent (choose (carries J E n) Supported Unsupported)

-- the same, read from marks
unfoldable pub read_from : List ℕ → ℕ → Plain
read_from m n = choose (ltb (get_or m 0 255) 255) Inconsistent (choose (ltb (get_or m n 255) 255) Supported Unsupported)

-- the word for n; 4 where n is above N
abbrev pub word_in : List ℕ → ℕ → ℕ → Result Plain Reply
word_in m N n = choose (ltb N n) (Err Number) (Ok (read_from m n))

-- for each number the first stage at which it follows from E; or the refusal of a call that reads n and E
unfoldable pub followed_of : Store → ℕ → ℕ → Result (List ℕ) Reply
followed_of s n E = choose (is_done (refusal_of s n E)) (Ok (table (limits.numbers + 1) (since_of (said_by s.held) E))) (Err (refusal_of s n E))

-- ---- question

unfoldable pub plain_of : Store → ℕ → ℕ → Result Plain Reply
plain_of s n E =
    choose (not (right_shape s)) (Err Shape)
    (choose (ltb (top s.held) n || not (in_range s.held.assumptions E)) (Err Number)
    (Ok (plain_by (said_by s.held) E n)))

-- the store in the answer is the one that came in
abbrev pub Questioned : Store → ℕ → ℕ → Told → Type 0
Questioned s n E r = r ≡ record { answer = plain_of s n E; store = s }

-- ---- context

-- 2 if E is inconsistent, else 1 if n is supported, else 0
abbrev pub byte_of : Plain → ℕ
byte_of Inconsistent = 2
byte_of Supported = 1
byte_of Unsupported = 0

-- the bytes of 0 to N, read from marks: 15 where there are fewer, and then all are kept; else those after them are kept
abbrev pub fill_reply : ℕ → ℕ → Reply
fill_reply N room = choose (ltb room (N + 1)) Short Done

unfoldable pub fill_bytes : List ℕ → ℕ → List ℕ → List ℕ
fill_bytes m N out = choose (ltb (length out) (N + 1)) out (table (N + 1) (λ n. byte_of (read_from m n)) ++ drop (N + 1) out)

-- the bytes of 0 to A + M
unfoldable pub plain_bytes : Store → ℕ → List ℕ
plain_bytes s E = table (top s.held + 1) (λ n. byte_of (plain_by (said_by s.held) E n))

-- the reply is that of the context by labels. The lent bytes after the call: a refusal keeps them all, else those after the context are kept
unfoldable pub plain_after : Store → ℕ → List ℕ → List ℕ
plain_after s E out = choose (is_done (context_reply s E (length out))) (plain_bytes s E ++ drop (top s.held + 1) out) out

abbrev pub Contexted : Store → ℕ → List ℕ → Outcome → List ℕ → Type 0
Contexted s E out r after = left r after ≡ left (answer (context_reply s E (length out)) s) (plain_after s E out)

-- the document's number of an answer
abbrev pub plain_number : Result Plain Reply → ℕ
plain_number (Ok a) = 0
plain_number (Err r) = number_of r
