-- Question, context and member, as document 01 has them, read from a store's lists as they stand. Assumes nothing.
use Rattle.std.specs.Prelude.{Bool, ◌||◌, not, List, ◌++◌, ◌≡◌, ◌+◌, ◌<◌, ◌≤◌, ℕ, leb, ltb, drop, get_or, length, Option, Some, None, Result, Ok, Err}
use Rattle.std.specs.List.{find}
use Rattle.asking.specs.declared.Answer.{Answer}
use Rattle.asking.specs.declared.Answer.TheVariants.{Inconsistent, Supported, Unsupported}
use Rattle.asking.specs.declared.Asked.{Asked}
use Rattle.asking.specs.declared.Shown.{Shown}
use Rattle.replies.specs.Replies.{number_of}
use Rattle.replies.specs.declared.Reply.{Reply}
use Rattle.replies.specs.declared.Reply.TheVariants.{Done, Number, Place, Shape, Short}
use Rattle.stages.specs.declared.Lists.{Lists}
use Rattle.store.specs.Calls.{answer, is_done}
use Rattle.store.specs.Reading.{contradicted_in, label_held, list_held, nogoods_held}
use Rattle.store.specs.Shape.{right_shape, top}
use Rattle.store.specs.declared.Outcome.{Outcome}
use Rattle.store.specs.declared.Store.{Store}
use Rattle.theory.specs.Limits.{limits}
use Rattle.theory.specs.Lists.{choose}
use Rattle.theory.specs.Places.{table}
use Rattle.theory.specs.Sets.{in_range, within}

-- every list in its places
pub record Room (l : Lists) : Type 0 where
  pub nogoods : l.count ≤ length l.nogoods
  pub labels : (i : ℕ) → i < limits.numbers → get_or l.sizes i 0 ≤ limits.label

-- ---- question

-- the first member of the list that lies within E
unfoldable pub first_in : List ℕ → ℕ → Option ℕ
first_in l E = find (λ F. within F E) l

-- inconsistent because of the nogood, if there is one; else supported because of the member, if there is one; else unsupported
abbrev pub reasoned : Option ℕ → Option ℕ → Answer
reasoned (Some G) f = Inconsistent G
reasoned None (Some F) = Supported F
reasoned None None = Unsupported

-- inconsistent if E contains a nogood; else supported if E contains a member of n's label; else unsupported; each by the first in listing order
unfoldable pub standing : Lists → ℕ → ℕ → Answer
standing l n E = reasoned (first_in (nogoods_held l) E) (first_in (label_held l n) E)

unfoldable pub question_of : Store → ℕ → ℕ → Result Answer Reply
question_of s n E =
    choose (not (right_shape s)) (Err Shape)
    (choose (ltb (top s.held) n || not (in_range s.held.assumptions E)) (Err Number)
    (Ok (standing s.lists n E)))

-- the store in the answer is the one that came in
abbrev pub Questioned : Store → ℕ → ℕ → Asked → Type 0
Questioned s n E r = r ≡ record { answer = question_of s n E; store = s }

-- ---- context

-- 2 if E is inconsistent, else 1 if n is supported, else 3 where c tells that the line would say `contradicted`, else 0
abbrev pub byte_of : Bool → Answer → ℕ
byte_of c (Inconsistent G) = 2
byte_of c (Supported F) = 1
byte_of c Unsupported = choose c 3 0

-- the bytes of 0 to A + M
unfoldable pub context_of : Store → ℕ → List ℕ
context_of s E = table (top s.held + 1) (λ n. byte_of (contradicted_in s n) (standing s.lists n E))

-- the reply, room being the length of the lent bytes
unfoldable pub context_reply : Store → ℕ → ℕ → Reply
context_reply s E room =
    choose (not (right_shape s)) Shape
    (choose (not (in_range s.held.assumptions E)) Number
    (choose (ltb room (top s.held + 1)) Short
    Done))

-- the lent bytes after the call: a refusal keeps them all, else those after the context are kept
unfoldable pub context_bytes : Store → ℕ → List ℕ → List ℕ
context_bytes s E out = choose (is_done (context_reply s E (length out))) (context_of s E ++ drop (top s.held + 1) out) out

-- what a call that writes leaves: its answer and the lent bytes
pub record Left : Type 0 where
  pub outcome : Outcome
  pub bytes : List ℕ

abbrev pub left : Outcome → List ℕ → Left
left r bytes = record { outcome = r; bytes = bytes }

abbrev pub Contexted : Store → ℕ → List ℕ → Outcome → List ℕ → Type 0
Contexted s E out r after = left r after ≡ left (answer (context_reply s E (length out)) s) (context_bytes s E out)

-- ---- member

-- the set at that place; for n = 0 of the nogoods
unfoldable pub member_at : Lists → ℕ → ℕ → Result ℕ Reply
member_at l n place = choose (leb (length (list_held l n)) place) (Err Place) (Ok (get_or (list_held l n) place 0))

unfoldable pub member_of : Store → ℕ → ℕ → Result ℕ Reply
member_of s n place =
    choose (not (right_shape s)) (Err Shape)
    (choose (ltb (top s.held) n) (Err Number)
    (member_at s.lists n place))

abbrev pub Membered : Store → ℕ → ℕ → Shown → Type 0
Membered s n place r = r ≡ record { answer = member_of s n place; store = s }

-- ---- the document's number of each answer
abbrev pub answer_number : Result Answer Reply → ℕ
answer_number (Ok a) = 0
answer_number (Err r) = number_of r

-- the set that it names: supported the member, inconsistent the nogood, else none
abbrev pub answer_set : Result Answer Reply → Option ℕ
answer_set (Ok (Inconsistent G)) = Some G
answer_set (Ok (Supported F)) = Some F
answer_set (Ok Unsupported) = None
answer_set (Err r) = None

abbrev pub member_number : Result ℕ Reply → ℕ
member_number (Ok E) = 0
member_number (Err r) = number_of r

-- the set that it reports; a refusal reports none
abbrev pub member_set : Result ℕ Reply → Option ℕ
member_set (Ok E) = Some E
member_set (Err r) = None
