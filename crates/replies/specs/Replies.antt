-- The number of each reply, the number that it names, and the answer of a call that only refuses. Assumes nothing.
use Rattle.std.specs.Prelude.{◌≡◌, ℕ, eqb, Result, Ok, Err, if◌then◌else◌, ⊤}
use Rattle.std.proofs.Math.Option.{Option, none, some}
use Rattle.replies.specs.declared.Reply.{Reply}
use Rattle.replies.specs.declared.Reply.TheVariants.{Done, Already, Shape, Counts, Number, Falsity, Supports, Full, Label, Nogoods, Ends, Form, After, Long, Short, Place, Itself, Unheld}

-- the number of a reply
abbrev pub number_of : Reply → ℕ
-- done
number_of Done = 0
-- already held, store unchanged
number_of Already = 1
-- wrong shape of store
number_of Shape = 2
-- A above 32 or M above 96
number_of Counts = 3
-- a number above A+M, or an assumption above A in a set
number_of Number = 4
-- falsity as a support
number_of Falsity = 5
-- more than 4 supports
number_of Supports = 6
-- 256 held already; in a file, a count above 256
number_of Full = 7
-- a label over 12
number_of (Label n) = 8
-- nogoods over 32
number_of Nogoods = 9
-- file ends inside the case
number_of Ends = 11
-- bad number form
number_of Form = 12
-- bytes after the last record
number_of After = 13
-- more than 4,096 bytes of input
number_of Long = 14
-- lent buffer shorter than the text or context
number_of Short = 15
-- no member at that place
number_of Place = 16
-- its own consequent as a support
number_of Itself = 17
-- not held, store unchanged
number_of Unheld = 18

-- a refusal 8 names the lowest such claim or assumption; no other reply names one
abbrev pub named_by : Reply → Option ℕ
named_by (Label n) = some n
named_by Done = none
named_by Already = none
named_by Shape = none
named_by Counts = none
named_by Number = none
named_by Falsity = none
named_by Supports = none
named_by Full = none
named_by Nogoods = none
named_by Ends = none
named_by Form = none
named_by After = none
named_by Long = none
named_by Short = none
named_by Place = none
named_by Itself = none
named_by Unheld = none

-- r is the number of the reply
abbrev pub Numbered : Reply → ℕ → Type 0
Numbered reply r = r ≡ number_of reply

-- what a call that only refuses answers: nothing where the reply is done, else the refusal
unfoldable pub checked : Reply → Result ⊤ Reply
checked reply = if eqb (number_of reply) 0 then Ok tt else Err reply
