-- What a reader of a file's bytes takes, and where it stands then. Assumes nothing.
use Rattle.std.specs.Prelude.{List, ◌≡◌, ℕ, ◌+◌, ◌-◌, Result, Ok, Err, drop, length, slice_index, ◌<◌, ◌≤◌}
use Rattle.numbers.specs.Numbers.{Taken, got, bad}
use Rattle.numbers.specs.declared.Reader.{Reader}
use Rattle.replies.specs.declared.Reply.TheVariants.{Ends}
use Rattle.replies.specs.declared.Reply.{Reply}

-- the bytes left
abbrev pub left : Reader → List ℕ
left r = drop r.at r.bytes.now

-- what was taken, or the fault
abbrev pub outcome : {X : Type 0} → Taken X → Result X Reply
outcome (got x rest) = Ok x
outcome (bad f) = Err f

-- the reader after it, as many places on as bytes were taken; after a fault where it stood
abbrev pub after : {X : Type 0} → Reader → Taken X → Reader
after r (got x rest) = record r { at = r.at + (length (left r) - length rest) }
after r (bad f) = r

-- the reader r takes what t says of the bytes left, answers a and then is s
pub record Takes {X : Type 0} (t : List ℕ → Taken X) (r s : Reader) (a : Result X Reply) : Type 0 where
  pub answered : a ≡ outcome (t (left r))
  pub stands : s ≡ after r (t (left r))

-- the byte at a place; a missing one is 11
abbrev pub IsByte : List ℕ → ℕ → Result ℕ Reply → Type 0
IsByte l at (Ok b) = (at < length l) × (b ≡ slice_index l at)
IsByte l at (Err f) = (length l ≤ at) × (f ≡ Ends)
