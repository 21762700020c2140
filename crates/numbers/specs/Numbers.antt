-- Numbers in groups of seven bits, taken from bytes one after another. Assumes nothing.
use Rattle.std.specs.Prelude.{◌&&◌, List, [], ◌∷◌, ◌≡◌, ℕ, ◌+◌, ◌*◌, ◌-◌, leb, ltb, drop, length, Result, Ok, Err}
use Rattle.std.proofs.Math.Option.{Option, none, some}
use Rattle.numbers.specs.declared.Number.{Number}
use Rattle.numbers.specs.declared.Pair.{Pair}
use Rattle.replies.specs.Replies.{number_of}
use Rattle.replies.specs.declared.Reply.TheVariants.{Ends, Form}
use Rattle.replies.specs.declared.Reply.{Reply}
use Rattle.theory.specs.Lists.{choose}

-- what is taken from the bytes left: a thing with the bytes after it, or the fault that decides
pub data Taken (X : Type 0) : Type 0 where
  got : X → List ℕ → Taken X
  bad : Reply → Taken X

-- the first fault decides; else what comes next is taken from the bytes after
abbrev pub and_then : {X Y : Type 0} → Taken X → (X → List ℕ → Taken Y) → Taken Y
and_then (got x l) f = f x l
and_then (bad r) f = bad r

-- after a byte b of 128 or more: a byte c from 1 to 127 makes (b - 128) + 128c; any other c is 12, a missing byte is 11
unfoldable pub second_from : ℕ → List ℕ → Taken ℕ
second_from b [] = bad Ends
second_from b (c ∷ l) = choose (leb 1 c && ltb c 128) (got (b - 128 + 128 * c) l) (bad Form)

-- a byte below 128 is the number; a byte of 128 or more is followed by a second; a missing byte is 11
unfoldable pub number_from : List ℕ → Taken ℕ
number_from [] = bad Ends
number_from (b ∷ l) = choose (ltb b 128) (got b l) (second_from b l)

-- two numbers one after another
abbrev pub two_from : List ℕ → Taken (ℕ × ℕ)
two_from l = and_then (number_from l) (λ m l₁. and_then (number_from l₁) (λ n l₂. got (m, n) l₂))

-- the bytes after it begin at the next place
abbrev pub placed : List ℕ → Taken ℕ → Result Number Reply
placed l (got n rest) = Ok (record { value = n; next = length l - length rest })
placed l (bad r) = Err r

-- the number at a place of the bytes, and the next place
unfoldable pub number_at : List ℕ → ℕ → Result Number Reply
number_at l at = placed l (number_from (drop at l))

-- the reply number of each answer: 0 with a number, else 11 or 12
abbrev pub replied : Result Number Reply → ℕ
replied (Ok x) = 0
replied (Err f) = number_of f

-- the number that an answer gives
abbrev pub valued : Result Number Reply → Option ℕ
valued (Ok x) = some x.value
valued (Err f) = none

-- the place after a number that was read at a place; where it could not be read, the same place
abbrev pub past_of : Result Number Reply → ℕ → ℕ
past_of (Ok x) at = x.next
past_of (Err f) at = at

-- two numbers one after another, each with an answer of its own
abbrev pub pair_of : List ℕ → ℕ → Pair
pair_of l at = record { first = number_at l at; second = number_at l (past_of (number_at l at) at) }

-- ---- what `read` and `two` promise of their answer r

abbrev pub IsNumber : List ℕ → ℕ → Result Number Reply → Type 0
IsNumber l at r = r ≡ number_at l at

abbrev pub AreNumbers : List ℕ → ℕ → Pair → Type 0
AreNumbers l at r = r ≡ pair_of l at
