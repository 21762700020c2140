-- Sets of assumptions as numbers: assumption k is worth 2 ^ (k - 1). Assumes nothing.
use Rattle.std.specs.Prelude.{Bool, ◌&&◌, ◌||◌, false, List, ◌++◌, ◌%◌, ◌-◌, ◌/◌, ◌^◌, suc, zero, ℕ, eqb, ltb}
use Rattle.std.specs.Int.Bits.{bit_and, bit_or}
use Rattle.std.specs.Int.Count.{ones}
use Rattle.theory.specs.Lists.{numbers_below, some_of, those}

-- the digit of E of weight 2 ^ i is 1
unfoldable pub digit : ℕ → ℕ → Bool
digit E i = eqb (E / 2 ^ i % 2) 1

-- assumption k is in E
unfoldable pub among : ℕ → ℕ → Bool
among E zero = false
among E (suc i) = digit E i

-- the set of assumption k alone
unfoldable pub alone : ℕ → ℕ
alone zero = 0
alone (suc i) = 2 ^ i

-- all A assumptions together
unfoldable pub together : ℕ → ℕ
together A = 2 ^ A - 1

-- the assumptions in F or in E
abbrev pub union : ℕ → ℕ → ℕ
union F E = bit_or F E

-- the assumptions in E that are not in F
unfoldable pub without : ℕ → ℕ → ℕ
without E F = E - bit_and E F

-- F is a subset of E
unfoldable pub within : ℕ → ℕ → Bool
within F E = eqb (bit_or F E) E

-- E has no assumption above A
unfoldable pub in_range : ℕ → ℕ → Bool
in_range A E = ltb E (2 ^ A)

-- F stands before E in the listing: fewer assumptions first, and among equals the smaller number first
unfoldable pub before : ℕ → ℕ → Bool
before F E = ltb (ones F) (ones E) || (eqb (ones F) (ones E) && ltb F E)

-- E contains a set of the list
unfoldable pub contains : List ℕ → ℕ → Bool
contains l E = some_of (λ F. within F E) l

-- the sets of the list with c assumptions at most, fewer assumptions first
unfoldable pub by_size : ℕ → List ℕ → List ℕ
by_size zero l = those (λ E. eqb (ones E) zero) l
by_size (suc c) l = by_size c l ++ those (λ E. eqb (ones E) (suc c)) l

-- the sets of A assumptions in listing order
unfoldable pub listing : ℕ → List ℕ
listing A = by_size A (numbers_below (2 ^ A))
