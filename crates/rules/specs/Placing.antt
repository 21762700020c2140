-- How the code makes a place, and a place as one number. Assumes nothing.
use Rattle.std.specs.Prelude.{Bool, true, List, [], ◌∷◌, ◌≡◌, ◌*◌, ◌+◌, ℕ, eqb, ltb, length}
use Rattle.rules.specs.Held.{entry_of}
use Rattle.rules.specs.declared.Entry.{Entry}
use Rattle.theory.specs.Lists.{all_of, numbers_below, some_of, those}
use Rattle.theory.specs.Limits.{limits}

-- the numbers below n that the list has, rising
abbrev pub first_of : List ℕ → ℕ → List ℕ
first_of l n = those (λ m. some_of (eqb m) l) (numbers_below n)

-- the place of consequent c, with those below n of the set that a list makes
unfoldable pub partly : ℕ → List ℕ → ℕ → Entry
partly c l n = entry_of (record { consequent = c; supports = first_of l n })

-- a number below 256
abbrev pub byte : ℕ → Bool
byte x = ltb x 256

-- bytes as one number, the first the highest, v standing before them
unfoldable pub value_from : ℕ → List ℕ → ℕ
value_from v [] = v
value_from v (x ∷ l) = value_from (256 * v + x) l

-- the bytes of a place, in their order
abbrev pub bytes_in : Entry → List ℕ
bytes_in e = e.consequent ∷ e.count ∷ e.supports

-- a place as one number
unfoldable pub key_of : Entry → ℕ
key_of e = value_from 0 (bytes_in e)

-- what a place has are bytes, and a place for each support that may be
abbrev pub Bytes : Entry → Type 0
Bytes e = (all_of byte (bytes_in e) ≡ true) × (length e.supports ≡ limits.supports)
