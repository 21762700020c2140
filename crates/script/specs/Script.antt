-- The lines of a script, the fields of a line, and the numbers that fields are, over lists of bytes. Assumes nothing.
use Rattle.std.specs.Prelude.{Bool, ◌&&◌, not, List, [], ◌++◌, ◌∷◌, ◌*◌, ◌+◌, ◌-◌, min, suc, ℕ, eqb, leb, ltb, drop, length, take}
use Rattle.std.specs.Prelude.{None, Option, Some}
use Rattle.script.specs.declared.Span.{Span}
use Rattle.theory.specs.Limits.{limits}
use Rattle.theory.specs.Lists.{all_of, choose, those}
use Rattle.theory.specs.Sets.{alone, union}

-- ---- places

-- any byte but s
abbrev pub other : ℕ → ℕ → Bool
other s b = not (eqb s b)

-- how many bytes at the front pass
unfoldable pub leading : (ℕ → Bool) → List ℕ → ℕ
leading p [] = 0
leading p (b ∷ l) = let later : ℕ = leading p l in choose (p b) (suc later) 0

-- the first place from `from` on whose byte does not pass, or the length
unfoldable pub past : (ℕ → Bool) → List ℕ → ℕ → ℕ
past p l from = min from (length l) + leading p (drop from l)

-- the place of the first newline from `from` on, or the length of the script
unfoldable pub line_end : List ℕ → ℕ → ℕ
line_end script from = past (other 10) script from

-- the first field from `from` on: after spaces, up to the next space or the line's end; both places are the length where there is none
unfoldable pub field_at : List ℕ → ℕ → Span
field_at line from = let start : ℕ = past (eqb 32) line from in record { from = start; to = past (other 32) line start }

-- ---- lists

-- b in front of the first part
abbrev pub longer : ℕ → List (List ℕ) → List (List ℕ)
longer b [] = []
longer b (part ∷ parts) = (b ∷ part) ∷ parts

-- the parts before, between and after the bytes s, empty ones too
unfoldable pub parts_of : ℕ → List ℕ → List (List ℕ)
parts_of s [] = [] ∷ []
parts_of s (b ∷ l) = let later : List (List ℕ) = parts_of s l in choose (eqb s b) ([] ∷ later) (longer b later)

-- the lines of a script: a newline (10) or the script's end ends a line
unfoldable pub lines_of : List ℕ → List (List ℕ)
lines_of script = parts_of 10 script

-- the fields of a line: separated by one or more spaces (32); spaces at either end do not matter
unfoldable pub fields_of : List ℕ → List (List ℕ)
fields_of line = those (λ part. ltb 0 (length part)) (parts_of 32 line)

-- ---- numbers

-- a byte from a to z
abbrev pub between : ℕ → ℕ → ℕ → Bool
between a z b = leb a b && leb b z

-- what the decimal digits say, after others that say v
unfoldable pub decimals : ℕ → List ℕ → ℕ
decimals v [] = v
decimals v (b ∷ l) = decimals (v * 10 + (b - 48)) l

-- one or more decimal digits, leading zeros allowed, at most 4294967295
unfoldable pub numeral : List ℕ → Option ℕ
numeral f =
    choose (ltb 0 (length f) && (all_of (between 48 57) f && leb (decimals 0 f) 4294967295))
    (Some (decimals 0 f))
    None

-- a hex digit, either case
unfoldable pub hex_digit : ℕ → Option ℕ
hex_digit b =
    choose (between 48 57 b) (Some (b - 48))
    (choose (between 65 70 b) (Some (b - 65 + 10))
    (choose (between 97 102 b) (Some (b - 97 + 10))
    None))

-- two digits, both of them good
abbrev pub paired : Option ℕ → Option ℕ → Option ℕ
paired (Some high) (Some low) = Some (high * 16 + low)
paired (Some high) None = None
paired None low = None

-- exactly two hex digits
unfoldable pub hex_byte : List ℕ → Option ℕ
hex_byte [] = None
hex_byte (h ∷ []) = None
hex_byte (h ∷ l ∷ []) = paired (hex_digit h) (hex_digit l)
hex_byte (h ∷ l ∷ b ∷ f) = None

-- ---- all fields of a line

module _ {X : Type 0} where
  -- a value in front of later ones; no value ends the list
  abbrev pub onward : Option X → List X → List X
  onward None later = []
  onward (Some x) later = x ∷ later

  -- the values of the fields, up to the first bad one
  unfoldable pub values_of : (List ℕ → Option X) → List (List ℕ) → List X
  values_of reading [] = []
  values_of reading (f ∷ fs) = let later : List X = values_of reading fs in onward (reading f) later

  -- the list over the front of out, as far as out goes; later places are kept
  unfoldable pub written : List X → List X → List X
  written l out = take (length out) l ++ drop (length l) out

  -- the count of the fields, or none where one is bad or out has no room for all; and what out is then
  unfoldable pub read_into : (List ℕ → Option X) → List (List ℕ) → List X → Option ℕ × List X
  read_into reading fs out =
      let values : List X = values_of reading fs in
      (choose (eqb (length values) (length fs) && leb (length fs) (length out)) (Some (length fs)) None, written values out)

-- ---- a set by its assumptions

-- E with assumption k; a number that no store has as an assumption is left out
abbrev pub taken : ℕ → ℕ → ℕ
taken E k = choose (between 1 limits.assumptions k) (union E (alone k)) E

-- the numbers of the list taken into E one after the other
unfoldable pub taken_all : ℕ → List ℕ → ℕ
taken_all E [] = E
taken_all E (k ∷ l) = taken_all (taken E k) l
