-- What each public function of this crate promises of its answer r. Assumes nothing.
use Rattle.std.specs.Prelude.{Bool, List, ◌≡◌, ℕ, eqb, ltb, drop}
use Rattle.script.specs.Script.{field_at, fields_of, hex_byte, line_end, numeral, read_into, taken_all}
use Rattle.std.specs.Prelude.{Option}
use Rattle.script.specs.declared.Span.{Span}
use Rattle.theory.specs.Judge.{same_sets}
use Rattle.theory.specs.Limits.{limits}
use Rattle.theory.specs.Lists.{some_of}

-- the end of the line from a place on
abbrev pub IsLineEnd : List ℕ → ℕ → ℕ → Type 0
IsLineEnd script from r = r ≡ line_end script from

-- the first field from a place on
abbrev pub IsField : List ℕ → ℕ → Span → Type 0
IsField line from r = r ≡ field_at line from

-- the number that a field is
abbrev pub IsNumber : List ℕ → Option ℕ → Type 0
IsNumber field r = r ≡ numeral field

-- the byte that a field is
abbrev pub IsHex : List ℕ → Option ℕ → Type 0
IsHex field r = r ≡ hex_byte field

-- all fields from a place on, as they are read
abbrev pub AreRead : {X : Type 0} → (List ℕ → Option X) → List ℕ → ℕ → List X → List X → Option ℕ → Type 0
AreRead reading line from entry exit r = (r, exit) ≡ read_into reading (fields_of (drop from line)) entry

-- all fields from a place on, as numbers
abbrev pub AreNumbers : List ℕ → ℕ → List ℕ → List ℕ → Option ℕ → Type 0
AreNumbers = AreRead numeral

-- all fields from a place on, as hex bytes
abbrev pub AreBytes : List ℕ → ℕ → List ℕ → List ℕ → Option ℕ → Type 0
AreBytes = AreRead hex_byte

-- whether a field is a word
abbrev pub IsSame : List ℕ → List ℕ → Bool → Type 0
IsSame field word r = r ≡ same_sets field word

-- whether 0 is among the numbers
abbrev pub HasZero : List ℕ → Bool → Type 0
HasZero values r = r ≡ some_of (eqb 0) values

-- whether a number is above the most assumptions
abbrev pub HasAbove : List ℕ → Bool → Type 0
HasAbove values r = r ≡ some_of (ltb limits.assumptions) values

-- the set of the assumptions among the numbers
abbrev pub IsSetOf : List ℕ → ℕ → Type 0
IsSetOf values r = r ≡ taken_all 0 values
