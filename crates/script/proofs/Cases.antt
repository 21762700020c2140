-- Scripts of a few bytes: what each definition makes of them, computed. Assumes nothing.
use mathlib.Core.List.{List, [], ◌∷◌}
use Rattle.std.specs.Prelude.{None, Some}
use mathlib.Core.Path.{◌≡◌, refl}
use Prim.Native.Char.{code}
use Prim.Native.Nat.{ℕ}
use Prim.Native.String.{String, [] as empty, ◌∷◌ as ◌then◌}
use Rattle.script.specs.Script.{decimals, field_at, fields_of, hex_byte, hex_digit, leading, line_end, lines_of, numeral, parts_of, past, read_into, values_of, written}
use Rattle.theory.specs.Lists.{all_of, those}

-- the bytes of a text
unfoldable pub text : String → List ℕ
text empty = []
text (c then s) = code c ∷ text s

pub record Cases : Type 0 where
  -- a newline or the input's end ends a line
  pub lines : lines_of (text "list\n\nline 0") ≡ text "list" ∷ [] ∷ text "line 0" ∷ []
  pub line_ends : line_end (text "list\n\nline 0") 1 ≡ 4
  pub script_ends : line_end (text "list\n\nline 0") 6 ≡ 12
  pub past_the_end : line_end (text "list\n\nline 0") 20 ≡ 12
  -- one or more spaces separate fields, and spaces at either end do not matter
  pub fields : fields_of (text "  add 4  1 2 ") ≡ text "add" ∷ text "4" ∷ text "1" ∷ text "2" ∷ []
  pub first_field : field_at (text "  add 4  1 2 ") 0 ≡ record { from = 2; to = 5 }
  pub next_field : field_at (text "  add 4  1 2 ") 7 ≡ record { from = 9; to = 10 }
  pub no_field : field_at (text "  add 4  1 2 ") 12 ≡ record { from = 13; to = 13 }
  pub blank : fields_of (text "   ") ≡ []
  -- any other byte is part of a field
  pub tab : fields_of (text "add\t4\r") ≡ text "add\t4\r" ∷ []
  -- leading zeros allowed, at most 4294967295
  pub zeros : numeral (text "007") ≡ Some 7
  pub largest : numeral (text "4294967295") ≡ Some 4294967295
  pub too_large : numeral (text "4294967296") ≡ None
  pub no_digit : numeral (text "1x") ≡ None
  pub no_number : numeral [] ≡ None
  -- exactly two hex digits, either case
  pub both_cases : hex_byte (text "fF") ≡ Some 255
  pub no_hex : hex_byte (text "0g") ≡ None
  pub one_digit : hex_byte (text "1") ≡ None
  pub three_digits : hex_byte (text "123") ≡ None
  -- later places are kept
  pub all_good : read_into numeral (fields_of (text " 4 05")) (9 ∷ 9 ∷ 9 ∷ []) ≡ (Some 2, 4 ∷ 5 ∷ 9 ∷ [])
  pub second_bad : read_into numeral (fields_of (text "4 x 5")) (9 ∷ 9 ∷ 9 ∷ []) ≡ (None, 4 ∷ 9 ∷ 9 ∷ [])
  pub no_room : read_into numeral (fields_of (text "4 5 6")) (9 ∷ 9 ∷ []) ≡ (None, 4 ∷ 5 ∷ [])
  pub hex_bytes : read_into hex_byte (fields_of (text "0a Ff")) (9 ∷ 9 ∷ []) ≡ (Some 2, 10 ∷ 255 ∷ [])

pub cases : Cases
unfolding text lines_of line_end fields_of field_at parts_of past leading those all_of numeral decimals hex_byte hex_digit read_into values_of written
cases = record {
  lines = refl;
  line_ends = refl;
  script_ends = refl;
  past_the_end = refl;
  fields = refl;
  first_field = refl;
  next_field = refl;
  no_field = refl;
  blank = refl;
  tab = refl;
  zeros = refl;
  largest = refl;
  too_large = refl;
  no_digit = refl;
  no_number = refl;
  both_cases = refl;
  no_hex = refl;
  one_digit = refl;
  three_digits = refl;
  all_good = refl;
  second_bad = refl;
  no_room = refl;
  hex_bytes = refl;
}
