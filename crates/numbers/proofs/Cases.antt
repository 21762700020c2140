-- Document 01's numbers in groups of seven bits: 127, 128, 300 and 16,383, and 80 00 refused. Assumes nothing.
use mathlib.Core.List.{List, [], ◌∷◌}
use mathlib.Core.Option.{Option, none, some}
use mathlib.Core.Path.{◌≡◌, refl}
use Prim.Native.Nat.{ℕ}
use Rattle.numbers.specs.Numbers.{number_at, number_from, replied, second_from, valued}

-- the bytes are answered with this reply number and this number
abbrev pub Says : List ℕ → ℕ → Option ℕ → Type 0
Says l r n = (replied (number_at l 0) ≡ r) × (valued (number_at l 0) ≡ n)

pub is_127 : Says (127 ∷ []) 0 (some 127)
unfolding number_at number_from
is_127 = (refl, refl)

pub is_128 : Says (128 ∷ 1 ∷ []) 0 (some 128)
unfolding number_at number_from second_from
is_128 = (refl, refl)

pub is_300 : Says (172 ∷ 2 ∷ []) 0 (some 300)
unfolding number_at number_from second_from
is_300 = (refl, refl)

pub is_16383 : Says (255 ∷ 127 ∷ []) 0 (some 16383)
unfolding number_at number_from second_from
is_16383 = (refl, refl)

pub long_zero : Says (128 ∷ 0 ∷ []) 12 none
unfolding number_at number_from second_from
long_zero = (refl, refl)
