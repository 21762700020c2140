-- What the search for a member promises. Assumes nothing.
use Rattle.std.specs.Prelude.{List, ◌≡◌, ℕ, Option}
use Rattle.std.specs.List.{position}
use Rattle.theory.specs.Sets.{within}

-- the place of the first member that lies within E, if one does
abbrev pub first_within : List ℕ → ℕ → Option ℕ
first_within l E = position (λ F. within F E) l

-- r is that place
abbrev pub FirstWithin : List ℕ → ℕ → Option ℕ → Type 0
FirstWithin l E r = r ≡ first_within l E
