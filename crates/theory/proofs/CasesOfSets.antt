-- Cases of sets: {1,3} is 5, the empty set is 0; {3} is 4, {1,2} is 3, and {3} comes first. Assumes nothing.
use mathlib.Core.Bool.{Bool, false, true}
use mathlib.Core.List.{List, [], ◌∷◌}
use mathlib.Core.Path.{◌≡◌, refl}
use Prim.Native.Nat.{ℕ}
use lib.Count.{ones}
use Rattle.theory.specs.Lists.{numbers_below, those}
use Rattle.theory.specs.Sets.{alone, among, before, by_size, digit, listing, union, within, without}

-- the definitions of sets under one name that opens them all
unfoldable pub sets : List Bool × List ℕ × List ℕ
unfolding among digit alone within without before ones listing by_size numbers_below those
sets = (
  among 5 1 ∷ among 5 2 ∷ among 5 3 ∷ among 0 1 ∷ within 1 3 ∷ within 3 1 ∷ within 0 0 ∷ before 4 3 ∷ before 3 4 ∷ before 1 2 ∷ before 2 2 ∷ [],
  alone 1 ∷ alone 3 ∷ union 1 4 ∷ without 5 6 ∷ [],
  listing 3,
)

pub cases_of_sets : sets ≡ (
  true ∷ false ∷ true ∷ false ∷ true ∷ false ∷ true ∷ true ∷ false ∷ true ∷ false ∷ [],
  1 ∷ 4 ∷ 5 ∷ 1 ∷ [],
  0 ∷ 1 ∷ 2 ∷ 4 ∷ 3 ∷ 5 ∷ 6 ∷ 7 ∷ [],
)
unfolding sets
cases_of_sets = refl
