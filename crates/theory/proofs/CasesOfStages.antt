-- Cases of one stage: the listed case at stage 1, where the nogood {1,2} is found and the label of 5 is still empty. Assumes nothing.
use mathlib.Core.List.{List, [], ◌∷◌}
use mathlib.Core.Path.{◌≡◌, refl}
use Prim.Native.Nat.{ℕ}
use lib.Count.{ones}
use Rattle.theory.specs.Lists.{all_of, numbers_below, some_of, those}
use Rattle.theory.specs.Sets.{among, by_size, digit, listing, within}
use Rattle.theory.specs.Stages.{Justification, follows, gives, label_at, label_of, minimal, nogoods_at, nogoods_of}

abbrev case : List Justification
case =
    record { consequent = 4; supports = 1 ∷ [] } ∷ record { consequent = 4; supports = 2 ∷ 3 ∷ [] } ∷ record { consequent = 5; supports = 2 ∷ 4 ∷ [] }
    ∷ record { consequent = 0; supports = 1 ∷ 2 ∷ [] } ∷ []

-- the definitions of a stage under one name that opens them all
unfoldable pub at_stage : ℕ → List (List ℕ)
unfolding nogoods_at label_at nogoods_of label_of minimal follows gives among digit within listing by_size numbers_below those some_of all_of ones
at_stage k = nogoods_at 3 case k ∷ label_at 3 case k 4 ∷ label_at 3 case k 5 ∷ []

-- stage 1, and stage 2, where {1,2} would be in the label of 5 if it were no nogood
pub cases_of_stages : (at_stage 1 ≡ (3 ∷ []) ∷ (1 ∷ 6 ∷ []) ∷ [] ∷ []) × (at_stage 2 ≡ (3 ∷ []) ∷ (1 ∷ 6 ∷ []) ∷ (6 ∷ []) ∷ [])
unfolding at_stage
cases_of_stages = (refl, refl)
