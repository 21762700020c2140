-- A reading of the passes that looks right, told apart by a case: the old members not offered again in a later pass. Nothing else cites this file. Assumes nothing.
use Rattle.std.specs.Prelude.{List, [], ◌∷◌, ◌≡◌, ℕ, None, Some}
use Rattle.std.specs.Int.Count.{ones}
use Rattle.joining.specs.Pool.{Filled, enters, offered_all, placed, purged}
use Rattle.theory.specs.Lists.{some_of, those}
use Rattle.theory.specs.Sets.{before, contains, within}
use Rattle.theory.specs.Step.{free}

-- a pass over the sets of a list, from what the pool holds, under a name that opens all its definitions
unfoldable pub passed : ℕ → List ℕ → List ℕ → Filled
unfolding offered_all enters free contains some_of within placed purged those before ones
passed room held l = offered_all room [] (record { sets = held; bound = None }) l

-- room for two; the old member {2,3}, then the joins {1,2}, {1,3}, {1}
pub record Readings : Type 0 where
  -- {2,3} goes out for want of room, then {1} puts the other two out
  pub first : passed 2 [] (6 ∷ 3 ∷ 5 ∷ 1 ∷ []) ≡ record { sets = 1 ∷ []; bound = Some 6 }
  -- another pass, the old member offered again
  pub again : passed 2 (1 ∷ []) (6 ∷ 3 ∷ 5 ∷ 1 ∷ []) ≡ record { sets = 1 ∷ 6 ∷ []; bound = None }
  -- .. and not offered: it is lost
  pub lost : passed 2 (1 ∷ []) (3 ∷ 5 ∷ 1 ∷ []) ≡ record { sets = 1 ∷ []; bound = None }
