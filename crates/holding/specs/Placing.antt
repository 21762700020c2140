-- How the code finds a place and makes room for it. Assumes nothing.
use Rattle.std.specs.Prelude.{List, [], ◌++◌, ◌∷◌, ◌-◌, suc, ℕ, ltb, drop, get_or, length, take}
use Rattle.rules.specs.Held.{vacant}
use Rattle.rules.specs.declared.Entry.{Entry}
use Rattle.rules.specs.declared.Held.{Held}
use Rattle.theory.specs.Lists.{choose}
use Rattle.theory.specs.Places.{table}
use Rattle.theory.specs.Stages.{Justification, ahead}

-- how many stand before r
unfoldable pub place_of : Justification → List Justification → ℕ
place_of r [] = 0
place_of r (t ∷ l) = let later : ℕ = place_of r l in choose (ahead t r) (suc later) 0

-- e put in at a place of n that are used
unfoldable pub insert_at : List Entry → ℕ → ℕ → Entry → List Entry
insert_at l at n e = take at l ++ (e ∷ (take (n - at) (drop at l) ++ drop (suc n) l))

-- the place `at` taken out: each from there on has what stood one further, the last is vacant
unfoldable pub remove_at : List Entry → ℕ → List Entry
remove_at l at = table (length l) (λ i. get_or l (choose (ltb i at) i (suc i)) vacant)

-- h with other places, n of them used
abbrev pub with_entries : Held → ℕ → List Entry → Held
with_entries h n entries = record { assumptions = h.assumptions; claims = h.claims; count = n; entries = entries }
