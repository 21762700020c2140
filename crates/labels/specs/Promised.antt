-- What the functions on labels promise. Assumes nothing.
use Rattle.std.specs.Prelude.{List, [], map, ◌≡◌, ◌+◌, ℕ, Result, Ok, Err, length, ltb, take}
use Rattle.joining.specs.Layout.{lying}
use Rattle.labels.specs.declared.Built.{Built}
use Rattle.labels.specs.declared.Full.{Full}
use Rattle.rules.specs.Held.{meaning}
use Rattle.rules.specs.declared.Entry.{Entry}
use Rattle.theory.specs.Limits.{limits}
use Rattle.theory.specs.Lists.{choose}
use Rattle.theory.specs.Places.{padded}
use Rattle.theory.specs.Step.{candidates, picks}

-- a list in its places
unfoldable pub placed_list : List ℕ → Built
placed_list l = record { count = length l; sets = padded 0 limits.nogoods l }

-- the first sets of a list in their places, as many as the limit
unfoldable pub placed_first : ℕ → List ℕ → Full
placed_first limit l = record { first = padded 0 limits.nogoods (take limit l) }

-- a list in its places, or its first sets where it is longer than the limit
unfoldable pub built_of : ℕ → List ℕ → Result Built Full
built_of limit l = choose (ltb limit (length l)) (Err (placed_first limit l)) (Ok (placed_list l))

-- r is the list of n at the next stage, from the labels as they lie, the old list and the sets struck, or its first sets where it is longer than the limit; members after the first above the limit are not looked for
abbrev pub Build : List Entry → ℕ → List ℕ → List ℕ → List ℕ → List ℕ → ℕ → Result Built Full → Type 0
Build entries n members sizes old struck limit r = r ≡ built_of limit (picks (limit + 1) struck [] (candidates (lying members sizes) old (map meaning entries) n))
