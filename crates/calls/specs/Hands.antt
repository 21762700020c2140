-- The list in hand of a script: with no items, and with one item more. Assumes nothing.
use Rattle.std.specs.Prelude.{List, ◌++◌, ◌+◌, ℕ, length, replicate, slice_set, take}
use Rattle.calls.specs.declared.hands.Hand.{Hand}
use Rattle.handed.specs.declared.Handed.{Handed}
use Rattle.theory.specs.Limits.{limits}

-- no items
abbrev pub empty_hand : Hand
empty_hand = record { count = 0; items = replicate limits.held (record { consequent = 0; count = 0; supports = replicate limits.supports 0 }) }

-- an item of so many supports: the first four of them, zeros where there are fewer
abbrev pub item_of : ℕ → List ℕ → Handed
item_of c s = record { consequent = c; count = length s; supports = take limits.supports (s ++ replicate limits.supports 0) }

-- h with one item more, in the place after those that it has
abbrev pub hand_with : Hand → Handed → Hand
hand_with h x = record { count = h.count + 1; items = slice_set h.items h.count x }
