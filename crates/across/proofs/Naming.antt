-- A reply that is not 8 names no number. Assumes nothing.
use mathlib.Core.List.{List, [], ◌∷◌}
use mathlib.Core.Path.{◌≡◌, refl}
use Prim.Native.Nat.{ℕ}
use denote.Enum.Declared.{tag_of}
use types.Run.{OneOf, miss}
use Rattle.across.specs.Across.{named_or0}
use Rattle.replies.specs.contracts.Reply as Reply
use Rattle.replies.specs.declared.Reply.{Reply}
use Rattle.replies.specs.declared.Reply.TheVariants.{Done, Already, Shape, Counts, Number, Falsity, Supports, Full, Label, Nogoods, Ends, Form, After, Long, Short, Place, Itself, Unheld}

-- the places of the others among the replies
abbrev others : List ℕ
others = 0 ∷ 1 ∷ 2 ∷ 3 ∷ 4 ∷ 5 ∷ 6 ∷ 7 ∷ 9 ∷ 10 ∷ 11 ∷ 12 ∷ 13 ∷ 14 ∷ 15 ∷ 16 ∷ 17 ∷ []

pub unnamed : (r : Reply) → OneOf others (tag_of Reply.the_type r) → 0 ≡ named_or0 r
unnamed Done h = refl
unnamed Already h = refl
unnamed Shape h = refl
unnamed Counts h = refl
unnamed Number h = refl
unnamed Falsity h = refl
unnamed Supports h = refl
unnamed Full h = refl
unnamed (Label n) h = absurd (miss others 8 tt h)
unnamed Nogoods h = refl
unnamed Ends h = refl
unnamed Form h = refl
unnamed After h = refl
unnamed Long h = refl
unnamed Short h = refl
unnamed Place h = refl
unnamed Itself h = refl
unnamed Unheld h = refl
