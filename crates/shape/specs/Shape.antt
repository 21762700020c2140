-- The right shape of lists, as document 01 has it. Assumes nothing.
use Rattle.std.specs.Prelude.{Bool, ◌&&◌, not, List, [], ◌∷◌, ◌≡◌, ◌*◌, ◌+◌, ℕ, eqb, leb, drop, get_or, length, take}
use Rattle.stages.specs.declared.Lists.{Lists}
use Rattle.theory.specs.Limits.{limits}
use Rattle.theory.specs.Lists.{all_of, numbers_below, sorted_by}
use Rattle.theory.specs.Sets.{before, in_range, union, within}

-- two members of one list: in order, and none inside the other
unfoldable pub apart : ℕ → ℕ → Bool
apart F E = before F E && (not (within F E) && not (within E F))

-- a list of sets in its places, count of them used: strictly in order, no member inside another, no assumption above A, unused places zero
unfoldable pub listed : ℕ → ℕ → List ℕ → Bool
listed A count places =
    leb count (length places)
    && (sorted_by apart (take count places) && (all_of (in_range A) (take count places) && all_of (eqb 0) (drop count places)))

-- the same apart from the assumptions
unfoldable pub standing : ℕ → List ℕ → Bool
standing count places = leb count (length places) && (sorted_by apart (take count places) && all_of (eqb 0) (drop count places))

-- the assumptions of all the sets
unfoldable pub union_of : List ℕ → ℕ
union_of [] = 0
union_of (E ∷ l) = union E (union_of l)

-- the label of the number i + 1 in its own places
abbrev pub label_right : ℕ → List ℕ → List ℕ → ℕ → Bool
label_right A sizes members i = listed A (get_or sizes i 0) (take limits.label (drop (limits.label * i) members))

-- the same apart from the assumptions
abbrev pub row_right : List ℕ → List ℕ → ℕ → Bool
row_right sizes members i = standing (get_or sizes i 0) (take limits.label (drop (limits.label * i) members))

-- every label; those of numbers above N are empty
unfoldable pub labels_right : ℕ → ℕ → List ℕ → List ℕ → Bool
labels_right A N sizes members = all_of (label_right A sizes members) (numbers_below limits.numbers) && all_of (eqb 0) (drop N sizes)

-- the depth is at most one above the highest number, every label and the nogoods are right
unfoldable pub lists_right : Lists → ℕ → ℕ → Bool
lists_right l A N = leb l.depth (limits.numbers + 1) && (labels_right A N l.sizes l.members && listed A l.count l.nogoods)

abbrev pub ListsRight : Lists → ℕ → ℕ → Bool → Type 0
ListsRight l A N r = r ≡ lists_right l A N
