-- The labels as they lie: label n from place n - 1 times its limit on, its size beside it. Assumes nothing.
use Rattle.std.specs.Prelude.{List, [], ◌≡◌, ◌*◌, ◌<◌, ◌≤◌, suc, zero, ℕ, drop, get_or, length, take}
use Rattle.theory.specs.Limits.{limits}

-- the label of n as it lies
unfoldable pub lying : List ℕ → List ℕ → ℕ → List ℕ
lying members sizes zero = []
lying members sizes (suc i) = take (get_or sizes i 0) (drop (limits.label * i) members)

-- places for the members of every label, and sizes within the limit
pub record Layout (members sizes : List ℕ) : Type 0 where
  pub members_length : length members ≡ limits.numbers * limits.label
  pub sizes_length : length sizes ≡ limits.numbers
  pub sizes_small : (i : ℕ) → get_or sizes i 0 ≤ limits.label

-- every support has a label
pub record Ranged (supports : List ℕ) : Type 0 where
  pub range : (i : ℕ) → i < length supports → (1 ≤ get_or supports i 0) × (get_or supports i 0 ≤ limits.numbers)
