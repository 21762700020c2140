-- Rows of a table, one after the other: the first whose condition holds decides the answer. Assumes nothing.
use Rattle.std.specs.Prelude.{◌⊎◌, ◌≡◌, ℕ}

-- the answer c where P holds, else what the next rows say
unfoldable pub given : {X : Type 0} → Type 0 → X → (X → Type 0) → X → Type 0
given P c next a = (P × (a ≡ c)) ⊎ ((P → ⊥) × next a)

-- the answer c n where P holds of n, else what the next rows say
unfoldable pub naming : {X : Type 0} → (ℕ → Type 0) → (ℕ → X) → (X → Type 0) → X → Type 0
naming P c next a = ((n : ℕ) × P n × (a ≡ c n)) ⊎ (((n : ℕ) → P n → ⊥) × next a)

-- 0 where no row holds
abbrev pub no_row : ℕ → Type 0
no_row a = a ≡ 0
