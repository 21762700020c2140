-- The justifications: each has few supports, and each of them a label. Assumes nothing.
use Rattle.std.specs.Prelude.{List, ◌-◌, ◌<◌, ◌≤◌, ℕ, drop, get_or, length, take}
use Rattle.joining.specs.Layout.{Ranged}
use Rattle.rules.specs.Held.{meaning}
use Rattle.rules.specs.declared.Entry.{Entry}
use Rattle.theory.specs.Limits.{limits}

-- at most four supports
abbrev pub Few : Entry → Type 0
Few e = e.count ≤ limits.supports

-- those from place lo to place hi
abbrev pub between : List Entry → ℕ → ℕ → List Entry
between entries lo hi = take (hi - lo) (drop lo entries)

-- every justification has at most four supports, and each of them a label
pub record Joinable (entries : List Entry) : Type 0 where
  pub few : (j : ℕ) (z : Entry) → j < length entries → Few (get_or entries j z)
  pub ranged : (j : ℕ) (z : Entry) → j < length entries → Ranged (meaning (get_or entries j z)).supports
