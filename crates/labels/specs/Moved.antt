-- The marks of the labels that changed in the step before, and what may be passed over where there is none. Assumes nothing.
use Rattle.std.specs.Prelude.{Bool, false, not, true, ◌⊎◌, ◌≡◌, zero, ℕ, eqb, get_or}
use mathlib.Core.List.{List, Memᴰ as Mem, ◌∷◌}
use Rattle.joining.specs.Pool.{Filled, Refused}
use Rattle.theory.specs.Lists.{some_of}
use Rattle.theory.specs.Sets.{contains}
use Rattle.theory.specs.Stages.{Justification}
use Rattle.theory.specs.Step.{joins}

-- there is a mark at place s
abbrev pub marked : List ℕ → ℕ → Bool
marked moved s = not (eqb (get_or moved s 0) 0)

-- the label of a support is marked, or place 0, as it is in the first step
unfoldable pub stirs : List ℕ → List ℕ → Bool
stirs moved supports = some_of (marked moved) (zero ∷ supports)

-- each contains an old member or a set struck
abbrev pub Quiet : List ℕ → List ℕ → List ℕ → Type 0
Quiet struck old l = (H : ℕ) → Mem H l → (contains old H ≡ true) ⊎ (contains struck H ≡ true)

-- the joins of each justification of n that is not stirred are quiet
pub record Still (L : ℕ → List ℕ) (J : List Justification) (n : ℕ) (old struck moved : List ℕ) : Type 0 where
  pub quiet : (r : Justification) → Mem r J → r.consequent ≡ n → stirs moved r.supports ≡ false → Quiet struck old (joins L zero r.supports)

-- .. and refused by a pool
pub record Hushed (L : ℕ → List ℕ) (J : List Justification) (n : ℕ) (struck moved : List ℕ) (f : Filled) : Type 0 where
  pub refused : (r : Justification) → Mem r J → r.consequent ≡ n → stirs moved r.supports ≡ false → (H : ℕ) → Mem H (joins L zero r.supports) → Refused struck f H
