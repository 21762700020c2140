-- Numbers that have a place among the marks, and the stage by which all has followed. Assumes nothing.
use mathlib.Core.Bool.{Bool, true}
use mathlib.Core.List.{List, Memᴰ as Mem}
use mathlib.Core.Path.{◌∙◌, ◌≡◌, ap, sym}
use Prim.Native.Nat.{◌+◌, ◌≤◌, ℕ}
use native.Mathlib.Omega.{arith}
use lib.ListN.{length}
use Rattle.following.proofs.Passing.{Inside}
use Rattle.theory.proofs.Depth.{consequents_few, settles}
use Rattle.theory.specs.Judge.{consequents}
use Rattle.theory.specs.Limits.{limits}
use Rattle.theory.specs.Stages.{Justification, follows}

-- every number of every justification has a place
pub record Placed (J : List Justification) : Type 0 where
  pub consequents : (j : Justification) → Mem j J → j.consequent ≤ limits.numbers
  pub supports : (j : Justification) → Mem j J → (s : ℕ) → Mem s j.supports → s ≤ limits.numbers

module _ (J : List Justification) (E : ℕ) where
  -- all that ever follows has followed by stage k
  abbrev pub Ended : ℕ → Type 0
  Ended k = (m : ℕ) → k ≤ m → (n : ℕ) → follows J m E n ≡ true → follows J k E n ≡ true

  module _ (w : Placed J) where
    pub ended_129 : (k : ℕ) → limits.numbers + 1 ≤ k → Ended k
    ended_129 k h m l n f =
        let d : ℕ = length (consequents J) in
        let few : d ≤ limits.numbers + 1 = consequents_few limits.numbers J w.consequents in
        ap (λ (S : ℕ → ℕ → Bool). S E n) (sym (settles J k (omega arith)) ∙ settles J m (omega arith)) ∙ f

    pub inside : (m : List ℕ) → length m ≡ limits.numbers + 1 → Inside m J
    inside m e j i = omega (arith, w.consequents j i)
