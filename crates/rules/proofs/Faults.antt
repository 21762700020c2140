-- The faults of an item, one after the other. Assumes nothing.
use mathlib.Core.Bool.{false, true}
use mathlib.Core.List.{List}
use mathlib.Core.Logic.{⊎_elim}
use mathlib.Core.Path.{◌∙◌, ◌≡◌}
use Prim.Native.Nat.{◌<◌, ◌≤◌, ℕ}
use native.Mathlib.Decide.{dec_lt}
use native.Mathlib.Omega.{arith}
use lib.Dec.{eqb, ltb}
use lib.ListN.{length}
use borrow.Author.Tests.{le-ltb, lt-ltb}
use Rattle.replies.specs.declared.Reply.TheVariants.{Done, Falsity, Itself, Number, Supports}
use Rattle.rules.specs.Items.{fault_of}
use Rattle.theory.proofs.Lists.{either}
use Rattle.theory.specs.Limits.{limits}
use Rattle.theory.specs.Lists.{some_of}

module _ (N c : ℕ) (l : List ℕ) where
  pub fault_many : limits.supports < length l → Supports ≡ fault_of N c l
  unfolding fault_of
  fault_many h = rw (lt-ltb limits.supports (length l) h)

  module _ (small : length l ≤ limits.supports) where
    pub fault_head : N < c → Number ≡ fault_of N c l
    unfolding fault_of
    fault_head h = rw (le-ltb limits.supports (length l) small, lt-ltb N c h)

    module _ (low : c ≤ N) where
      pub fault_above : some_of (ltb N) l ≡ true → Number ≡ fault_of N c l
      unfolding fault_of
      fault_above h = rw (le-ltb limits.supports (length l) small, le-ltb N c low, h)

      module _ (under : some_of (ltb N) l ≡ false) where
        pub fault_zero : some_of (eqb 0) l ≡ true → Falsity ≡ fault_of N c l
        unfolding fault_of
        fault_zero h = rw (le-ltb limits.supports (length l) small, le-ltb N c low, under, h)

        module _ (real : some_of (eqb 0) l ≡ false) where
          pub fault_own : some_of (eqb c) l ≡ true → Itself ≡ fault_of N c l
          unfolding fault_of
          fault_own h = rw (le-ltb limits.supports (length l) small, le-ltb N c low, under, real, h)

          pub fault_none : some_of (eqb c) l ≡ false → Done ≡ fault_of N c l
          unfolding fault_of
          fault_none h = rw (le-ltb limits.supports (length l) small, le-ltb N c low, under, real, h)

-- what is known of an item without fault
pub record Faultless (N c : ℕ) (l : List ℕ) : Type 0 where
  pub small : length l ≤ limits.supports
  pub low : c ≤ N
  pub under : some_of (ltb N) l ≡ false
  pub real : some_of (eqb 0) l ≡ false
  pub foreign : some_of (eqb c) l ≡ false

pub faultless : (N c : ℕ) (l : List ℕ) → fault_of N c l ≡ Done → Faultless N c l
faultless N c l d = elim (dec_lt limits.supports (length l)) [
  | yes h ↦ (let e : Supports ≡ Done = fault_many N c l h ∙ d in let z : ◌≡◌ {A = ℕ} 0 1 = cc in absurd (omega arith))
  | no h ↦ (let small : length l ≤ limits.supports = omega arith in elim (dec_lt N c) [
    | yes h ↦ (let e : Number ≡ Done = fault_head N c l small h ∙ d in let z : ◌≡◌ {A = ℕ} 0 1 = cc in absurd (omega arith))
    | no h ↦ (let low : c ≤ N = omega arith in ⊎_elim
        (λ (h : some_of (ltb N) l ≡ true). let e : Number ≡ Done = fault_above N c l small low h ∙ d in let z : ◌≡◌ {A = ℕ} 0 1 = cc in absurd (omega arith))
        (λ (under : some_of (ltb N) l ≡ false). ⊎_elim
        (λ (h : some_of (eqb 0) l ≡ true). let e : Falsity ≡ Done = fault_zero N c l small low under h ∙ d in let z : ◌≡◌ {A = ℕ} 0 1 = cc in absurd (omega arith))
        (λ (real : some_of (eqb 0) l ≡ false). ⊎_elim
        (λ (h : some_of (eqb c) l ≡ true). let e : Itself ≡ Done = fault_own N c l small low under real h ∙ d in let z : ◌≡◌ {A = ℕ} 0 1 = cc in absurd (omega arith))
        (λ (foreign : some_of (eqb c) l ≡ false). record { small = small; low = low; under = under; real = real; foreign = foreign })
        (either (some_of (eqb c) l)))
        (either (some_of (eqb 0) l)))
        (either (some_of (ltb N) l)))
  ])
]
