-- `canonical` meets its contract. The loop: the place has the numbers below n that the supports have. Assumes nothing.
use mathlib.Core.Path.{◌∙◌, ◌≡◌, ap, sym}
use Prim.Native.Nat.{◌+◌, ℕ}
use native.Mathlib.Omega.{arith}
use Rattle.rules.proofs.Faults.{faultless}
use Rattle.rules.proofs.Taking.{partly_end, partly_start, taking_hit, taking_miss, taking_room}
use Rattle.rules.specs.Placing.{partly}
use Rattle.rules.proofs.canonical.Goals as goal
use Rattle.rules.proofs.canonical.Goals.{then-has, else-has}

pub overflow_cast-entry : goal.overflow_cast-entry
overflow_cast-entry c =
    omega (arith, c.requires.0, (faultless c.args.top c.args.consequent c.args.supports.now c.requires.1).low)

pub loop-n-init : goal.loop-n-init
loop-n-init c = partly_start _ _

pub overflow_cast-entry-then-has : goal.overflow_cast-entry-then-has
overflow_cast-entry-then-has c = let a = c.args in let l = c.loop-n in omega (arith, taking_room a.consequent a.supports.now l.n (faultless a.top a.consequent a.supports.now c.requires.1).small l.entry l.invariant (sym c.has.ensures ∙ c.if-has.true))

pub bounds-entry-entry : goal.bounds-entry-entry
bounds-entry-entry c = let a = c.args in let l = c.loop-n in taking_room a.consequent a.supports.now l.n (faultless a.top a.consequent a.supports.now c.requires.1).small l.entry l.invariant (sym c.has.ensures ∙ c.if-has.true)

pub overflow_add-entry : goal.overflow_add-entry
overflow_add-entry c = let a = c.args in let l = c.loop-n in omega (arith, taking_room a.consequent a.supports.now l.n (faultless a.top a.consequent a.supports.now c.requires.1).small l.entry l.invariant (sym c.has.ensures ∙ c.if-has.true))

pub loop-n-preserved : goal.loop-n-preserved
loop-n-preserved c =
    let a = c.args in
    let l = c.loop-n in
    let small = (faultless a.top a.consequent a.supports.now c.requires.1).small in
    elim c.if-has.branch [
      | then-has w ↦ w.entry-is ∙ taking_hit a.consequent a.supports.now l.n small l.entry l.invariant (sym c.has.ensures ∙ w.if-has.true)
      | else-has w ↦ w.entry-is ∙ taking_miss a.consequent a.supports.now l.n small l.entry l.invariant (sym c.has.ensures ∙ w.if-has.false)
    ]

pub returns-after-has : goal.returns-after-has
returns-after-has c =
    let a = c.args in
    let l = c.loop-n in
    let small = (faultless a.top a.consequent a.supports.now c.requires.1).small in
    let last : l.n ≡ a.top = omega arith in
    elim c.if-has.branch [
      | then-has w ↦ w.entry-is ∙ taking_hit a.consequent a.supports.now l.n small l.entry l.invariant (sym c.has.ensures ∙ w.if-has.true) ∙ ap (λ (n : ℕ). partly a.consequent a.supports.now (n + 1)) last ∙ partly_end _ _ _
      | else-has w ↦ w.entry-is ∙ taking_miss a.consequent a.supports.now l.n small l.entry l.invariant (sym c.has.ensures ∙ w.if-has.false) ∙ ap (λ (n : ℕ). partly a.consequent a.supports.now (n + 1)) last ∙ partly_end _ _ _
    ]
