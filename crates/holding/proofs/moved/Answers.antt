-- `moved` meets its contract. The loop: the places above i hold what was one below. Assumes nothing.
use mathlib.Core.Path.{◌∙◌, ◌≡◌, ap, refl, subst}
use Prim.Native.Nat.{◌+◌, ◌-◌, ℕ}
use native.Mathlib.Omega.{arith}
use lib.ListN.{get_or, length, set}
use borrow.Author.Rules.{rules}
use Rattle.holding.proofs.Moving.{Shifting, shift_more, shift_none, shift_put}
use Rattle.holding.specs.Placing.{with_entries}
use Rattle.rules.proofs.Steps.{beyond, length_mapped}
use Rattle.rules.specs.declared.Held.{Held}
use Rattle.theory.specs.Limits.{limits}
use Rattle.holding.proofs.moved.Goals as goal

pub loop-i-init : goal.loop-i-init
loop-i-init c = (omega arith, shift_none _ _, refl)

pub loop-i-preserved : goal.loop-i-preserved
loop-i-preserved c =
    let l = c.loop-i in
    let a = c.args in
    let e : length a.held.entries ≡ limits.held = search (rules, length_mapped) in
    let back : l.i ≡ l.i - 1 + 1 = omega (arith, c.loop-i-test.true) in (
      omega (arith, c.loop-i-test.true),
      subst (λ (x : ℕ). Shifting a.held.entries (set l.held.entries x (get_or l.held.entries (l.i - 1) beyond)) (l.i - 1) a.held.count) back
          (shift_more a.held.entries l.held.entries l.i a.held.count (omega (arith, c.loop-i-test.true)) l.auto.i (omega arith) l.invariant.1),
      ap (λ (s : Held). with_entries s s.count (set l.held.entries (l.i - 1 + 1) (get_or l.held.entries (l.i - 1) beyond))) l.invariant.2,
    )

pub returns : goal.returns
returns c =
    let l = c.loop-i in
    let a = c.args in
    let e : length a.held.entries ≡ limits.held = search (rules, length_mapped) in
    let i : l.i ≡ a.at = omega arith in
    ap (λ (s : Held). with_entries s (a.held.count + 1) (set l.held.entries a.at a.entry)) l.invariant.2
    ∙ ap (with_entries a.held (a.held.count + 1))
    (shift_put a.held.entries a.at a.held.count a.entry (omega arith) (omega arith) l.held.entries (subst (λ (n : ℕ). Shifting a.held.entries l.held.entries n a.held.count) i l.invariant.1))
