-- `closed` meets its contract. The loop: the places from `at` to i hold what was one above. Assumes nothing.
use mathlib.Core.Path.{◌∙◌, ◌≡◌, ap, refl, subst}
use Prim.Native.Nat.{◌+◌, ◌-◌, ℕ}
use native.Mathlib.Omega.{arith}
use lib.ListN.{get_or, length, set}
use borrow.Author.Rules.{rules}
use Rattle.holding.proofs.Removing.{Closing, close_end, close_more, close_none, right_vacant}
use Rattle.holding.specs.Placing.{with_entries}
use Rattle.rules.proofs.Scan.{right_elim}
use Rattle.rules.proofs.Steps.{beyond, length_mapped}
use Rattle.rules.specs.Held.{vacant}
use Rattle.rules.specs.declared.Held.{Held}
use Rattle.theory.specs.Limits.{limits}
use Rattle.holding.proofs.closed.Goals as goal

pub loop-i-init : goal.loop-i-init
loop-i-init c = (omega (arith, (right_elim c.args.held c.requires.0).few), close_none _ _, refl)

pub loop-i-preserved : goal.loop-i-preserved
loop-i-preserved c =
    let l = c.loop-i in
    let a = c.args in
    let e : length a.held.entries ≡ limits.held = search (rules, length_mapped) in (
      l.invariant.0,
      close_more a.held.entries l.held.entries a.at l.i (omega arith) (omega (arith, e, l.invariant.0)) l.invariant.1,
      ap (λ (s : Held). with_entries s s.count (set l.held.entries l.i (get_or l.held.entries (l.i + 1) beyond))) l.invariant.2,
    )

pub returns : goal.returns
returns c =
    let l = c.loop-i in
    let a = c.args in
    let r = c.requires.0 in
    let e : length a.held.entries ≡ limits.held = (right_elim a.held r).long in
    let i : l.i ≡ a.held.count - 1 = omega arith in
    ap (λ (s : Held). with_entries s (a.held.count - 1) (set l.held.entries (a.held.count - 1) vacant)) l.invariant.2
    ∙ ap (with_entries a.held (a.held.count - 1))
    (close_end a.held.entries l.held.entries a.at (a.held.count - 1) (omega arith) (omega (arith, (right_elim a.held r).few)) (subst (λ (n : ℕ). Closing a.held.entries l.held.entries a.at n) i l.invariant.1)
    (λ k p q. right_vacant a.held r k (omega arith) (omega arith)))
