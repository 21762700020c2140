-- `right` meets its contract: each part of the test in its order. Assumes nothing.
use mathlib.Core.Path.{◌∙◌, ◌≡◌, sym}
use lib.ListN.{length}
use borrow.Author.Rules.{rules}
use Rattle.rules.proofs.Scan.{right_many, right_out, right_rest}
use Rattle.rules.proofs.Steps.{length_mapped}
use Rattle.theory.specs.Limits.{limits}
use Rattle.rules.proofs.Held.right.Goals as goal

pub returns-then-self-gt-HELD : goal.returns-then-self-gt-HELD
returns-then-self-gt-HELD c = right_many c.args.self c.if-self-gt-HELD.true

pub returns-then-inplace : goal.returns-then-inplace
returns-then-inplace c =
    let s = c.args.self in
    let e : length s.entries ≡ limits.held = search (rules, length_mapped) in
    right_rest s c.if-self-gt-HELD.false e (sym c.inplace.ensures ∙ c.if-inplace.true) _ c.spare.ensures

pub returns-else-inplace : goal.returns-else-inplace
returns-else-inplace c =
    let s = c.args.self in
    let e : length s.entries ≡ limits.held = search (rules, length_mapped) in
    c.if-inplace.false ∙ right_out s c.if-self-gt-HELD.false e (sym c.inplace.ensures ∙ c.if-inplace.false)
