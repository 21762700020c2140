-- `bare::fault` meets its contract. Assumes nothing.
use mathlib.Core.Path.{◌∙◌, ◌≡◌, ap, sym}
use Rattle.replies.specs.Replies.{checked}
use native.Mathlib.Omega.{arith}
use lib.ListN.{length}
use lib.Seq.{length-take-le}
use Rattle.bare.proofs.Steps.{fault_few, fault_five}
use borrow.Author.Rules.{rules}
use Rattle.theory.specs.Limits.{limits}
use Rattle.bare.proofs.fault.Goals as goal

pub returns-then-item-gt-SUPPORTS : goal.returns-then-item-gt-SUPPORTS
unfolding checked
returns-then-item-gt-SUPPORTS c = ap checked (fault_five c.args.top c.args.item c.if-item-gt-SUPPORTS.true)

pub slice_bounds-supports-end : goal.slice_bounds-supports-end
slice_bounds-supports-end c = let e : length c.args.item.supports ≡ limits.supports = search rules in omega (arith, e, c.if-item-gt-SUPPORTS.false)

pub slice_bounds-fault-end : goal.slice_bounds-fault-end
slice_bounds-fault-end c = let e : length c.args.item.supports ≡ limits.supports = search rules in sym (length-take-le _ _ (omega (arith, e, c.if-item-gt-SUPPORTS.false)))

pub returns : goal.returns
returns c = c.fault.ensures ∙ ap checked (fault_few c.args.top c.args.item c.if-item-gt-SUPPORTS.false)
