-- `season::give` meets its contract. Assumes nothing.
use mathlib.Core.Path.{◌∙◌, ◌≡◌, ap}
use native.Mathlib.Omega.{arith}
use lib.ListN.{length}
use borrow.Author.Rules.{rules}
use Rattle.handed.proofs.Supplied.{supplied_few}
use Rattle.season.proofs.Folds.{give_many}
use Rattle.store.proofs.Changes.{more_added}
use Rattle.store.proofs.Shapes.{shape_elim}
use Rattle.store.specs.Calls.{add_of, after_of}
use Rattle.theory.specs.Limits.{limits}
use Rattle.season.proofs.give.Goals as goal

pub returns-then-item-gt-SUPPORTS : goal.returns-then-item-gt-SUPPORTS
returns-then-item-gt-SUPPORTS c = let a = c.args in give_many a.store a.item c.requires c.if-item-gt-SUPPORTS.true

pub slice_bounds-supports-end : goal.slice_bounds-supports-end
slice_bounds-supports-end c = omega (arith, (let four : length c.args.item.supports ≡ limits.supports = search rules in four), c.if-item-gt-SUPPORTS.false)

pub more-requires : goal.more-requires
more-requires c = let f = (shape_elim c.args.store c.requires).0 in (f.right, omega (arith, f.few, f.claims))

pub returns : goal.returns
returns c =
    let a = c.args in
    c.after.ensures ∙ ap (after_of a.store) c.more.ensures ∙ more_added a.store c.requires a.item.consequent _ ∙ ap (add_of a.store a.item.consequent) (supplied_few a.item c.if-item-gt-SUPPORTS.false)
