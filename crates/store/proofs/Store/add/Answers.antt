-- `add` meets its contract: the shape, the change, then what is held judged anew. Assumes nothing.
use mathlib.Core.Path.{◌∙◌, ap, sym}
use native.Mathlib.Omega.{arith}
use Rattle.store.proofs.Changes.{more_added}
use Rattle.store.proofs.Judging.{add_shape}
use Rattle.store.proofs.Shapes.{shape_elim}
use Rattle.store.specs.Calls.{after_of}
use Rattle.store.proofs.Store.add.Goals as goal

pub returns-then-not-shape : goal.returns-then-not-shape
returns-then-not-shape c = let a = c.args in add_shape a.self a.consequent a.supports.now (sym c.shape.ensures ∙ c.if-not-shape.true)

pub more-changed-requires : goal.more-changed-requires
more-changed-requires c = let f = (shape_elim c.args.self (sym c.shape.ensures ∙ c.if-not-shape.false)).0 in (f.right, omega (arith, f.few, f.claims))

pub returns : goal.returns
returns c = let a = c.args in c.after.ensures ∙ ap (after_of a.self) c.more-changed.ensures ∙ more_added a.self (sym c.shape.ensures ∙ c.if-not-shape.false) a.consequent a.supports.now
