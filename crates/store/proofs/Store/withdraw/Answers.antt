-- `withdraw` meets its contract: the shape, the change, then what is held judged anew. Assumes nothing.
use mathlib.Core.Path.{◌∙◌, ap, sym}
use native.Mathlib.Omega.{arith}
use Rattle.store.proofs.Changes.{less_withdrawn}
use Rattle.store.proofs.Judging.{withdraw_shape}
use Rattle.store.proofs.Shapes.{shape_elim}
use Rattle.store.specs.Calls.{after_of}
use Rattle.store.proofs.Store.withdraw.Goals as goal

pub returns-then-not-shape : goal.returns-then-not-shape
returns-then-not-shape c = let a = c.args in withdraw_shape a.self a.consequent a.supports.now (sym c.shape.ensures ∙ c.if-not-shape.true)

pub less-changed-requires : goal.less-changed-requires
less-changed-requires c = let f = (shape_elim c.args.self (sym c.shape.ensures ∙ c.if-not-shape.false)).0 in (f.right, omega (arith, f.few, f.claims))

pub returns : goal.returns
returns c = let a = c.args in c.after.ensures ∙ ap (after_of a.self) c.less-changed.ensures ∙ less_withdrawn a.self (sym c.shape.ensures ∙ c.if-not-shape.false) a.consequent a.supports.now
