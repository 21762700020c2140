-- `refusal` meets its contract, test by test. Assumes nothing.
use mathlib.Core.Bool.{true}
use mathlib.Core.Path.{◌∙◌, ◌≡◌, sym}
use native.Mathlib.Omega.{arith}
use borrow.Author.Tests.{not-false, not-true}
use Rattle.store.proofs.Reading.{refusal_none, refusal_number, refusal_set, refusal_shape}
use Rattle.store.proofs.Shapes.{Fitting, shape_elim}
use Rattle.store.specs.Shape.{right_shape}
use Rattle.store.proofs.Store.refusal.Goals as goal

pub returns-then-not-shape : goal.returns-then-not-shape
returns-then-not-shape c = let a = c.args in refusal_shape a.self a.n a.e (sym c.shape.ensures ∙ not-true _ c.if-not-shape.true-raw)

pub overflow_add-top : goal.overflow_add-top
overflow_add-top c = omega (arith, ((let bounds : Fitting c.args.self.held = (shape_elim c.args.self ((let right : right_shape c.args.self ≡ true = sym c.shape.ensures ∙ not-false _ c.if-not-shape.false-raw in right))).0 in bounds)).few, ((let bounds : Fitting c.args.self.held = (shape_elim c.args.self ((let right : right_shape c.args.self ≡ true = sym c.shape.ensures ∙ not-false _ c.if-not-shape.false-raw in right))).0 in bounds)).claims)

pub returns-then-top-n : goal.returns-then-top-n
returns-then-top-n c = let a = c.args in refusal_number a.self a.n a.e ((let right : right_shape c.args.self ≡ true = sym c.shape.ensures ∙ not-false _ c.if-not-shape.false-raw in right)) c.if-top-n.true

pub low-requires : goal.low-requires
low-requires c = ((let bounds : Fitting c.args.self.held = (shape_elim c.args.self ((let right : right_shape c.args.self ≡ true = sym c.shape.ensures ∙ not-false _ c.if-not-shape.false-raw in right))).0 in bounds)).few

pub returns-then-not-low : goal.returns-then-not-low
returns-then-not-low c = let a = c.args in refusal_set a.self a.n a.e ((let right : right_shape c.args.self ≡ true = sym c.shape.ensures ∙ not-false _ c.if-not-shape.false-raw in right)) c.if-top-n.false (sym c.low.ensures ∙ not-true _ c.if-not-low.true-raw)

pub returns : goal.returns
returns c = let a = c.args in refusal_none a.self a.n a.e ((let right : right_shape c.args.self ≡ true = sym c.shape.ensures ∙ not-false _ c.if-not-shape.false-raw in right)) c.if-top-n.false (sym c.low.ensures ∙ not-false _ c.if-not-low.false-raw)
