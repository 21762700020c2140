-- `shape` meets its contract: what is held, then the lists. Assumes nothing.
use mathlib.Core.Path.{◌∙◌, sym}
use native.Mathlib.Omega.{arith}
use Rattle.store.proofs.Shapes.{fits_elim, shape_held, shape_lists}
use Rattle.store.proofs.Store.shape.Goals as goal

pub returns-then-not-held_fits : goal.returns-then-not-held_fits
returns-then-not-held_fits c = shape_held c.args.self (sym c.held_fits.ensures ∙ c.if-not-held_fits.true)

pub overflow_add-a : goal.overflow_add-a
overflow_add-a c = let f = fits_elim c.args.self.held (sym c.held_fits.ensures ∙ c.if-not-held_fits.false) in omega (arith, f.few, f.claims)

pub right-requires : goal.right-requires
right-requires c = let f = fits_elim c.args.self.held (sym c.held_fits.ensures ∙ c.if-not-held_fits.false) in (f.few, omega (arith, f.few, f.claims))

pub returns : goal.returns
returns c = shape_lists c.args.self (sym c.held_fits.ensures ∙ c.if-not-held_fits.false) _ c.right.ensures
