-- `judged` meets its contract: what is held, then the stages. Assumes nothing.
use mathlib.Core.Bool.{true}
use mathlib.Core.Path.{◌∙◌, ◌≡◌, ap, sym}
use native.Mathlib.Omega.{arith}
use borrow.Author.Tests.{not-false, not-true}
use Rattle.replies.specs.declared.Reply.TheVariants.{Shape}
use Rattle.store.proofs.Judging.{judged_done, judged_refused, judged_shape}
use Rattle.store.proofs.Shapes.{fits_elim}
use Rattle.store.specs.Calls.{answer}
use Rattle.store.specs.Shape.{held_fits}
use Rattle.store.proofs.judged.Goals as goal

pub returns-then-not-held_fits : goal.returns-then-not-held_fits
returns-then-not-held_fits c = ap (answer Shape) c.start.ensures ∙ judged_shape c.args.held (sym c.held_fits.ensures ∙ not-true _ c.if-not-held_fits.true-raw)

pub judge-requires : goal.judge-requires
judge-requires c = let f = fits_elim c.args.held (sym c.held_fits.ensures ∙ not-false _ c.if-not-held_fits.false-raw) in record { right = f.right; assumptions = f.few; numbers = omega (arith, f.few, f.claims) }

pub returns-in-Ok : goal.returns-in-Ok
returns-in-Ok c = judged_done c.args.held (sym c.held_fits.ensures ∙ not-false _ c.if-not-held_fits.false-raw) c.in-Ok.lists c.in-Ok.ensures

pub returns-in-Err : goal.returns-in-Err
returns-in-Err c = ap (answer c.in-Err.reply) c.start-in-Err.ensures ∙ judged_refused c.args.held (sym c.held_fits.ensures ∙ not-false _ c.if-not-held_fits.false-raw) c.in-Err.reply c.in-Err.ensures
