-- `fits` meets its contract: each part of the test in its order. Assumes nothing.
use mathlib.Core.Path.{◌∙◌, ◌≡◌, sym}
use native.Mathlib.Omega.{arith}
use lib.ListN.{length}
use Rattle.rules.proofs.Steps.{fits_above, fits_many, fits_not, fits_rest}
use borrow.Author.Rules.{rules}
use Rattle.theory.specs.Limits.{limits}
use Rattle.rules.proofs.Entry.fits.Goals as goal
use Rattle.rules.proofs.Entry.fits.Goals.{then-top-self-via-then-top-self, then-top-self-via-else-top-self+then-count-gt-SUPPORTS}

pub returns-then-top-self : goal.returns-then-top-self
returns-then-top-self c = elim c.then-top-self.branch [
  | then-top-self-via-then-top-self w ↦ fits_above _ _ w.if-top-self.true
  | then-top-self-via-else-top-self+then-count-gt-SUPPORTS w ↦ fits_many _ _ w.if-top-self.false w.if-count-gt-SUPPORTS.true
]

pub returns-then-rises : goal.returns-then-rises
returns-then-rises c = let e : length c.args.self.supports ≡ limits.supports = search rules in fits_rest _ _ (omega arith) (omega arith) (sym c.rises.ensures ∙ c.if-rises.true) e _ c.ends.ensures

pub returns-else-rises : goal.returns-else-rises
returns-else-rises c = c.if-rises.false ∙ fits_not _ _ (omega arith) (omega arith) (sym c.rises.ensures ∙ c.if-rises.false)
