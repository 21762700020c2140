-- `held_fits` meets its contract, test by test. Assumes nothing.
use mathlib.Core.Path.{◌∙◌}
use Rattle.store.proofs.Shapes.{fits_a, fits_m, fits_rest}
use Rattle.store.proofs.held_fits.Goals as goal
use Rattle.store.proofs.held_fits.Goals.{then-held-gt-ASSUMPTIONS-via-then-held-gt-ASSUMPTIONS, then-held-gt-ASSUMPTIONS-via-else-held-gt-ASSUMPTIONS+then-held-gt-CLAIMS}

pub returns-then-held-gt-ASSUMPTIONS : goal.returns-then-held-gt-ASSUMPTIONS
returns-then-held-gt-ASSUMPTIONS c = elim c.then-held-gt-ASSUMPTIONS.branch [
  | then-held-gt-ASSUMPTIONS-via-then-held-gt-ASSUMPTIONS w ↦ fits_a c.args.held w.if-held-gt-ASSUMPTIONS.true
  | then-held-gt-ASSUMPTIONS-via-else-held-gt-ASSUMPTIONS+then-held-gt-CLAIMS w ↦ fits_m c.args.held w.if-held-gt-ASSUMPTIONS.false w.if-held-gt-CLAIMS.true
]

pub returns : goal.returns
returns c = c.right.ensures ∙ fits_rest c.args.held c.if-held-gt-ASSUMPTIONS.false c.if-held-gt-CLAIMS.false
