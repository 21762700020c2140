-- Every case of the table computes to what it says. Assumes nothing.
use mathlib.Core.Path.{refl}
use Rattle.theory.specs.Cases.{Cases, verdict}

pub cases : Cases
unfolding verdict
cases = record {
  order = refl;
  nogoods_alone = refl;
  lists_alone = refl;
  nogoods_over_lem = refl;
  nogoods_fit = refl;
  label_over_lem = refl;
  label_fits = refl;
  early_over = refl;
  premise_first = refl;
  one_struck = refl;
  both_over = refl;
  label_earlier = refl;
  deepest = refl;
}
