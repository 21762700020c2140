-- Every case of the reading computes to what it says. Assumes nothing.
use mathlib.Core.Path.{refl}
use Rattle.labels.specs.Readings.{Readings, passed}

pub readings : Readings
unfolding passed
readings = record { first = refl; again = refl; lost = refl }
