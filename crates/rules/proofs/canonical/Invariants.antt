-- `canonical` meets its contract. The loop: the place has the numbers below n that the supports have. Assumes nothing.
use mathlib.Core.Path.{◌≡◌}
use Rattle.rules.specs.Placing.{partly}
use Rattle.rules.proofs.canonical.Given as goal

abbrev pub invariant-loop-n : goal.invariant-loop-n
invariant-loop-n l = l.entry ≡ partly l.consequent l.supports l.n
