-- `rises` meets its contract. The loop: the list rises and has no n if the last number is at most the top and the rest rises from it and has none. Assumes nothing.
use mathlib.Core.Bool.{◌&&◌, not}
use mathlib.Core.Path.{◌≡◌}
use Prim.Native.Nat.{◌<◌}
use lib.Dec.{eqb, leb}
use lib.ListN.{drop}
use Rattle.rules.specs.Held.{climbs}
use Rattle.theory.specs.Lists.{some_of}
use Rattle.rules.proofs.lists.rises.Given as goal

abbrev pub invariant-loop-x : goal.invariant-loop-x
invariant-loop-x l = (l.last < 256) × (climbs l.top 0 l.l && not (some_of (eqb l.n) l.l) ≡ leb l.last l.top && (climbs l.top l.last (drop l.x-index l.l) && not (some_of (eqb l.n) (drop l.x-index l.l))))
