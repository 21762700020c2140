-- `joining::pool::purge` meets its contract. Assumes nothing.
use Rattle.std.proofs.Common.{◌≡◌, ◌++◌, ◌-◌, ◌≤◌, drop, take}
use Rattle.joining.specs.Pool.{purged}
use Rattle.joining.proofs.pool.purge.Given as goal

abbrev pub invariant-loop-i : goal.invariant-loop-i
invariant-loop-i l = (l.kept ≤ l.i) × (purged l.e (take l.count l.initial.list) ≡ take l.kept l.list ++ purged l.e (take (l.count - l.i) (drop l.i l.list)))
