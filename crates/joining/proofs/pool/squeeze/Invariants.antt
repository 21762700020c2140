-- `joining::pool::squeeze` meets its contract. Assumes nothing.
use Rattle.std.proofs.Common.{◌≡◌, ◌++◌, drop, take}
use Rattle.joining.specs.Pool.{placed}
use Rattle.joining.proofs.pool.squeeze.Given as goal

abbrev pub invariant-loop-x : goal.invariant-loop-x
invariant-loop-x l = placed l.e l.initial.x-items ≡ take l.x-index l.x-items ++ placed l.carried (drop l.x-index l.x-items)
