-- `season::add_all`: the store and the bytes after the items so far. Assumes nothing.
use Rattle.std.proofs.Common.{◌≡◌, ◌++◌, drop, take}
use Rattle.season.specs.Season.{added_all, replies_of}
use Rattle.season.proofs.add_all.Given as goal

abbrev pub invariant-loop-i : goal.invariant-loop-i
invariant-loop-i l = (l.after ≡ added_all l.fn.store (take l.i l.list)) × (l.out ≡ replies_of l.fn.store (take l.i l.list) ++ drop l.i l.initial.out)
