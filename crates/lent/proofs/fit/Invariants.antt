-- `lent::fit`: the bytes so far are the text's, the others as they were. Assumes nothing.
use Rattle.std.proofs.Common.{◌≡◌, drop, take}
use Rattle.lent.proofs.fit.Given as goal

abbrev pub invariant-loop-i : goal.invariant-loop-i
invariant-loop-i l = (take l.i l.out ≡ take l.i l.text) × (drop l.i l.out ≡ drop l.i l.initial.out)
