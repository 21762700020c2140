use Rattle.std.proofs.Common.{arith}
use Rattle.text.proofs.Rests.{rests}
use Rattle.text.proofs.Added.{writes}
use Rattle.text.proofs.Writer.braces.Goals as goal
use Rattle.text.proofs.Writer.braces.Goals.{then-has, then-later, else-later, else-has}

pub number-requires : goal.number-requires
number-requires c = elim c.if-later.branch [ then-later w ↦ grind (arith, writes, rests) | else-later w ↦ grind (arith, writes, rests) ]

pub loop-k-preserved : goal.loop-k-preserved
loop-k-preserved c =
    elim c.if-has.branch [
      | then-has w ↦ elim w.if-later.branch [ then-later v ↦ grind (arith, writes, rests) | else-later v ↦ grind (arith, writes, rests) ]
      | else-has w ↦ grind (arith, writes, rests)
    ]
