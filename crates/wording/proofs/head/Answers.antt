-- The count of what is held is small. Assumes nothing.
use Rattle.std.proofs.Common.{arith}
use Rattle.wording.proofs.Bounds.{bounded}
use Rattle.wording.proofs.head.Goals as goal

pub overflow_cast-held : goal.overflow_cast-held
overflow_cast-held c = omega (arith, (bounded c.args.store.now c.requires.0).held)
