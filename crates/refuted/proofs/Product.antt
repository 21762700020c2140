-- The product keeps all of it. Assumes nothing.
use Rattle.promises.proofs.Once.{once_each}
use Rattle.promises.proofs.Promises.{promises}
use Rattle.refuted.proofs.Cases.{p_cases}
use Rattle.refuted.proofs.Pinned.{pinned}
use Rattle.refuted.proofs.Readings.{readings, readings_refuted}
use Rattle.refuted.proofs.Wrong.{refuted}
use Rattle.refuted.proofs.Writing.{writing_refuted}
use Rattle.refuted.specs.Product.{Product}

pub product : Product
product = record { promises = promises; once = once_each; cases = p_cases; pinned = pinned; refuted = refuted; readings = readings; readings_refuted = readings_refuted; writing_refuted = writing_refuted }
