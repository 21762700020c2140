-- `plain::bytes` meets its contract. Assumes nothing.
use Rattle.std.proofs.Common.{arith}
use Rattle.plain.specs.Plainly.{byte_of, read_from}
use Rattle.theory.proofs.Places.{is_table}
use Rattle.plain.proofs.bytes.Goals as goal

pub returns : goal.returns
returns c = is_table c.loop-n.out _ (λ n. byte_of (read_from c.args.marks n)) 0 (omega arith) (λ k h. c.loop-n.invariant k (omega arith))
