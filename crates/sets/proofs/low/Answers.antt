-- `sets::low` meets its contract. Assumes nothing.
use Rattle.std.proofs.Common.{◌∙◌, ◌/◌, ◌^◌, ap, eqb, ℕ}
use Rattle.sets.proofs.Operations.{range_test}
use Rattle.sets.proofs.low.Goals as goal

pub returns : goal.returns
returns c = ap (λ (e : ℕ). eqb (e / 2 ^ c.args.a) 0) c.from.ensures ∙ range_test c.args.e c.args.a
