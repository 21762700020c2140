-- `script::field` meets its contract. Assumes nothing.
use Rattle.std.proofs.Common.{ℕ, ap, ap₂, ◌∙◌}
use Rattle.std.specs.Prelude.{eqb}
use Rattle.std.proofs.Common.{arith}
use Rattle.std.proofs.lemmas.Bool.Decides.{nat_tests}
use Rattle.script.specs.Script.{field_at, other, past}
use Rattle.script.proofs.field.Goals as goal

pub returns : goal.returns
unfolding field_at
returns c =
    let start = c.past-start.ensures (eqb 32) (λ b r e. grind (arith, nat_tests)) in
    let end = c.past-end.ensures (other 32) (λ b r e. grind (arith, nat_tests)) in
    ap₂ (λ (a e : ℕ). record { from = a; to = e }) start (end ∙ ap (past (other 32) c.args.line.now) start)
