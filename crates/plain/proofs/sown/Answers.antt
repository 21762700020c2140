-- `plain::sown` meets its contract. Assumes nothing.
use Rattle.std.proofs.Common.{◌<◌, ◌≡◌, ◌^◌, ◌∙◌, ap, sym, ℕ, arith, Bool, true, rules}
use borrow.Author.Tests.{lt-ltb}
use Rattle.plain.proofs.Laws.{sow_end, sow_skip, sow_start, sow_turn}
use Rattle.theory.specs.Limits.{limits}
use Rattle.theory.specs.Lists.{choose}
use Rattle.theory.specs.Sets.{in_range}
use Rattle.plain.proofs.sown.Goals as goal
use Rattle.plain.proofs.sown.Goals.{then-has, else-has}

-- a set has no assumption above the limit
low : (e : ℕ) → e < 2 ^ limits.assumptions → in_range limits.assumptions e ≡ true
unfolding in_range
low e h = lt-ltb e (2 ^ limits.assumptions) h

pub loop-k-init : goal.loop-k-init
loop-k-init c = sow_start c.args.e

pub loop-k-preserved : goal.loop-k-preserved
loop-k-preserved c =
    elim c.if-has.branch [
      | then-has w ↦ w.marks-is ∙ sow_turn c.args.e c.loop-k.k 0 c.loop-k.marks (omega arith) c.loop-k.invariant (sym (ap (λ (b : Bool). choose b 0 255) (sym c.has.ensures ∙ w.if-has.true)))
      | else-has w ↦ w.marks-is ∙ c.loop-k.invariant ∙ sow_skip c.args.e c.loop-k.k (sym c.has.ensures ∙ w.if-has.false)
    ]

pub returns : goal.returns
returns c = sow_end c.args.e limits.assumptions c.loop-k.k c.loop-k.marks (omega arith) (low c.args.e (search rules)) c.loop-k.invariant
