-- `stages::start` meets its contract. Assumes nothing.
use Rattle.std.proofs.Common.{ℕ, ◌<◌, refl, ap₂, ◌∙◌, arith}
use Rattle.stages.proofs.Stages.{members_more, members_none, sizes_more, sizes_none, start_made}
use Rattle.stages.specs.declared.Lists.{Lists}
use Rattle.theory.specs.Limits.{limits}
use Rattle.stages.proofs.start.Goals as goal

pub loop-i-init : goal.loop-i-init
loop-i-init c = record { sizes = sizes_none; members = members_none; count = refl; nogoods = refl; depth = refl }

pub loop-i-preserved : goal.loop-i-preserved
loop-i-preserved c =
    let l = c.loop-i in
    let h : l.i < limits.numbers = omega (arith, c.requires, c.loop-i-test.true) in
    record { sizes = sizes_more l.i h _ l.invariant.sizes; members = members_more l.i h _ l.invariant.members _ c.only.ensures; count = l.invariant.count; nogoods = l.invariant.nogoods; depth = l.invariant.depth }

pub returns : goal.returns
returns c =
    let l = c.loop-i in
    ap₂ (λ (n d : ℕ). counted l.lists n d) l.invariant.count l.invariant.depth ∙ start_made _ l.i _ _ _ (omega (arith, c.loop-i-test.false, l.auto.i-end)) l.invariant.sizes l.invariant.members l.invariant.nogoods
  where
    counted : Lists → ℕ → ℕ → Lists
    counted x n d = record { sizes = x.sizes; members = x.members; count = n; nogoods = x.nogoods; depth = d }
