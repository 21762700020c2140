-- `labels::build` meets its contract. Assumes nothing.
use Rattle.std.proofs.Common.{◌∙◌, sym, ap, arith, map, length}
use Rattle.joining.specs.Layout.{lying}
use Rattle.joining.specs.Places.{filled}
use Rattle.labels.proofs.Rounds.{half_hushed, rounding_done, rounding_full, rounding_more, rounding_none, rounding_on}
use Rattle.labels.specs.Promised.{built_of}
use Rattle.rules.specs.Held.{meaning}
use Rattle.theory.specs.Step.{candidates, joins_for}
use Rattle.labels.proofs.build.Goals as goal
use Rattle.labels.proofs.build.Goals.{then-not-short-via-then-not-short, then-not-short-via-else-not-short+then-limit-sets}

pub loop-pool-init : goal.loop-pool-init
loop-pool-init c = rounding_none _ _ _ _ (filled c.new-pool.result) c.new-pool.ensures

pub pooled-requires : goal.pooled-requires
pooled-requires c =
    (c.requires.0, half_hushed _ _ _ _ c.requires.1 (filled c.loop-pool.pool) c.loop-pool.invariant (filled c.pour.new.pool) c.pour.ensures _ _ _ _ c.requires.2)

pub returns-then-not-short : goal.returns-then-not-short
unfolding candidates
returns-then-not-short c =
    c.drawn.ensures ∙ ap (built_of c.args.limit) c.sets-then-not-short.ensures
    ∙ elim c.then-not-short.branch [
      | then-not-short-via-then-not-short w ↦ rounding_done _ c.args.old.now (joins_for (lying c.args.labels.now.members.now c.args.labels.now.sizes.now) c.args.n (map meaning c.args.rules.now)) _ c.requires.1 (filled c.loop-pool.pool) c.loop-pool.invariant (filled c.pour.new.pool) c.pour.ensures (filled c.pooled.new.pool) c.pooled.ensures (filled c.again-short.new.self) c.again-short.ensures.1 (sym c.again-short.ensures.0 ∙ w.if-not-short.true)
      | then-not-short-via-else-not-short+then-limit-sets w ↦ rounding_full _ c.args.old.now (joins_for (lying c.args.labels.now.members.now c.args.labels.now.sizes.now) c.args.n (map meaning c.args.rules.now)) _ c.requires.1 (filled c.loop-pool.pool) c.loop-pool.invariant (filled c.pour.new.pool) c.pour.ensures (filled c.pooled.new.pool) c.pooled.ensures (filled c.again-short.new.self) c.again-short.ensures.1 (omega (arith, w.if-limit-sets.true, ap length w.sets.ensures))
    ]

pub loop-pool-smaller : goal.loop-pool-smaller
loop-pool-smaller c =
    let more = rounding_more _ c.args.old.now (joins_for (lying c.args.labels.now.members.now c.args.labels.now.sizes.now) c.args.n (map meaning c.args.rules.now)) _ c.requires.1 (filled c.loop-pool.pool) c.loop-pool.invariant (filled c.pour.new.pool) c.pour.ensures (filled c.pooled.new.pool) c.pooled.ensures (sym c.again-short.ensures.0 ∙ c.if-not-short.false) in
    omega (arith, more, ap (λ x. length x.sets) c.again-short.ensures.1, ap length c.sets.ensures, c.if-limit-sets.false)

pub loop-pool-preserved : goal.loop-pool-preserved
loop-pool-preserved c =
    rounding_on _ c.args.old.now (joins_for (lying c.args.labels.now.members.now c.args.labels.now.sizes.now) c.args.n (map meaning c.args.rules.now)) _ c.requires.1 (filled c.loop-pool.pool) c.loop-pool.invariant (filled c.pour.new.pool) c.pour.ensures (filled c.pooled.new.pool) c.pooled.ensures (filled c.again-short.new.self) c.again-short.ensures.1 (omega (arith, c.if-limit-sets.false, ap length c.sets.ensures))
