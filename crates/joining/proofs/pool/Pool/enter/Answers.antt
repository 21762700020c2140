-- `joining::pool::Pool::enter` meets its contract. Assumes nothing.
use Rattle.std.proofs.Common.{arith, rules, ◌≡◌, ◌+◌, ap, ◌∙◌, length, subst, sym, Some, take, set, [], ℕ}
use Rattle.joining.proofs.Pools.{enter_full, enter_room, purge_sorted}
use Rattle.joining.proofs.Refusals.{entered_well}
use Rattle.joining.specs.Places.{filled}
use Rattle.joining.specs.Pool.{Filled, Well, entered}
use Rattle.joining.proofs.pool.Pool.enter.Goals as goal
use Rattle.joining.proofs.pool.Pool.enter.Goals.{Then-kept-lt-POOL, Else-kept-lt-POOL}

pub squeeze-last-requires : goal.squeeze-last-requires
squeeze-last-requires c =
    let long : length c.args.self.now.sets ≡ 33 = search rules in
    (omega (arith, c.args.self.now.fits, c.purge-kept.auto.list), purge_sorted c.args.e _ _ c.purge-kept.ensures.1 c.args.self.now.well.sorted)

-- with room left
in_room : (c : Then-kept-lt-POOL) → ◌≡◌ {A = Filled} (record { sets = take (c.purge-kept.result + 1) (set c.squeeze-last.new.list c.purge-kept.result c.squeeze-last.result); bound = c.args.self.now.bound }) (entered 33 (filled c.args.self.now) c.args.e)
in_room c =
    let long : length c.args.self.now.sets ≡ 33 = search rules in
    enter_room 33 (filled c.args.self.now) c.purge-kept.new.list c.squeeze-last.new.list c.args.e c.purge-kept.result c.squeeze-last.result
    (c.squeeze-last.auto.list ∙ c.purge-kept.auto.list ∙ long) (omega arith) c.purge-kept.ensures.1 c.squeeze-last.ensures c.if-kept-lt-POOL.true

all_of : (f : ℕ → Filled) {m n : ℕ} → m ≡ n → f m ≡ f n
all_of f e = ap f e

-- without room
in_full : (c : Else-kept-lt-POOL) → ◌≡◌ {A = Filled} (record { sets = take c.args.self.now.count c.squeeze-last.new.list; bound = Some c.squeeze-last.result }) (entered 33 (filled c.args.self.now) c.args.e)
in_full c =
    let long : length c.args.self.now.sets ≡ 33 = search rules in
    let all : c.args.self.now.count ≡ c.purge-kept.result = omega (arith, c.args.self.now.fits, c.purge-kept.ensures.0, c.if-kept-lt-POOL.false) in
    all_of (λ (n : ℕ). record { sets = take n c.squeeze-last.new.list; bound = Some c.squeeze-last.result }) all ∙
    enter_full 33 (filled c.args.self.now) c.purge-kept.new.list c.squeeze-last.new.list c.args.e c.purge-kept.result c.squeeze-last.result
    (c.squeeze-last.auto.list ∙ c.purge-kept.auto.list ∙ long) (omega (arith, c.args.self.now.fits, c.purge-kept.ensures.0)) c.purge-kept.ensures.1 c.squeeze-last.ensures c.if-kept-lt-POOL.false

pub invariant_of-self : goal.invariant_of-self
invariant_of-self c = record { fits = omega arith; well = subst Well (sym (in_room c)) (entered_well 33 [] (filled c.args.self.now) c.args.self.now.well c.args.e c.requires) }

pub invariant_of-self-else-kept-lt-POOL : goal.invariant_of-self-else-kept-lt-POOL
invariant_of-self-else-kept-lt-POOL c = record { fits = c.args.self.now.fits; well = subst Well (sym (in_full c)) (entered_well 33 [] (filled c.args.self.now) c.args.self.now.well c.args.e c.requires) }

pub returns-then-kept-lt-POOL : goal.returns-then-kept-lt-POOL
returns-then-kept-lt-POOL c =
    let long : length c.args.self.now.sets ≡ 33 = search rules in
    enter_room 33 (filled c.args.self.now) c.purge-kept.new.list c.squeeze-last.new.list c.args.e c.purge-kept.result c.squeeze-last.result
    (c.squeeze-last.auto.list ∙ c.purge-kept.auto.list ∙ long) (omega arith) c.purge-kept.ensures.1 c.squeeze-last.ensures c.if-kept-lt-POOL.true

pub returns-else-kept-lt-POOL : goal.returns-else-kept-lt-POOL
returns-else-kept-lt-POOL c =
    let long : length c.args.self.now.sets ≡ 33 = search rules in
    let all : c.args.self.now.count ≡ c.purge-kept.result = omega (arith, c.args.self.now.fits, c.purge-kept.ensures.0, c.if-kept-lt-POOL.false) in
    all_of (λ (n : ℕ). record { sets = take n c.squeeze-last.new.list; bound = Some c.squeeze-last.result }) all
    ∙ enter_full 33 (filled c.args.self.now) c.purge-kept.new.list c.squeeze-last.new.list c.args.e c.purge-kept.result c.squeeze-last.result
    (c.squeeze-last.auto.list ∙ c.purge-kept.auto.list ∙ long) (omega (arith, c.args.self.now.fits, c.purge-kept.ensures.0)) c.purge-kept.ensures.1 c.squeeze-last.ensures c.if-kept-lt-POOL.false
