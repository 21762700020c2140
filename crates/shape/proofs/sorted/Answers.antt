-- `sorted` meets its contract. The loop: the sets so far stand clear, those from a place on with as many assumptions as the last, whose number is at hand. Assumes nothing.
use Rattle.std.proofs.Common.{◌≡◌, ◌∙◌, ◌+◌, ◌-◌, ℕ, inl, inr, refl, sym, subst, get_or, arith}
use Rattle.std.proofs.lemmas.Bool.Decides.{nat_tests}
use Rattle.std.specs.Int.Count.{ones}
use Rattle.shape.proofs.Runs.{Run, as_many, run_end, run_in, run_late, run_on, run_one}
use Rattle.shape.proofs.sorted.Goals as goal
use Rattle.shape.proofs.sorted.Goals.{else-most-count, then-most-count}

pub returns-then-is_empty : goal.returns-then-is_empty
returns-then-is_empty c = run_end c.args.l.now 1 0 _ (run_one c.args.l.now) (grind (arith, nat_tests, c.is_empty.ensures, c.if-is_empty.true))

pub loop-i-init : goal.loop-i-init
loop-i-init c = record { low = omega arith; counted = refl; run = run_one c.args.l.now }

pub earlier-requires : goal.earlier-requires
earlier-requires c = (c.loop-i.invariant.counted, refl)

pub returns-then-not-earlier : goal.returns-then-not-earlier
returns-then-not-earlier c =
    let l = c.loop-i in
    run_late c.args.l.now l.i l.from _ l.invariant.run (omega arith) c.loop-i-test.true (sym c.earlier.ensures ∙ c.if-not-earlier.true)

pub returns-then-is_some : goal.returns-then-is_some
returns-then-is_some c =
    let l = c.loop-i in
    run_in c.args.l.now l.i l.from _ l.invariant.run (omega arith) c.loop-i-test.true c.if-most-count.from _
    (elim c.if-most-count.branch [ then-most-count w ↦ omega arith | else-most-count w ↦ omega arith ]) c.first_within.ensures (sym c.is_some.ensures ∙ c.if-is_some.true)

pub loop-i-preserved : goal.loop-i-preserved
loop-i-preserved c =
    let l = c.loop-i in
    let m = c.args.l.now in
    let last : ℕ = get_or m (l.i - 1) 0 in
    let e : ℕ = get_or m l.i 0 in
    let at : l.i + 1 - 1 ≡ l.i = omega arith in
    let by = sym c.earlier.ensures ∙ c.if-not-earlier.false in
    let known : l.most ≡ ones last = l.invariant.counted in
    record {
      low = elim c.if-most-count.branch [ then-most-count w ↦ omega arith | else-most-count w ↦ omega arith ];
      counted = subst (λ (k : ℕ). c.if-most-count.most ≡ ones (get_or m k 0)) (sym at)
          (elim c.if-most-count.branch [ then-most-count w ↦ w.most-is | else-most-count w ↦ w.most-is ∙ known ∙ as_many last e by (omega (arith, w.if-most-count.false, known)) ]);
      run = subst (λ (k : ℕ). Run m (l.i + 1) c.if-most-count.from (get_or m k 0)) (sym at)
          (run_on m l.i l.from _ l.invariant.run (omega arith) c.loop-i-test.true (omega arith) by c.if-most-count.from
          (elim c.if-most-count.branch [ then-most-count w ↦ inl (omega (arith, w.if-most-count.true, known), w.from-is) | else-most-count w ↦ inr (omega (arith, w.if-most-count.false, known), w.from-is) ]) _ c.first_within.ensures (sym c.is_some.ensures ∙ c.if-is_some.false));
    }

pub returns : goal.returns
returns c = let l = c.loop-i in run_end c.args.l.now l.i l.from _ l.invariant.run c.loop-i-test.false
