-- `asking::fill` meets its contract. Assumes nothing.
use Rattle.std.proofs.Common.{◌<◌, ◌≢◌, ◌∙◌, length, arith, get_or-set_other, get_or-set_same, below_more}
use Rattle.asking.proofs.Laws.{byte_told, marks_all}
use Rattle.asking.specs.Asking.{byte_of, standing}
use Rattle.store.specs.Reading.{contradicted_in}
use Rattle.theory.proofs.Places.{is_table}
use Rattle.asking.proofs.fill.Goals as goal

pub bounds-marks-n : goal.bounds-marks-n
bounds-marks-n c = omega (arith, marks_all c.args.store.now.held c.args.marks.now c.requires.1, c.requires.2)

pub loop-n-preserved : goal.loop-n-preserved
loop-n-preserved c =
    below_more _ _
    (λ k h. let ne : k ≢ c.loop-n.n = omega arith in rw get_or-set_other (c.loop-n.invariant k h))
    (let lt : c.loop-n.n < length c.loop-n.out = omega arith in
    rw get_or-set_same (c.byte.ensures ∙ byte_told c.args.store.now c.args.marks.now c.args.e c.loop-n.n c.requires.1 (omega (arith, c.requires.2))))

pub returns : goal.returns
returns c = is_table c.loop-n.out (length c.args.out.now) (λ n. byte_of (contradicted_in c.args.store.now n) (standing c.args.store.now.lists n c.args.e)) 0 (omega arith) (λ k h. c.loop-n.invariant k (omega arith))
