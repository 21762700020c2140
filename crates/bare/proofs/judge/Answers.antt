-- `bare::judge` meets its contract: the first item with a fault decides. Assumes nothing.
use Rattle.std.proofs.Common.{◌∙◌, ap, sym, refl, ℕ, arith, add-one, take}
use Rattle.std.proofs.lemmas.Result.{err_from_is_err_and}
use lib.Seq.{take_all}
use borrow.Author.Tests.{ne_eqb}
use Rattle.bare.proofs.Items.{faults_at, faults_next}
use Rattle.bare.specs.Bare.{faults_of}
use Rattle.replies.proofs.Checked.{checked_done, checked_refusal, done_checked, refusal_checked}
use Rattle.replies.specs.Replies.{number_of}
use Rattle.bare.proofs.judge.Goals as goal

pub loop-item-init : goal.loop-item-init
unfolding faults_of
loop-item-init c = refl

pub returns-in_err-fault : goal.returns-in_err-fault
returns-in_err-fault c =
    let p = err_from_is_err_and c.from_residual.result c.from_residual.ensures.1 in
    let l = c.loop-item in
    let f = checked_refusal _ _ (sym c.in_err-fault.ensures) in
    let e = faults_at c.args.top c.args.list.now l.item-index (omega arith) l.invariant (ne_eqb _ 0 (λ z. f.1 (ap number_of (sym f.0) ∙ z))) in
    rw (p.1, p.2) (refusal_checked _ _ (e ∙ f.0) f.1)

pub loop-item-preserved : goal.loop-item-preserved
loop-item-preserved c =
    let l = c.loop-item in
    ap (λ (i : ℕ). faults_of c.args.top (take i c.args.list.now)) (add-one l.item-index)
    ∙ faults_next c.args.top c.args.list.now l.item-index (omega arith) l.invariant (checked_done _ tt (sym c.in_ok-fault.ensures))

pub returns : goal.returns
returns c =
    let l = c.loop-item in
    done_checked _ (ap (faults_of c.args.top) (sym (take_all l.item-index c.args.list.now (omega arith))) ∙ l.invariant)
