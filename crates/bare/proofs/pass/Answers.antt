-- `bare::pass` meets its contract. Assumes nothing.
use Rattle.std.proofs.Common.{◌∙◌, ◌+◌, ap, sym, refl, ℕ, arith, add-one, set, take}
use lib.Seq.{take_all}
use mathlib.Core.List.{List}
use Rattle.bare.proofs.Items.{faults_each, pass_next}
use Rattle.bare.proofs.Steps.{low}
use Rattle.bare.specs.Bare.{barely, just_of}
use Rattle.following.specs.Marks.{given_by, mark_by, pass_over}
use Rattle.handed.proofs.Supplied.{item_at}
use Rattle.handed.specs.declared.Handed.{Handed}
use Rattle.bare.proofs.pass.Goals as goal

pub loop-item-init : goal.loop-item-init
unfolding pass_over
loop-item-init c = refl

pub mark-requires : goal.mark-requires
mark-requires c = (c.requires.0, c.requires.1, faults_each c.args.top c.args.list.now c.loop-item.item-index (omega arith) c.requires.2)

pub bounds-marks-n : goal.bounds-marks-n
bounds-marks-n c =
    let a = c.args in
    omega (arith, low a.top (item_at a.list.now c.loop-item.item-index) (faults_each a.top a.list.now c.loop-item.item-index (omega arith) c.requires.2), c.requires.0)

pub loop-item-preserved : goal.loop-item-preserved
unfolding given_by
loop-item-preserved c =
    let a = c.args in
    let l = c.loop-item in
    let j = just_of a.top (item_at a.list.now l.item-index) in
    ap (set l.marks j.consequent) c.mark.ensures ∙ ap (λ (m : List ℕ). set m j.consequent (mark_by a.k (a.k + 1) m j)) l.invariant
    ∙ sym (pass_next a.top a.k (a.k + 1) a.start a.list.now l.item-index (omega arith))
    ∙ ap (λ (i : ℕ). pass_over a.k (a.k + 1) a.start (barely a.top (take i a.list.now))) (sym (add-one l.item-index))

pub returns : goal.returns
returns c =
    let a = c.args in
    c.loop-item.invariant ∙ ap (λ (l : List Handed). pass_over a.k (a.k + 1) a.start (barely a.top l)) (take_all c.loop-item.item-index a.list.now (omega arith))
