-- `bare::follow` meets its contract: after a stage that marks nothing new, or after as many as there are numbers, nothing follows. Assumes nothing.
use Rattle.std.proofs.Common.{◌∙◌, ◌+◌, ap, sym, ℕ, arith}
use mathlib.Core.List.{List}
use Rattle.std.specs.Cmp.Lexicographic.{same_text}
use Rattle.bare.proofs.Items.{bare_placed}
use Rattle.bare.specs.Bare.{barely}
use Rattle.following.proofs.First.{pass_plus, pass_still, since_last, sown_at}
use Rattle.following.specs.Marks.{pass_over}
use Rattle.bare.proofs.follow.Goals as goal

pub loop-k-init : goal.loop-k-init
loop-k-init c = c.sown-marks.ensures ∙ sown_at (barely c.args.top c.args.list.now) c.args.e

pub returns-then-eq : goal.returns-then-eq
returns-then-eq c =
    let a = c.args in
    let l = c.loop-k in
    let J = barely a.top a.list.now in
    let placed = bare_placed a.top c.requires.0 a.list.now c.requires.1 in
    let same = same_text c.pass-next.result l.marks (sym c.if-eq.true ∙ c.eq.ensures) in
    l.invariant
    ∙ pass_still J placed a.e l.k (omega arith)
    (ap (λ (m : List ℕ). pass_over l.k (l.k + 1) m J) (sym l.invariant) ∙ sym c.pass-next.ensures ∙ same ∙ l.invariant)

pub loop-k-preserved : goal.loop-k-preserved
loop-k-preserved c =
    let a = c.args in
    let J = barely a.top a.list.now in
    c.pass-next.ensures ∙ ap (λ (m : List ℕ). pass_over c.loop-k.k (c.loop-k.k + 1) m J) c.loop-k.invariant
    ∙ pass_plus J (bare_placed a.top c.requires.0 a.list.now c.requires.1) a.e c.loop-k.k (omega arith)

pub returns : goal.returns
returns c =
    let a = c.args in
    c.loop-k.invariant ∙ since_last (barely a.top a.list.now) (bare_placed a.top c.requires.0 a.list.now c.requires.1) a.e c.loop-k.k (omega arith)
