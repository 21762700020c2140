-- `Follower::staged` meets its contract. The loop: from these marks on it comes to the same. Assumes nothing.
use Rattle.std.proofs.Common.{◌∙◌, eqb, sym}
use Rattle.following.proofs.First.{stages_end, stages_next, stages_same}
use Rattle.rules.specs.Held.{said_by}
use Rattle.theory.proofs.Words.{alike_is}
use Rattle.theory.specs.Judge.{same_sets}
use Rattle.following.proofs.Follower.staged.Goals as goal

pub returns-then-eq : goal.returns-then-eq
unfolding same_sets
returns-then-eq c =
    let l = c.loop-k in
    sym (l.invariant ∙ stages_same (said_by c.args.self.now.held) l.k l.marks c.pass-next.result c.loop-k-test.true c.pass-next.ensures c.eq.result (c.eq.ensures ∙ alike_is eqb c.pass-next.result l.marks) c.if-eq.true)

pub loop-k-preserved : goal.loop-k-preserved
unfolding same_sets
loop-k-preserved c =
    let l = c.loop-k in
    l.invariant ∙ stages_next (said_by c.args.self.now.held) l.k l.marks c.pass-next.result c.loop-k-test.true c.pass-next.ensures c.eq.result (c.eq.ensures ∙ alike_is eqb c.pass-next.result l.marks) c.if-eq.false

pub returns : goal.returns
returns c = sym (c.loop-k.invariant ∙ stages_end (said_by c.args.self.now.held) c.loop-k.k c.loop-k.marks c.loop-k-test.false)
