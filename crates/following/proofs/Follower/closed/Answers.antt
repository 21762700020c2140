-- `Follower::closed` meets its contract. The loop: so many passes were made. Assumes nothing.
use Rattle.std.proofs.Common.{◌∙◌, sym, rules}
use Rattle.std.proofs.lemmas.Slice.Eq.{bytes_eq-Decides}
use Rattle.following.proofs.Closing.{closing_end, closing_next, closing_same, closing_start, hurried_closes}
use Rattle.following.proofs.Places.{held_placed}
use Rattle.rules.specs.Held.{said_by}
use Rattle.following.proofs.Follower.closed.Goals as goal

pub returns-then-eq : goal.returns-then-eq
returns-then-eq c E b =
    let h = c.args.self.now in
    let J = said_by h.held in
    let w = held_placed h.held h.followable in
    let l = c.loop in
    closing_same J w c.hurry.new.marks l.counter l.marks c.pass-next.result l.invariant.long l.invariant.closing c.pass-next.ensures ((bytes_eq-Decides c.pass-next.result l.marks).0 (sym c.eq.ensures ∙ c.if-eq.true)) E
    (hurried_closes J w c.args.start c.hurry.new.marks c.hurry.ensures E b)

pub loop-init : goal.loop-init
loop-init c = let h = c.args.self.now in record { long = search rules; closing = closing_start (said_by h.held) (held_placed h.held h.followable) c.hurry.new.marks }

pub loop-preserved : goal.loop-preserved
loop-preserved c =
    let h = c.args.self.now in
    let l = c.loop in
    record {
      long = search rules;
      closing = closing_next (said_by h.held) (held_placed h.held h.followable) c.hurry.new.marks l.counter l.marks c.pass-next.result l.invariant.long l.invariant.closing c.pass-next.ensures;
    }

pub returns : goal.returns
returns c E b =
    let h = c.args.self.now in
    let J = said_by h.held in
    let w = held_placed h.held h.followable in
    let l = c.loop in
    closing_end J w c.hurry.new.marks l.counter l.marks l.invariant.long c.loop-test.false l.invariant.closing E
    (hurried_closes J w c.args.start c.hurry.new.marks c.hurry.ensures E b)
