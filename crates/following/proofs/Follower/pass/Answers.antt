-- `Follower::pass` meets its contract. The loop: the marks are those after the justifications so far. Assumes nothing.
use Rattle.std.proofs.Common.{refl, arith}
use Rattle.following.proofs.Places.{entry_right, pass_all, pass_more, used_at}
use Rattle.following.proofs.Follower.pass.Goals as goal

pub mark-requires : goal.mark-requires
mark-requires c =
    let h = c.args.self.now in
    let s = c.entries-entry-items in
    entry_right h.held h.followable _ (used_at h.held h.followable s.result.now s.ensures c.loop-entry.entry-index _ c.loop-entry-test.true refl)

pub bounds-marks-n : goal.bounds-marks-n
bounds-marks-n c =
    let h = c.args.self.now in
    let s = c.entries-entry-items in
    omega (arith, (entry_right h.held h.followable _ (used_at h.held h.followable s.result.now s.ensures c.loop-entry.entry-index _ c.loop-entry-test.true refl)).low)

pub loop-entry-preserved : goal.loop-entry-preserved
loop-entry-preserved c =
    let a = c.args in
    pass_more a.t a.v a.start _ c.entries-entry-items.result.now c.loop-entry.entry-index _ c.loop-entry-test.true c.loop-entry.invariant c.mark.ensures

pub returns : goal.returns
returns c =
    let a = c.args in
    pass_all a.t a.v a.start _ a.self.now.held c.entries-entry-items.result.now c.loop-entry.entry-index c.entries-entry-items.ensures c.loop-entry-test.false c.loop-entry.invariant
