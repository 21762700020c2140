-- `Follower::hints` is safe; its answer is a hint and nothing is said of it but its length. Assumes nothing.
use Rattle.std.proofs.Common.{ap, length, length-take, refl, arith}
use Rattle.following.proofs.Places.{entry_first, used_at}
use Rattle.rules.proofs.Scan.{right_elim}
use Rattle.following.proofs.Follower.hints.Goals as goal

pub overflow_cast-places : goal.overflow_cast-places
overflow_cast-places c =
    let h = c.args.self.now in
    omega (arith, ap length c.entries-entry-items.ensures, length-take h.held.count h.held.entries, (right_elim _ h.followable.right).few)

pub bounds-places-entry : goal.bounds-places-entry
bounds-places-entry c =
    let h = c.args.self.now in
    let s = c.entries-entry-items in
    omega (arith, entry_first h.held h.followable _ (used_at h.held h.followable s.result.now s.ensures c.loop-j.j _ c.loop-j-test.true refl))
