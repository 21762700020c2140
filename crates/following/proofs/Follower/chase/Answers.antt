-- `Follower::chase` meets its contract. The loop: justifications held were gone over. Assumes nothing.
use Rattle.std.proofs.Common.{refl, arith}
use Rattle.following.proofs.Closing.{hurried_none, hurried_one, hurried_then}
use Rattle.following.proofs.Places.{entry_held, entry_right, used_at}
use Rattle.rules.proofs.Steps.{beyond}
use Rattle.rules.specs.Held.{meaning, said_by}
use Rattle.following.proofs.Follower.chase.Goals as goal

pub loop-init : goal.loop-init
loop-init c = record { low = c.requires; gone = hurried_none _ _ }

pub mark-new-requires : goal.mark-new-requires
mark-new-requires c =
    let h = c.args.self.now in
    let f = c.in-Some.ensures.lookup.3 in
    entry_right h.held h.followable _ (used_at h.held h.followable c.entries.result.now c.entries.ensures _ _ f.0 (f.1 beyond))

pub bounds-marks-n : goal.bounds-marks-n
bounds-marks-n c =
    let h = c.args.self.now in
    let f = c.in-Some.ensures.lookup.3 in
    omega (arith, (entry_right h.held h.followable _ (used_at h.held h.followable c.entries.result.now c.entries.ensures _ _ f.0 (f.1 beyond))).low)

pub bounds-marks-n-in-loop : goal.bounds-marks-n-in-loop
bounds-marks-n-in-loop c =
    let h = c.args.self.now in
    let f = c.in-Some.ensures.lookup.3 in
    omega (arith, (entry_right h.held h.followable _ (used_at h.held h.followable c.entries.result.now c.entries.ensures _ _ f.0 (f.1 beyond))).low)

pub loop-preserved : goal.loop-preserved
loop-preserved c =
    let h = c.args.self.now in
    let f = c.in-Some.ensures.lookup.3 in
    let e = c.in-Some.entry.now in
    let m = used_at h.held h.followable c.entries.result.now c.entries.ensures _ e f.0 (f.1 beyond) in
    record {
      low = (entry_right h.held h.followable e m).low;
      gone = hurried_then _ _ _ _ c.loop.invariant.gone (hurried_one (said_by h.held) c.loop.marks (meaning e) (entry_held h.held h.followable e m) e.consequent c.mark-new.result refl c.mark-new.ensures);
    }
