-- `stages::refuted` meets its contract. Assumes nothing.
use Rattle.std.proofs.Common.{◌≡◌, ℕ, List, get_or, ap, refl, arith}
use Rattle.rules.proofs.Scan.{right_elim}
use Rattle.stages.proofs.Keeps.{kept_listed}
use Rattle.stages.proofs.Marks.{nogood_still}
use Rattle.stages.proofs.Nexts.{listed_built, nogoods_built}
use Rattle.stages.proofs.Parts.{first_inside, first_is, first_joinable}
use Rattle.stages.proofs.Stages.{layout, nogoods_few}
use Rattle.stages.specs.Steps.{tallied}
use Rattle.stages.specs.declared.Step.{Step}
use Rattle.stages.proofs.Step.refuted.Goals as goal

-- where those of falsity end
ends : (s : Step) → get_or s.tallies.now 0 0 ≡ get_or (tallied s.held.now) 0 0
ends s = ap (λ (t : List ℕ). get_or t 0 0) s.counted

pub returns-then-stale-eq0 : goal.returns-then-stale-eq0
returns-then-stale-eq0 c =
    let p = c.args.self.now in
    listed_built _ _ _ (kept_listed p.held.now p.reached.judgeable p.lists.now.depth (c.requires c.if-stale-eq0.true) p.lists.now p.reached.is p.reached.room)

pub shared_ref_as_front-build : goal.shared_ref_as_front-build
shared_ref_as_front-build c = let p = c.args.self.now in omega (arith, ends p, first_inside c.args.self.now.held.now p.reached.judgeable (tallied c.args.self.now.held.now) refl, (right_elim _ p.reached.judgeable.right).few)

pub invariant_of-labels : goal.invariant_of-labels
invariant_of-labels c = record { layout = layout _ _ c.args.self.now.reached.room c.args.self.now.lists.now c.args.self.now.reached.is }

pub shared_ref_as_front-build-2 : goal.shared_ref_as_front-build-2
shared_ref_as_front-build-2 c = nogoods_few _ _ c.args.self.now.reached.room c.args.self.now.lists.now c.args.self.now.reached.is

pub build-requires : goal.build-requires
build-requires c =
    let p = c.args.self.now in
    let h = c.args.self.now.held.now in
    (first_joinable h p.reached.judgeable _ (ends p), omega arith, nogood_still h c.args.self.now.lists.now p.reached _ p.fresh _ (first_is h p.reached.judgeable _ (ends p)))

pub returns : goal.returns
returns c =
    let p = c.args.self.now in
    nogoods_built c.args.self.now.held.now c.args.self.now.lists.now p.reached _ (ends p) _ c.build.ensures
