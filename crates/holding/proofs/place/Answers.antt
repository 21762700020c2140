-- `place` meets its contract: those that stand before it are the first ones. Assumes nothing.
use Rattle.std.proofs.Common.{rules, tests}
use Rattle.std.proofs.lemmas.List.Sorted.{IsPartitionPoint-from_clause}
use lib.ListN.{take}
use Rattle.holding.proofs.Steps.{before_first, place_found}
use Rattle.rules.proofs.Scan.{right_elim}
use Rattle.rules.specs.Held.{meaning}
use Rattle.rules.specs.declared.Entry.{Entry}
use Rattle.theory.specs.Stages.{ahead}
use Rattle.holding.proofs.place.Goals as goal

pub shared_ref_as_front-partition_point : goal.shared_ref_as_front-partition_point
shared_ref_as_front-partition_point c = (right_elim c.args.held c.requires).few

pub returns : goal.returns
returns c =
    let h = c.args.held in
    let r = meaning c.args.entry in
    let l = take h.count h.entries in
    let w = IsPartitionPoint-from_clause (λ (t : Entry). ahead (meaning t) r) l _ c.partition_point.ensures.partitioned (before_first r l (right_elim h c.requires).order) (λ a b q k. search (rules, tests)) in
    place_found r l _ c.partition_point.ensures.bound w.0 w.1
