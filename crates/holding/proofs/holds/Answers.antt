-- `holds` meets its contract: one of the places in use says the same. Assumes nothing.
use Rattle.std.proofs.Common.{◌∙◌, rules, tests}
use Rattle.std.proofs.lemmas.Iterator.{YieldsList-from_slice}
use Rattle.std.proofs.lemmas.Iterator.Search.{any_from_yields_List}
use lib.ListN.{take}
use Rattle.holding.proofs.Steps.{some_said}
use Rattle.rules.proofs.Scan.{right_elim}
use Rattle.rules.specs.Held.{meaning}
use Rattle.rules.specs.Items.{same_justification}
use Rattle.rules.specs.declared.Entry.{Entry}
use Rattle.theory.proofs.Words.{some_is}
use Rattle.holding.proofs.holds.Goals as goal

pub shared_ref_as_front-iter : goal.shared_ref_as_front-iter
shared_ref_as_front-iter c = (right_elim c.args.held c.requires).few

pub returns : goal.returns
returns c =
    let h = c.args.held in
    let p = λ (t : Entry). same_justification (meaning c.args.entry) (meaning t) in
    any_from_yields_List p _ _ _ c.any.ensures.ran (YieldsList-from_slice (take h.count h.entries) (search rules)) (λ x b q k. search (rules, tests))
    ∙ some_is p (take h.count h.entries) ∙ some_said (same_justification (meaning c.args.entry)) (take h.count h.entries)
