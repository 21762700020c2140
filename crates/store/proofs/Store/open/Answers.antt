-- `open` meets its contract: the counts, then the store that holds nothing. Assumes nothing.
use mathlib.Core.Path.{◌∙◌, ap}
use Rattle.replies.specs.declared.Reply.TheVariants.{Counts, Done}
use Rattle.store.proofs.Judging.{open_a, open_done, open_m}
use Rattle.store.specs.Calls.{answer}
use Rattle.store.proofs.Store.open.Goals as goal
use Rattle.store.proofs.Store.open.Goals.{then-assumptions-gt-ASSUMPTIONS-via-then-assumptions-gt-ASSUMPTIONS, then-assumptions-gt-ASSUMPTIONS-via-else-assumptions-gt-ASSUMPTIONS+then-claims-gt-CLAIMS}

pub returns-then-assumptions-gt-ASSUMPTIONS : goal.returns-then-assumptions-gt-ASSUMPTIONS
returns-then-assumptions-gt-ASSUMPTIONS c =
    let a = c.args in
    ap (answer Counts) c.start.ensures ∙ elim c.then-assumptions-gt-ASSUMPTIONS.branch [
      | then-assumptions-gt-ASSUMPTIONS-via-then-assumptions-gt-ASSUMPTIONS w ↦ open_a a.assumptions a.claims w.if-assumptions-gt-ASSUMPTIONS.true
      | then-assumptions-gt-ASSUMPTIONS-via-else-assumptions-gt-ASSUMPTIONS+then-claims-gt-CLAIMS w ↦ open_m a.assumptions a.claims w.if-assumptions-gt-ASSUMPTIONS.false w.if-claims-gt-CLAIMS.true
    ]

pub returns : goal.returns
returns c = let a = c.args in ap (answer Done) c.start-2.ensures ∙ open_done a.assumptions a.claims c.if-assumptions-gt-ASSUMPTIONS.false c.if-claims-gt-CLAIMS.false
