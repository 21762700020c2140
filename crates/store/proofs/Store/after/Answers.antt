-- `after` meets its contract: the change, then the stages. Assumes nothing.
use mathlib.Core.Path.{◌∙◌, ap, sym}
use Rattle.store.specs.Calls.{after_of}
use Rattle.store.proofs.Changes.{after_done, after_refused, after_stages}
use Rattle.store.proofs.Store.after.Goals as goal

pub returns-in-Err : goal.returns-in-Err
returns-in-Err c = let a = c.args in after_refused a.self c.in-Err.reply ∙ sym (ap (after_of a.self) c.in-Err.is)

pub returns-then-number-ne0 : goal.returns-then-number-ne0
returns-then-number-ne0 c =
    let a = c.args in
    after_stages a.self c.in-Ok.held _ c.judged-out.ensures (λ z. c.if-number-ne0.true (c.number.ensures ∙ z)) ∙ sym (ap (after_of a.self) c.in-Ok.is)

pub returns-else-number-ne0 : goal.returns-else-number-ne0
returns-else-number-ne0 c =
    let a = c.args in
    after_done a.self c.in-Ok.held _ c.judged-out.ensures (sym c.number.ensures ∙ c.if-number-ne0.false) ∙ sym (ap (after_of a.self) c.in-Ok.is)
