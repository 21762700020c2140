-- `asking::Reading::stands` meets its contract: the nogoods are asked first, then the label, each by the place of the first set within. Assumes nothing.
use Rattle.std.proofs.Common.{◌∙◌, sym}
use Rattle.asking.proofs.Laws.{stands_no, stands_struck, stands_yes}
use Rattle.asking.proofs.Reading.stands.Goals as goal

pub returns-in-Some : goal.returns-in-Some
returns-in-Some c =
    let a = c.args in
    stands_struck a.self.now.lists.now a.self.now.n a.e c.nogoods-nogoods.result.now c.nogoods-nogoods.ensures c.in-Some.place (sym c.first_within.ensures ∙ c.in-Some.is)

pub returns-in-Some-first_within : goal.returns-in-Some-first_within
returns-in-Some-first_within c =
    let a = c.args in
    stands_yes a.self.now.lists.now a.self.now.n a.e c.nogoods-nogoods.result.now c.nogoods-nogoods.ensures (sym c.first_within.ensures ∙ c.in_default.is) c.label-label.result.now c.label-label.ensures c.in-Some-first_within.place
    (sym c.first_within-2.ensures ∙ c.in-Some-first_within.is)

pub returns-in-None : goal.returns-in-None
returns-in-None c =
    let a = c.args in
    stands_no a.self.now.lists.now a.self.now.n a.e c.nogoods-nogoods.result.now c.nogoods-nogoods.ensures (sym c.first_within.ensures ∙ c.in_default.is) c.label-label.result.now c.label-label.ensures
    (sym c.first_within-2.ensures ∙ c.in-None.is)
