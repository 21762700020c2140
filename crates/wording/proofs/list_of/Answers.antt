-- The nogoods and each label lie within their arrays. Assumes nothing.
use Rattle.std.proofs.Common.{rules, ◌≡◌, ◌*◌, ◌-◌, ◌≤◌, arith, get_or, length, length-drop, sym}
use Rattle.std.proofs.lemmas.List.{length-take-le}
use Rattle.theory.specs.Limits.{limits}
use Rattle.wording.proofs.Bounds.{bounded}
use Rattle.wording.proofs.list_of.Goals as goal

pub slice_bounds-result-end : goal.slice_bounds-result-end
slice_bounds-result-end c = sym (length-take-le _ c.args.store.now.lists.nogoods (bounded c.args.store.now c.requires.0).nogoods)

pub slice_bounds-result-end-3 : goal.slice_bounds-result-end-3
slice_bounds-result-end-3 c =
    let s = c.args.store.now in
    let long : length s.lists.members ≡ limits.numbers * limits.label = search rules in
    let few : get_or s.lists.sizes (c.args.n - 1) 0 ≤ limits.label = (bounded s c.requires.0).sizes (c.args.n - 1) (omega arith) in
    grind (arith, long, few, length-drop, length-take-le)
