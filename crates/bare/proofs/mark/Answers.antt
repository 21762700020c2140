-- `bare::mark` meets its contract. Assumes nothing.
use mathlib.Core.Path.{◌∙◌, ◌≡◌, ap, sym}
use Prim.Native.Nat.{◌+◌}
use native.Mathlib.Omega.{arith}
use lib.ListN.{length}
use lib.Seq.{length-take-le}
use Rattle.bare.proofs.Steps.{entry_fits, few, means, sound}
use Rattle.following.specs.Marks.{mark_by}
use borrow.Author.Rules.{rules}
use Rattle.theory.specs.Limits.{limits}
use Rattle.bare.proofs.mark.Goals as goal

pub slice_bounds-supports-end : goal.slice_bounds-supports-end
slice_bounds-supports-end c = let a = c.args in let e : length a.item.supports ≡ limits.supports = search rules in omega (arith, e, few a.top a.item c.requires.2)

pub slice_bounds-canonical-end : goal.slice_bounds-canonical-end
slice_bounds-canonical-end c = let a = c.args in let e : length a.item.supports ≡ limits.supports = search rules in sym (length-take-le _ _ (omega (arith, e, few a.top a.item c.requires.2)))

pub canonical-entry-requires : goal.canonical-entry-requires
canonical-entry-requires c = (c.requires.0, sound c.args.top c.args.item c.requires.2)

pub overflow_add-k : goal.overflow_add-k
overflow_add-k c = omega (arith, c.requires.1)

pub mark-requires : goal.mark-requires
mark-requires c = let a = c.args in let f = entry_fits a.top a.item c.requires.2 _ c.canonical-entry.ensures c.requires.0 in record { few = f.0; low = f.1; placed = f.2 }

pub returns : goal.returns
returns c = let a = c.args in c.mark.ensures ∙ ap (mark_by a.k (a.k + 1) a.marks.now) (means a.top a.item c.requires.2 _ c.canonical-entry.ensures)
