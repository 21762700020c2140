-- `spare` meets its contract. The loop: the unused places are zero if what was seen and those from here on are. Assumes nothing.
use mathlib.Core.Path.{◌∙◌, ap}
use native.Mathlib.Omega.{arith}
use lib.Seq.{take_all}
use lib.ListN.{length-drop}
use Rattle.rules.proofs.Steps.{beyond}
use Rattle.rules.specs.Held.{unused_entry}
use Rattle.slices.proofs.Laws.{zero_end, zero_on}
use Rattle.theory.specs.Lists.{all_of}
use Rattle.rules.proofs.Held.spare.Goals as goal

pub loop-entry-preserved : goal.loop-entry-preserved
loop-entry-preserved c = let l = c.loop-entry in zero_on unused_entry _ l.entry-index l.seen _ l.invariant beyond _ (omega arith) c.bits-seen.ensures

pub returns : goal.returns
returns c = let l = c.loop-entry in let e = zero_end unused_entry _ l.entry-index l.seen _ l.invariant (omega arith) in e ∙ ap (all_of unused_entry) (take_all _ _ (omega (arith, length-drop c.args.self.count c.args.self.entries)))
