-- `bare::judge`: no item so far has a fault. Assumes nothing.
use Rattle.std.proofs.Common.{◌≡◌, take}
use Rattle.bare.specs.Bare.{faults_of}
use Rattle.replies.specs.declared.Reply.TheVariants.{Done}
use Rattle.bare.proofs.judge.Given as goal

abbrev pub invariant-loop-item : goal.invariant-loop-item
invariant-loop-item l = faults_of l.top (take l.item-index l.list) ≡ Done
