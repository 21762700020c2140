-- `sorted` meets its contract. The loop: the sets so far stand clear, those from a place on with as many assumptions as the last, whose number is at hand. Assumes nothing.
use Rattle.std.proofs.Common.{◌≡◌, ◌-◌, ◌<◌, get_or}
use Rattle.std.specs.Int.Count.{ones}
use Rattle.shape.proofs.Runs.{Run}
use Rattle.shape.proofs.sorted.Given as goal

abbrev pub invariant-loop-i : goal.invariant-loop-i
invariant-loop-i l = record {
  low : l.from < l.i;
  counted : l.most ≡ ones (get_or l.l (l.i - 1) 0);
  run : Run l.l l.i l.from (get_or l.l (l.i - 1) 0);
}
