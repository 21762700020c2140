-- `members::first_within`: none of the members so far lies within the set. Assumes nothing.
use Rattle.std.proofs.Common.{◌≡◌, ℕ, ◌<◌, ◌≤◌, false, drop, get_or, length}
use Rattle.theory.specs.Sets.{within}
use Rattle.members.proofs.first_within.Given as goal

abbrev pub invariant-loop-member : goal.invariant-loop-member
invariant-loop-member l = record {
  inside : l.i ≤ length l.list;
  left : l.rest ≡ drop l.i l.list;
  passed : (k : ℕ) → k < l.i → within (get_or l.list k 0) l.e ≡ false;
}

abbrev pub decreases-loop-member : goal.decreases-loop-member
decreases-loop-member l = length l.rest
