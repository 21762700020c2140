-- `script::past` meets its contract. The invariant: looking from `i` on gives the same place. Assumes nothing.
use Rattle.std.proofs.Common.{◌≡◌, ℕ, Bool}
use Rattle.script.specs.Script.{past}
use Rattle.script.proofs.past.Given as goal

abbrev pub invariant-loop-i : goal.invariant-loop-i
invariant-loop-i g l = goal.F-IsAlwaysCallable g l.passes × ((p : ℕ → Bool) → ((b : ℕ) (r : Bool) → goal.F-post g l.passes b r → r ≡ p b) → past p l.bytes l.fn.from ≡ past p l.bytes l.i)
