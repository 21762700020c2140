-- What a call that only refuses answers, read from its answer and from its reply. Assumes nothing.
use mathlib.Core.Path.{◌≡◌}
use native.Mathlib.Omega.{arith}
use Rattle.std.specs.Prelude.{Ok, Err, ◌≢◌, ⊤}
use Rattle.replies.specs.Replies.{checked, number_of}
use Rattle.replies.specs.declared.Reply.{Reply}
use Rattle.replies.specs.declared.Reply.TheVariants.{Done}
use Rattle.replies.proofs.Laws.{zero_done}

-- where it answers nothing, the reply is done
pub checked_done : (r : Reply) (u : ⊤) → checked r ≡ Ok u → r ≡ Done
unfolding checked
checked_done r u e = zero_done r (grind arith)

-- what it refuses with is the reply, and is not done
pub checked_refusal : (r e : Reply) → checked r ≡ Err e → (r ≡ e) × (number_of e ≢ 0)
unfolding checked
checked_refusal r e h = (grind arith, grind arith)

-- a reply that is done is answered by nothing
pub done_checked : (r : Reply) → r ≡ Done → Ok tt ≡ checked r
unfolding checked
done_checked r e = grind arith

-- any other is the refusal
pub refusal_checked : (r e : Reply) → r ≡ e → number_of e ≢ 0 → Err e ≡ checked r
unfolding checked
refusal_checked r e h n = grind arith
