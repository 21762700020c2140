-- What the walk over the stages and its start promise. Assumes nothing.
use Rattle.std.specs.Prelude.{true, ◌≡◌, ◌≤◌, ℕ, Result, Ok, Err}
use Rattle.replies.specs.declared.Reply.{Reply}
use Rattle.replies.specs.declared.Reply.TheVariants.{Label, Nogoods}
use Rattle.rules.specs.Held.{held_right, said_by, top}
use Rattle.rules.specs.declared.Held.{Held}
use Rattle.stages.specs.Lists.{first_stage, lists_of}
use Rattle.stages.specs.declared.Lists.{Lists}
use Rattle.theory.specs.Judge.{Verdict, judge, label_over, nogoods_over, settled}
use Rattle.theory.specs.Limits.{limits}

-- a verdict as it is answered: the lists at the depth, or the refusal
abbrev pub judged_by : Verdict → Result Lists Reply
judged_by (settled d s) = Ok (lists_of d s)
judged_by nogoods_over = Err Nogoods
judged_by (label_over n) = Err (Label n)

-- the right shape, at most W assumptions, the width of a set, and no number above the limit
pub record Judgeable (W : ℕ) (h : Held) : Type 0 where
  pub right : held_right h ≡ true
  pub assumptions : h.assumptions ≤ W
  pub numbers : top h ≤ limits.numbers

-- r is what the stages of the justifications held say
abbrev pub Judge : Held → Result Lists Reply → Type 0
Judge h r = r ≡ judged_by (judge limits h.assumptions (top h) (said_by h))

-- r is the lists of stage 0
abbrev pub Start : ℕ → Lists → Type 0
Start A r = r ≡ lists_of 0 (first_stage A)
