-- Opening, judging what is held, adding and withdrawing, as documents 01 and 02 have them. Assumes nothing.
use Rattle.std.specs.Prelude.{Bool, not, List, [], ◌≡◌, ◌+◌, ℕ, eqb, leb, Result, Ok, Err}
use Rattle.replies.specs.Replies.{number_of}
use Rattle.replies.specs.declared.Reply.{Reply}
use Rattle.replies.specs.declared.Reply.TheVariants.{Already, Counts, Done, Full, Label, Nogoods, Shape, Unheld}
use Rattle.rules.specs.Held.{dropped, held_of, put, said_by}
use Rattle.rules.specs.Items.{fault_of, justification_of, same_justification}
use Rattle.rules.specs.declared.Held.{Held}
use Rattle.stages.specs.Lists.{lists_of}
use Rattle.store.specs.Shape.{held_fits, right_shape, top}
use Rattle.store.specs.declared.Outcome.{Outcome}
use Rattle.store.specs.declared.Store.{Store}
use Rattle.theory.specs.Judge.{Verdict, judge, label_over, nogoods_over, settled, stage_at}
use Rattle.theory.specs.Limits.{limits, over_counts}
use Rattle.theory.specs.Lists.{choose, some_of}
use Rattle.theory.specs.Stages.{Justification}

abbrev pub answer : Reply → Store → Outcome
answer r s = record { reply = r; store = s }

-- ---- opening

-- a store that holds nothing, with its stage-0 labels and depth 0
unfoldable pub start_store : ℕ → ℕ → Store
start_store A M = record { held = held_of A M []; lists = lists_of 0 (stage_at A (A + M) [] 0) }

-- stands where no store is returned, and means nothing
abbrev pub no_store : Store
no_store = start_store 0 0

unfoldable pub open_of : ℕ → ℕ → Outcome
open_of A M =
    choose (over_counts A M) (answer Counts no_store)
    (answer Done (start_store A M))

abbrev pub Opened : ℕ → ℕ → Outcome → Type 0
Opened A M r = r ≡ open_of A M

-- ---- judging

-- the store of h at its depth; a refusal hands back s
abbrev pub of_verdict : Store → Held → Verdict → Outcome
of_verdict s h (settled d stage) = answer Done (record { held = h; lists = lists_of d stage })
of_verdict s h nogoods_over = answer Nogoods s
of_verdict s h (label_over n) = answer (Label n) s

-- the stages of J, with A assumptions and M claims, from 0 upward
unfoldable pub store_of : Store → ℕ → ℕ → List Justification → Outcome
store_of s A M J = of_verdict s (held_of A M J) (judge limits A (A + M) J)

-- the store of what is held, judged anew
unfoldable pub judged_of : Held → Outcome
judged_of h =
    choose (not (held_fits h)) (answer Shape no_store)
    (store_of no_store h.assumptions h.claims (said_by h))

abbrev pub JudgedAnew : Held → Outcome → Type 0
JudgedAnew h r = r ≡ judged_of h

-- ---- a justification handed over

abbrev pub is_done : Reply → Bool
is_done r = eqb (number_of r) 0

-- o; a refusal hands back s
abbrev pub else_kept : Store → Outcome → Outcome
else_kept s o = choose (is_done o.reply) o (answer o.reply s)

-- the store of what is held after a change, judged anew; a refusal, of the change or by the stages, hands back s
unfoldable pub after_of : Store → Result Held Reply → Outcome
after_of s (Ok h) = else_kept s (judged_of h)
after_of s (Err r) = answer r s

-- the shape, the faults of the item, then what is done with the justification that it makes
abbrev pub checked_of : Store → ℕ → List ℕ → (Justification → Outcome) → Outcome
checked_of s c l go =
    choose (not (right_shape s)) (answer Shape s)
    (choose (not (is_done (fault_of (top s.held) c l))) (answer (fault_of (top s.held) c l) s)
    (go (justification_of (top s.held) c l)))

-- ---- adding

-- j, without fault, to a store of right shape: held already; as many as the limit held already; then the stages of the enlarged set
unfoldable pub joined_by : Store → Justification → Outcome
joined_by s j =
    choose (some_of (same_justification j) (said_by s.held)) (answer Already s)
    (choose (leb limits.held s.held.count) (answer Full s)
    (store_of s s.held.assumptions s.held.claims (put j (said_by s.held))))

unfoldable pub add_of : Store → ℕ → List ℕ → Outcome
add_of s c l = checked_of s c l (joined_by s)

abbrev pub Added : Store → ℕ → List ℕ → Outcome → Type 0
Added s c l r = r ≡ add_of s c l

-- ---- withdrawing

-- j, without fault, from a store of right shape: not held; then the stages of the smaller set
unfoldable pub parted_from : Store → Justification → Outcome
parted_from s j =
    choose (not (some_of (same_justification j) (said_by s.held))) (answer Unheld s)
    (store_of s s.held.assumptions s.held.claims (dropped j (said_by s.held)))

unfoldable pub withdraw_of : Store → ℕ → List ℕ → Outcome
withdraw_of s c l = checked_of s c l (parted_from s)

abbrev pub Withdrawn : Store → ℕ → List ℕ → Outcome → Type 0
Withdrawn s c l r = r ≡ withdraw_of s c l
