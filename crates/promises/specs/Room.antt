-- When a label or the nogoods are called full, over the lists of the stages; and what adding and withdrawing answer, over what was put in. Assumes nothing.
use mathlib.Core.List.{List, Memᴰ as Mem}
use Rattle.std.specs.Prelude.{◌⊎◌, ◌≡◌, ◌+◌, ◌<◌, ◌≤◌, ℕ, length}
use Rattle.promises.specs.Made.{Input, in_order, putting, taking}
use Rattle.promises.specs.Rows.{given, naming}
use Rattle.replies.specs.declared.Reply.{Reply}
use Rattle.replies.specs.declared.Reply.TheVariants.{Already, Done, Falsity, Full, Itself, Label, Nogoods, Number, Supports, Unheld}
use Rattle.rules.specs.Items.{fault_of, justification_of}
use Rattle.theory.specs.Limits.{limits}
use Rattle.theory.specs.Stages.{label_at, nogoods_at}

-- ---- A assumptions, the numbers up to N, the justifications H

-- all lists of stage k are within their limits
pub record InRoom (A N : ℕ) (H : Input) (k : ℕ) : Type 0 where
  pub nogoods : length (nogoods_at A H k) ≤ limits.nogoods
  pub labels : (n : ℕ) → 1 ≤ n → n ≤ N → length (label_at A H k n) ≤ limits.label

-- the lists of every stage are
abbrev pub AllInRoom : ℕ → ℕ → Input → Type 0
AllInRoom A N H = (k : ℕ) → InRoom A N H k

-- at the first stage with a list over its limit the nogoods are over
pub record NogoodsFull (A N : ℕ) (H : Input) : Type 0 where
  pub stage : ℕ
  pub earlier : (i : ℕ) → i < stage → InRoom A N H i
  pub over : limits.nogoods < length (nogoods_at A H stage)

-- at the first stage with a list over its limit the nogoods are not over, and n is the lowest number whose label is
pub record LabelFull (A N : ℕ) (H : Input) (n : ℕ) : Type 0 where
  pub stage : ℕ
  pub earlier : (i : ℕ) → i < stage → InRoom A N H i
  pub nogoods : length (nogoods_at A H stage) ≤ limits.nogoods
  pub real : 1 ≤ n
  pub range : n ≤ N
  pub over : limits.label < length (label_at A H stage n)
  pub lower : (m : ℕ) → 1 ≤ m → m < n → length (label_at A H stage m) ≤ limits.label

-- the replies of the stages: at the first stage with a list over its limit 9 if the nogoods are over, else 8; else done
abbrev pub StagesSay : ℕ → ℕ → Input → Reply → Type 0
StagesSay A N H =
    given (NogoodsFull A N H) Nogoods
    (naming (LabelFull A N H) Label
    (λ r. AllInRoom A N H × (r ≡ Done)))

-- ---- a justification handed over: consequent c with supports l

-- a number above N: the consequent, or one of the supports
abbrev pub Above : ℕ → ℕ → List ℕ → Type 0
Above N c l = (N < c) ⊎ ((x : ℕ) × Mem x l × (N < x))

-- the faults of the item, then the next rows
abbrev pub ItemSays : ℕ → ℕ → List ℕ → (Reply → Type 0) → Reply → Type 0
ItemSays N c l next =
    given (limits.supports < length l) Supports
    (given (Above N c l) Number
    (given (Mem 0 l) Falsity
    (given (Mem c l) Itself
    next)))

-- adding it, where H was put in: the column "add" of the reply table
abbrev pub AddSays : ℕ → ℕ → Input → ℕ → List ℕ → Reply → Type 0
AddSays A M H c l =
    ItemSays (A + M) c l
    (given (Mem (justification_of (A + M) c l) H) Already
    (given (limits.held ≤ length (in_order H)) Full
    (StagesSay A (A + M) (putting (justification_of (A + M) c l) H))))

-- withdrawing it: the column "withdraw"
abbrev pub WithdrawSays : ℕ → ℕ → Input → ℕ → List ℕ → Reply → Type 0
WithdrawSays A M H c l =
    ItemSays (A + M) c l
    (given (Mem (justification_of (A + M) c l) H → ⊥) Unheld
    (StagesSay A (A + M) (taking (justification_of (A + M) c l) H)))

-- adding comes as far as its stages: no fault, not held already, not 256 held already
pub record Reaches (A M : ℕ) (H : Input) (c : ℕ) (l : List ℕ) : Type 0 where
  pub sound : fault_of (A + M) c l ≡ Done
  pub new : Mem (justification_of (A + M) c l) H → ⊥
  pub room : length (in_order H) < limits.held
