-- One stage after the other, as the code hands them on. Assumes nothing.
use Rattle.std.specs.Prelude.{Bool, false, not, true, ◌≡◌, ◌*◌, ◌+◌, ◌-◌, ◌≤◌, suc, zero, ℕ, Option, Some, None, Result, Ok, Err, eqb, get_or, length, set}
use mathlib.Core.List.{List, Memᴰ as Mem}
use Rattle.std.proofs.Math.Seq.{paste}
use Rattle.labels.specs.Moved.{stirs}
use Rattle.labels.specs.declared.Built.{Built}
use Rattle.replies.specs.declared.Reply.{Reply}
use Rattle.replies.specs.declared.Reply.TheVariants.{Label, Nogoods}
use Rattle.rules.specs.Held.{said_by}
use Rattle.rules.specs.declared.Held.{Held}
use Rattle.stages.specs.Judged.{Judgeable}
use Rattle.stages.specs.Lists.{lists_of}
use Rattle.stages.specs.declared.Lists.{Lists}
use Rattle.theory.specs.Limits.{limits}
use Rattle.theory.specs.Lists.{choose, those}
use Rattle.theory.specs.Places.{padded, table}
use Rattle.theory.specs.Sets.{contains}
use Rattle.theory.specs.Stages.{Justification}
use Rattle.theory.specs.Step.{label_in}
use Rattle.theory.specs.Judge.{Stage, agree, label_long, nogoods_long, same_sets, stage_at}

-- stage k of the justifications held
abbrev pub stage_by : Held → ℕ → Stage
stage_by h k = stage_at h.assumptions (h.assumptions + h.claims) (said_by h) k

-- the nogoods are over; a label is over; or the lists
abbrev pub fitted_by : Bool → ℕ → Lists → Result Lists Reply
fitted_by true n l = Err Nogoods
fitted_by false (suc n) l = Err (Label (suc n))
fitted_by false zero l = Ok l

-- the lists of stage k, or the first of them that is over
unfoldable pub fitted : ℕ → Stage → Result Lists Reply
fitted k s = fitted_by (nogoods_long limits s) (label_long limits s) (lists_of k s)

-- no list of the stage is over
pub record Room (s : Stage) : Type 0 where
  pub few : nogoods_long limits s ≡ false
  pub short : label_long limits s ≡ zero

-- the lists are those of their stage, none is over, and the stage is one above the highest number at most
pub record Reached (h : Held) (l : Lists) : Type 0 where
  pub judgeable : Judgeable limits.assumptions h
  pub is : l ≡ lists_of l.depth (stage_by h l.depth)
  pub room : Room (stage_by h l.depth)
  pub low : l.depth ≤ limits.numbers + 1

-- 1 where the label of n is another
unfoldable pub mark_of : List (List ℕ) → List (List ℕ) → ℕ → ℕ
mark_of old new n = choose (same_sets (label_in new n) (label_in old n)) 0 1

-- a number, if it is not 0
abbrev pub if_any : ℕ → Option ℕ
if_any zero = None
if_any (suc n) = Some (suc n)

-- r is the lowest number whose label is over after stage k; where none is, members and sizes are those of the labels, and the marks tell which changed
pub record Relabelled (h : Held) (k : ℕ) (members sizes marks : List ℕ) (r : Option ℕ) : Type 0 where
  pub over : r ≡ if_any (label_long limits (stage_by h (k + 1)))
  pub members_are : r ≡ None → members ≡ (lists_of (k + 1) (stage_by h (k + 1))).members
  pub sizes_are : r ≡ None → sizes ≡ (lists_of (k + 1) (stage_by h (k + 1))).sizes
  pub marks_are : r ≡ None → marks ≡ table (limits.numbers + 1) (mark_of (stage_by h k).labels (stage_by h (k + 1)).labels)

-- how many justifications of n are in the list
abbrev pub many_of : List Justification → ℕ → ℕ
many_of J n = length (those (λ j. eqb j.consequent n) J)

-- how many justifications of each number are held
unfoldable pub tallied : Held → List ℕ
tallied h = table (limits.numbers + 1) (many_of (said_by h))

-- the nogoods in their places, within the limit
pub record Listed (nogoods : List ℕ) (count : ℕ) (places : List ℕ) : Type 0 where
  pub counted : count ≡ length nogoods
  pub few : count ≤ limits.nogoods
  pub lie : places ≡ padded 0 limits.nogoods nogoods

-- no label that the list of n is made of changed in the step to stage k
pub record Steady (h : Held) (k n : ℕ) : Type 0 where
  pub before : ℕ
  pub next : k ≡ suc before
  pub same : (r : Justification) → Mem r (said_by h) → r.consequent ≡ n → (s : ℕ) → Mem s r.supports → label_in (stage_by h (suc before)).labels s ≡ label_in (stage_by h before).labels s

-- each list without a mark is so
abbrev pub Stale : Held → ℕ → List ℕ → Type 0
Stale h k stale = (n : ℕ) → n ≤ limits.numbers → get_or stale n 0 ≡ 0 → Steady h k n

-- where there is no mark at place 0, each label without one is that of the stage before
pub record Since (h : Held) (k : ℕ) (moved : List ℕ) : Type 0 where
  pub later : 1 ≤ k
  pub same : (s : ℕ) → s ≤ limits.numbers → get_or moved s 0 ≡ 0 → label_in (stage_by h k).labels s ≡ label_in (stage_by h (k - 1)).labels s

pub record Fresh (h : Held) (k : ℕ) (moved : List ℕ) : Type 0 where
  pub since : get_or moved 0 0 ≡ 0 → Since h k moved

-- where the mark of n is 0 it is not the first step, and no justification of n is stirred
abbrev pub Touched : List ℕ → List Justification → List ℕ → Type 0
Touched moved J marks = (n : ℕ) → n ≤ limits.numbers → get_or marks n 0 ≡ 0 → (get_or moved 0 0 ≡ 0) × ((r : Justification) → Mem r J → r.consequent ≡ n → stirs moved r.supports ≡ false)

-- no news: the nogoods are the same at the next stage
abbrev pub Told : Held → ℕ → Bool → Type 0
Told h k news = news ≡ false → (stage_by h (k + 1)).nogoods ≡ (stage_by h k).nogoods

-- those of the list that contain no set struck
abbrev pub spared_of : List ℕ → List ℕ → List ℕ
spared_of struck l = those (λ E. not (contains struck E)) l

-- a label is put in its places, with its size and a mark; or nothing where it is the old one
abbrev pub Put : Bool → ℕ → Built → List ℕ → List ℕ → List ℕ → List ℕ → List ℕ → List ℕ → Type 0
Put same at label later counts marks later' counts' marks' =
    (later' ≡ choose same later (paste later (limits.label * at) label.sets limits.label)) × (counts' ≡ choose same counts (set counts at label.count)) × (marks' ≡ choose same marks (set marks (at + 1) 1))

-- the step from stage k to the next: the refusal, or whether no list changed in it, the lists, and a mark for each label that changed
abbrev pub Stepped : Held → ℕ → Lists → List ℕ → Result Bool Reply → Type 0
Stepped h k l moved (Err e) = Err e ≡ fitted (k + 1) (stage_by h (k + 1))
Stepped h k l moved (Ok same) = (Ok l ≡ fitted (k + 1) (stage_by h (k + 1))) × Fresh h (k + 1) moved × (same ≡ agree (stage_by h k) (stage_by h (k + 1)))
