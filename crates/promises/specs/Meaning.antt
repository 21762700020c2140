-- What the words of the demands mean, in the words of documents 002 and 003: following at some stage, models, the step from one stage to the next. Assumes nothing.
use Rattle.std.specs.Prelude.{◌&&◌, ◌||◌, false, not, true, ◌↔◌, ◌≡◌, ◌<◌, ◌^◌, ◌≤◌, suc, ℕ, length}
use mathlib.Core.List.{List, Memᴰ as Mem, ◌++◌}
use Rattle.std.specs.Int.Count.{ones}
use Rattle.promises.specs.Demand2.{IsDepth}
use Rattle.promises.specs.Made.{Input, SameMembers}
use Rattle.promises.specs.Shaped.{ShapeSays}
use Rattle.stagetext.specs.Stagetext.{last_stage}
use Rattle.store.specs.Shape.{right_shape}
use Rattle.store.specs.declared.Store.{Store}
use Rattle.theory.specs.Demands.{carries, contradicts, follows_from_all}
use Rattle.theory.specs.Judge.{consequents}
use Rattle.theory.specs.Limits.{limits}
use Rattle.theory.specs.Lists.{numbers_to, those}
use Rattle.theory.specs.Sets.{among, contains, in_range, together, union, within, without}
use Rattle.theory.specs.Stages.{Justification, follows, label_at, nogoods_at}
use Rattle.theory.specs.Step.{joins_for}

-- n follows from E by H at some stage
abbrev pub AtSomeStage : Input → ℕ → ℕ → Type 0
AtSomeStage H E n = (k : ℕ) × (follows H k E n ≡ true)

-- S, any set of numbers at all, is a model of H that contains E: without falsity, closed under the justifications, with every assumption of E
pub record ModelOf (H : Input) (E : ℕ) (S : ℕ → Type 0) : Type 0 where
  pub no_falsity : S 0 → ⊥
  pub closed : (j : Justification) → Mem j H → ((n : ℕ) → Mem n j.supports → S n) → S j.consequent
  pub has : (n : ℕ) → among E n ≡ true → S n

-- E is in the list, and no other of the list lies within it
pub record Unrivalled (l : List ℕ) (E : ℕ) : Type 0 where
  pub listed : Mem E l
  pub alone : (F : ℕ) → Mem F l → within F E ≡ true → F ≡ E

-- every number of every justification is at most 128, as of a store or of a bare list without fault
pub record Placeable (H : Input) : Type 0 where
  pub consequents : (j : Justification) → Mem j H → j.consequent ≤ limits.numbers
  pub supports : (j : Justification) → Mem j H → (n : ℕ) → Mem n j.supports → n ≤ limits.numbers

-- H are the justifications held, E is a set of assumptions
pub record Meaning : Type 1 where
  -- assumption i + 1 is worth 2 ^ i in a set; union, removal, subset, range and count, by the assumptions
  pub alone_members : (i k : ℕ) → 1 ≤ k → (among (2 ^ i) k ≡ true) ↔ (k ≡ suc i)
  pub union_members : (F E k : ℕ) → among (union F E) k ≡ among F k || among E k
  pub without_members : (E F k : ℕ) → among (without E F) k ≡ among E k && not (among F k)
  pub within_members : (F E : ℕ) → (within F E ≡ true) ↔ ((k : ℕ) → among F k ≡ true → among E k ≡ true)
  pub range_members : (A E : ℕ) → (in_range A E ≡ true) ↔ ((k : ℕ) → among E k ≡ true → k ≤ A)
  pub ones_members : (A E : ℕ) → E < 2 ^ A → ones E ≡ length (those (among E) (numbers_to A))
  -- the right shape, clause by clause
  pub shape_says : (s : Store) → (right_shape s ≡ true) ↔ ShapeSays s
  -- a set contradicts itself: falsity follows from it at some stage
  pub contradicts_stages : (H : Input) (E : ℕ) → (contradicts H E ≡ true) ↔ AtSomeStage H E 0
  -- a set carries n: falsity follows from it at no stage, and n at some stage
  pub carries_stages : (H : Input) (E n : ℕ) → (carries H E n ≡ true) ↔ ((AtSomeStage H E 0 → ⊥) × AtSomeStage H E n)
  -- all A assumptions together: 1 to A
  pub together_members : (A k : ℕ) → (among (together A) k ≡ true) ↔ ((1 ≤ k) × (k ≤ A))
  -- n follows from them: exactly when it follows from some set of A assumptions at some stage
  pub from_all : (A : ℕ) (H : Input) (n : ℕ) → (follows_from_all A H n ≡ true) ↔ ((E : ℕ) × (E < 2 ^ A) × AtSomeStage H E n)
  -- document 003: no model contains it
  pub contradicts_models : (H : Input) (E : ℕ) → (contradicts H E ≡ true) ↔ ((S : ℕ → Type 0) → ModelOf H E S → ⊥)
  -- .. it has a model, and all its models have n
  pub carries_models : (H : Input) (E n : ℕ) → (carries H E n ≡ true) ↔ (((S : ℕ → Type 0) × ModelOf H E S) × ((S : ℕ → Type 0) → ModelOf H E S → S n))
  -- document 002: the new nogoods are made of the old ones and of one member from the label of each support, joined, over all justifications of falsity, with all supersets removed
  pub nogoods_step : (A : ℕ) (H : Input) (k E : ℕ) → Mem E (nogoods_at A H (suc k)) ↔ Unrivalled (nogoods_at A H k ++ joins_for (label_at A H k) 0 H) E
  -- a new label is made of the old label and of one member from the label of each support, joined, over all justifications of the consequent, with the new stage's nogoods and all supersets removed
  pub label_step : (A : ℕ) (H : Input) (k n E : ℕ)
      → Mem E (label_at A H (suc k) n) ↔ ((contains (nogoods_at A H (suc k)) E ≡ false) × Unrivalled (label_at A H k n ++ joins_for (label_at A H k) n H) E)
  -- by the definition of depth alone, it never exceeds the number of different consequents, falsity counted ..
  pub depth_consequents : (A N : ℕ) (H : List Justification) (k : ℕ) → IsDepth A N H k → k ≤ length (consequents H)
  -- .. which is that of the set: what was put in and what is held have the same number
  pub consequents_same : (H K : List Justification) → SameMembers H K → length (consequents H) ≡ length (consequents K)
  -- the last stage with something new: after it nothing new follows from E, however many stages are gone through ..
  pub last_ends : (H : Input) (E : ℕ) → Placeable H → (k n : ℕ) → follows H k E n ≡ true → follows H (last_stage H E) E n ≡ true
  -- .. and at it, unless it is stage 0, a number follows that did not the stage before
  pub last_new : (H : Input) (E : ℕ) → Placeable H → (k : ℕ) → last_stage H E ≡ suc k → (n : ℕ) × (follows H (suc k) E n ≡ true) × (follows H k E n ≡ false)
