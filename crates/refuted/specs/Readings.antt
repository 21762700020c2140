-- Readings of document 01 that look right, each as a definition with a case on which it lists otherwise than the stages, and as a program. Assumes nothing.
use Rattle.std.specs.Prelude.{Bool, ◌&&◌, not, true, List, [], ◌++◌, ◌∷◌, map, ◌≡◌, suc, zero, ℕ, eqb, ltb, length}
use Rattle.casefile.specs.Load.{load_of}
use Rattle.promises.specs.Calls.{Calls, ours}
use Rattle.promises.specs.Demand2.{Demand2}
use Rattle.refuted.specs.Exchange.{with_loading}
use Rattle.replies.specs.declared.Reply.TheVariants.{Done, Label}
use Rattle.rules.specs.Held.{said_by}
use Rattle.stages.specs.Lists.{lists_of}
use Rattle.store.specs.Calls.{is_done, no_store}
use Rattle.store.specs.Shape.{top}
use Rattle.store.specs.declared.Store.{Store}
use Rattle.theory.specs.Cases.{from, worked}
use Rattle.theory.specs.Judge.{Stage, agree, stage_at}
use Rattle.theory.specs.Limits.{limits}
use Rattle.theory.specs.Lists.{choose, numbers_below, numbers_to, some_of, those}
use Rattle.theory.specs.Sets.{contains, within}
use Rattle.theory.specs.Stages.{Justification}
use Rattle.theory.specs.Step.{candidates, joins_for, label_in, picks}

-- ---- the step of document 002, as the right reading has it

-- the new nogoods, nothing left out
unfoldable pub new_nogoods : List Justification → Stage → List ℕ
new_nogoods J s = picks 9 [] [] (candidates (label_in s.labels) s.nogoods J 0)

-- the labels of 1 to N, each made of its candidates by a rule
unfoldable pub step_by : (List ℕ → List ℕ → List ℕ → List ℕ) → ℕ → List Justification → Stage → Stage
step_by made N J s = record {
  nogoods = new_nogoods J s;
  labels = map (λ n. made (new_nogoods J s) (label_in s.labels n) (joins_for (label_in s.labels) n J)) (numbers_to N);
}

-- bad are the new nogoods, old the old label, new the joins
abbrev pub right : List ℕ → List ℕ → List ℕ → List ℕ
right bad old new = picks 9 bad [] (old ++ new)

-- stage k, step by step from stage 0
unfoldable pub steps : (Stage → Stage) → ℕ → Stage → Stage
steps step zero s = s
steps step (suc k) s = step (steps step k s)

-- ---- the wrong ones

-- "Taking any labels that satisfy every justification": a step leaves them as they are
unfoldable pub satisfying : ℕ → List Justification → Stage → Bool
satisfying N J s = agree (step_by right N J s) s

-- "Striking a nogood from the labels once, when it is found": only nogoods that are new at this stage strike
unfoldable pub struck_once : List Justification → Stage → List ℕ → List ℕ → List ℕ → List ℕ
struck_once J s bad old new = picks 9 (those (λ E. not (contains s.nogoods E)) bad) [] (old ++ new)

-- "Comparing a new member only against older ones": no older one is superfluous
abbrev pub older_kept : List ℕ → List ℕ → List ℕ → List ℕ
older_kept bad old new = old ++ picks 9 bad old new

-- "Refusing because a half_built_lem list was too long": every candidate counts
unfoldable pub half_built : ℕ → List ℕ → List ℕ → Bool
half_built limit old new = ltb limit (length (old ++ new))

-- "Handing out members in the order they were found": the smallest candidates as they come, those of the old label first
unfoldable pub as_found : List ℕ → List ℕ → List ℕ → List ℕ
as_found bad old new = those (λ E. not (contains bad E) && not (some_of (λ F. within F E && not (eqb F E)) (old ++ new))) (old ++ those (λ E. not (some_of (eqb E) old)) new)

-- ---- told apart

abbrev stage : List ℕ → List (List ℕ) → Stage
stage n l = record { nogoods = n; labels = l }

-- claims 2 and 3 support each other
abbrev pub each_other : List Justification
each_other = from 2 (3 ∷ []) ∷ from 3 (2 ∷ []) ∷ []

-- .. and labels that satisfy that: both follow from nothing
abbrev pub false_labels : Stage
false_labels = stage [] ((1 ∷ []) ∷ (0 ∷ []) ∷ (0 ∷ []) ∷ [])

-- claim 3 from 1 and 2, and one stage later from 1 alone
abbrev pub shorter : List Justification
shorter = from 3 (4 ∷ []) ∷ from 3 (1 ∷ 2 ∷ []) ∷ from 4 (1 ∷ []) ∷ []

-- claim 4 from 1 and 2, and one stage later from 3
abbrev pub crossed : List Justification
crossed = from 4 (5 ∷ []) ∷ from 4 (1 ∷ 2 ∷ []) ∷ from 5 (3 ∷ []) ∷ []

-- claim 3 from each assumption and from nothing
abbrev pub threefold : List Justification
threefold = from 3 [] ∷ from 3 (1 ∷ []) ∷ from 3 (2 ∷ []) ∷ []

-- the stages that each reading lists
unfoldable pub once_stage : ℕ → ℕ → List Justification → ℕ → Stage
once_stage A N J k = steps (λ s. step_by (struck_once J s) N J s) k (stage_at A N J 0)

unfoldable pub kept_stage : ℕ → ℕ → List Justification → ℕ → Stage
kept_stage A N J k = steps (step_by older_kept N J) k (stage_at A N J 0)

unfoldable pub found_stage : ℕ → ℕ → List Justification → ℕ → Stage
found_stage A N J k = steps (step_by as_found N J) k (stage_at A N J 0)

-- whether a list of the next stage is too long while it is built
unfoldable pub half_long : ℕ → ℕ → ℕ → List Justification → ℕ → ℕ → Bool
half_long limit A N J k n = half_built limit (label_in (stage_at A N J k).labels n) (joins_for (label_in (stage_at A N J k).labels) n J)

-- each wrong reading of a case, and the stage of the case
pub record Readings : Type 0 where
  -- two claims that support each other satisfy that with false labels; both are empty
  pub satisfied : satisfying 3 each_other false_labels ≡ true
  pub satisfied_right : stage_at 1 3 each_other 1 ≡ stage [] ((1 ∷ []) ∷ [] ∷ [] ∷ [])
  -- later joins bring {1,2} back into the label of 5
  pub once : once_stage 3 5 worked 2 ≡ stage (3 ∷ []) ((1 ∷ []) ∷ (2 ∷ []) ∷ (4 ∷ []) ∷ (1 ∷ 6 ∷ []) ∷ (3 ∷ 6 ∷ []) ∷ [])
  pub once_right : stage_at 3 5 worked 2 ≡ stage (3 ∷ []) ((1 ∷ []) ∷ (2 ∷ []) ∷ (4 ∷ []) ∷ (1 ∷ 6 ∷ []) ∷ (6 ∷ []) ∷ [])
  -- {1,2} stays beside {1}
  pub kept : kept_stage 2 4 shorter 2 ≡ stage [] ((1 ∷ []) ∷ (2 ∷ []) ∷ (3 ∷ 1 ∷ []) ∷ (1 ∷ []) ∷ [])
  pub kept_right : stage_at 2 4 shorter 2 ≡ stage [] ((1 ∷ []) ∷ (2 ∷ []) ∷ (1 ∷ []) ∷ (1 ∷ []) ∷ [])
  -- {}, {1} and {2} are over a limit of 1, the label {} is not
  pub half : half_long 1 2 3 threefold 0 3 ≡ true
  pub half_right : stage_at 2 3 threefold 1 ≡ stage [] ((1 ∷ []) ∷ (2 ∷ []) ∷ (0 ∷ []) ∷ [])
  -- {1,2} comes before {3}
  pub found : found_stage 3 5 crossed 2 ≡ stage [] ((1 ∷ []) ∷ (2 ∷ []) ∷ (4 ∷ []) ∷ (3 ∷ 4 ∷ []) ∷ (4 ∷ []) ∷ [])
  pub found_right : stage_at 3 5 crossed 2 ≡ stage [] ((1 ∷ []) ∷ (2 ∷ []) ∷ (4 ∷ []) ∷ (4 ∷ 3 ∷ []) ∷ (4 ∷ []) ∷ [])

-- ---- as programs: a file is loaded as ours loads it, and its lists are those of the reading

abbrev pub relisted : (ℕ → ℕ → List Justification → ℕ → Stage) → Store → Store
relisted R s = record { held = s.held; lists = lists_of s.lists.depth (R s.held.assumptions (top s.held) (said_by s.held) s.lists.depth) }

abbrev pub listed_by : (ℕ → ℕ → List Justification → ℕ → Stage) → Calls
listed_by R = with_loading (λ bytes. choose (is_done (load_of bytes).reply) (record { reply = Done; «record» = (load_of bytes).«record»; store = relisted R (load_of bytes).store }) (load_of bytes)) ours

-- false labels where they satisfy every justification
unfoldable pub satisfying_stage : ℕ → ℕ → List Justification → ℕ → Stage
satisfying_stage A N J k = choose (satisfying N J false_labels) false_labels (stage_at A N J k)

-- some list of some stage up to the depth is too long while it is built
unfoldable pub some_half_long : ℕ → ℕ → List Justification → ℕ → Bool
some_half_long A N J d = some_of (λ k. some_of (half_long limits.label A N J k) (numbers_to N)) (numbers_below d)

-- 8 for it
abbrev pub half_refused : Store → Bool
half_refused s = some_half_long s.held.assumptions (top s.held) (said_by s.held) s.lists.depth

abbrev pub refusing_half : Calls
refusing_half = with_loading (λ bytes. choose (half_refused (load_of bytes).store) (record { reply = Label 7; «record» = (load_of bytes).«record»; store = no_store }) (load_of bytes)) ours

-- demand 2 refutes each
pub record ReadingsRefuted : Type 0 where
  pub satisfying_labels : Demand2 (listed_by satisfying_stage) → ⊥
  pub striking_once : Demand2 (listed_by once_stage) → ⊥
  pub older_kept_lem : Demand2 (listed_by kept_stage) → ⊥
  pub half_built_lem : Demand2 refusing_half → ⊥
  pub as_found_lem : Demand2 (listed_by found_stage) → ⊥
