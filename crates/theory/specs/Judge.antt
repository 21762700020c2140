-- The judgement of a set of justifications: its stages from 0 upward, until two agree or a list is over its limit. Assumes nothing.
use Rattle.std.specs.Prelude.{Bool, ◌&&◌, false, true, List, [], ◌∷◌, map, suc, zero, ℕ, eqb, ltb, length}
use Rattle.theory.specs.Limits.{Limits}
use Rattle.theory.specs.Lists.{alike, choose, numbers_to, some_of}
use Rattle.theory.specs.Stages.{Justification, follows, label_of, nogoods_of}

-- the lists of a stage: the nogoods, and the labels of 1 to N in that order
pub record Stage : Type 0 where
  pub nogoods : List ℕ
  pub labels : List (List ℕ)

unfoldable pub stage_of : ℕ → ℕ → (ℕ → ℕ → Bool) → Stage
stage_of A N S = record { nogoods = nogoods_of A S; labels = map (label_of A S) (numbers_to N) }

-- A assumptions, the numbers up to N, the justifications J, stage k
unfoldable pub stage_at : ℕ → ℕ → List Justification → ℕ → Stage
stage_at A N J k = stage_of A N (follows J k)

unfoldable pub same_sets : List ℕ → List ℕ → Bool
same_sets l m = alike eqb l m

-- all labels and nogoods agree
unfoldable pub agree : Stage → Stage → Bool
agree s t = same_sets s.nogoods t.nogoods && alike same_sets s.labels t.labels

unfoldable pub nogoods_long : Limits → Stage → Bool
nogoods_long L s = ltb L.nogoods (length s.nogoods)

-- the lowest number from n on whose label is over the limit, or 0
unfoldable pub lowest_long : ℕ → ℕ → List (List ℕ) → ℕ
lowest_long limit n [] = 0
lowest_long limit n (l ∷ ls) = let later : ℕ = lowest_long limit (suc n) ls in choose (ltb limit (length l)) n later

unfoldable pub label_long : Limits → Stage → ℕ
label_long L s = lowest_long L.label 1 s.labels

pub data Verdict : Type 0 where
  settled : ℕ → Stage → Verdict
  nogoods_over : Verdict
  label_over : ℕ → Verdict

-- stage k with its lists s: are its nogoods over, which label is over, does the next stage agree; else what later stages say
abbrev pub ruling : ℕ → Stage → Bool → ℕ → Bool → Verdict → Verdict
ruling k s true n b later = nogoods_over
ruling k s false (suc n) b later = label_over (suc n)
ruling k s false zero true later = settled k s
ruling k s false zero false later = later

-- the stages from k on, of the stages T; the d-th after it is the last, and needs no next one to agree
unfoldable pub course : Limits → (ℕ → Stage) → ℕ → ℕ → Verdict
course L T zero k = ruling k (T k) (nogoods_long L (T k)) (label_long L (T k)) true (settled k (T k))
course L T (suc d) k =
    let later : Verdict = course L T d (suc k) in
    ruling k (T k) (nogoods_long L (T k)) (label_long L (T k)) (agree (T k) (T (suc k))) later

-- the different consequents
unfoldable pub consequents : List Justification → List ℕ
consequents [] = []
consequents (j ∷ J) = let later : List ℕ = consequents J in choose (some_of (eqb j.consequent) later) later (j.consequent ∷ later)

-- no stage after as many as there are different consequents brings anything new
unfoldable pub judge : Limits → ℕ → ℕ → List Justification → Verdict
judge L A N J = course L (stage_at A N J) (length (consequents J)) 0
