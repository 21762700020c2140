-- The lines of the stages: the stage, then every number that followed by then. Assumes nothing.
use Rattle.std.specs.Prelude.{◌&&◌, not, List, [], ◌++◌, ◌∷◌, ◌*◌, ◌+◌, ℕ, ltb}
use Rattle.following.specs.First.{since_of}
use Rattle.following.specs.Marks.{marked}
use Rattle.lent.specs.Lent.{Hands, Wrote, fitted, kept}
use Rattle.lent.specs.declared.Listed.{Listed}
use Rattle.replies.specs.declared.Reply.TheVariants.{Number, Shape}
use Rattle.rules.specs.Held.{said_by}
use Rattle.store.specs.Shape.{right_shape, top}
use Rattle.store.specs.declared.Store.{Store}
use Rattle.text.specs.Texts.{digits, field, word}
use Rattle.theory.specs.Limits.{limits}
use Rattle.theory.specs.Lists.{choose, each, numbers_below, those}
use Rattle.theory.specs.Places.{table}
use Rattle.theory.specs.Sets.{in_range}
use Rattle.theory.specs.Stages.{Justification, follows}

-- ---- as document 02 has them

-- the greatest of a and those of the list below 255
unfoldable pub latest : ℕ → List ℕ → ℕ
latest a [] = a
latest a (x ∷ l) = latest (choose (ltb x 255 && ltb a x) x a) l

-- the last stage with something new
unfoldable pub last_stage : List Justification → ℕ → ℕ
last_stage J E = latest 0 (table (limits.numbers + 1) (since_of J E))

-- stage k, then every number up to N that followed from E by then, rising, each after one space
unfoldable pub stage_line : ℕ → List Justification → ℕ → ℕ → List ℕ
stage_line N J E k = digits k ++ (each field (those (follows J k E) (numbers_below (N + 1))) ++ word "\n")

-- one line a stage from 0 up to the last with something new
unfoldable pub stage_text : ℕ → List Justification → ℕ → List ℕ
stage_text N J E = each (stage_line N J E) (numbers_below (last_stage J E + 1))

-- no such text is longer: 130 lines, each of a stage in three digits, the numbers 0 to 128 after a space each (406 bytes), a newline
abbrev pub longest : ℕ
longest = (limits.numbers + 2) * (3 + 406 + 1)

-- refusals 2, 4, 15 in this order
unfoldable pub stages_of : Store → ℕ → List ℕ → Wrote
stages_of s E out =
    choose (not (right_shape s)) (kept Shape out)
    (choose (not (in_range s.held.assumptions E)) (kept Number out)
    (fitted (stage_text (top s.held) (said_by s.held) E) out))

abbrev pub StagesLined : Store → ℕ → List ℕ → Listed → List ℕ → Type 0
StagesLined s E out r after = Hands s (stages_of s E out) r after

-- ---- as they are made of marks

-- what n adds to the line of stage k
unfoldable pub part_of : List ℕ → ℕ → ℕ → List ℕ
part_of m k n = choose (marked k m n) (field n) []

-- what the numbers below the end add
unfoldable pub body_of : ℕ → List ℕ → ℕ → List ℕ
body_of end m k = each (part_of m k) (numbers_below end)

unfoldable pub row_of : ℕ → List ℕ → ℕ → List ℕ
row_of end m k = digits k ++ (body_of end m k ++ word "\n")

-- the lines of the first c stages
unfoldable pub rows_of : ℕ → List ℕ → ℕ → List ℕ
rows_of end m c = each (row_of end m) (numbers_below c)

-- the lines of all stages up to the last mark
abbrev pub rows_in : ℕ → List ℕ → List ℕ
rows_in end m = rows_of end m (latest 0 m + 1)

-- .. into lent bytes; 4 where N is above the limit, and no number
unfoldable pub put_of : List ℕ → ℕ → List ℕ → Wrote
put_of m N out = choose (ltb limits.numbers N) (kept Number out) (fitted (rows_in (N + 1) m) out)
