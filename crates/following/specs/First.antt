-- The first stage at which a number follows, and marks made stage by stage. Assumes nothing.
use Rattle.std.specs.Prelude.{List, ◌≡◌, ◌+◌, suc, zero, ℕ, length}
use Rattle.following.specs.Marks.{pass_over}
use Rattle.rules.specs.Held.{said_by}
use Rattle.rules.specs.declared.Held.{Held}
use Rattle.theory.specs.Judge.{same_sets}
use Rattle.theory.specs.Limits.{limits}
use Rattle.theory.specs.Lists.{choose}
use Rattle.theory.specs.Stages.{Justification, follows}

-- the first stage up to k at which n follows from E by J; 255 where it does not
unfoldable pub up_to : List Justification → ℕ → ℕ → ℕ → ℕ
up_to J E zero n = choose (follows J zero E n) zero 255
up_to J E (suc k) n = choose (follows J k E n) (up_to J E k n) (choose (follows J (suc k) E n) (suc k) 255)

-- the first stage at which n follows from E by J; 255 where it never does. (Nothing new follows after as many stages as there are justifications.)
unfoldable pub since_of : List Justification → ℕ → ℕ → ℕ
since_of J E n = up_to J E (length J) n

-- from stage k on, f stages at most, until a pass marks nothing new
unfoldable pub stages_from : List Justification → ℕ → ℕ → List ℕ → List ℕ
stages_from J zero k m = m
stages_from J (suc f) k m =
    let next : List ℕ = pass_over k (k + 1) m J in
    let later : List ℕ = stages_from J f (k + 1) next in
    choose (same_sets next m) m later

-- r has the marks stage by stage; from those of stage 0 it has for each number the first stage at which it follows (proofs/First `stages_since`)
abbrev pub Staged : Held → List ℕ → List ℕ → Type 0
Staged h marks r = r ≡ stages_from (said_by h) (limits.numbers + 1) 0 marks
