-- The words of the demands: a set contradicts itself, a set carries a number, a number follows from all assumptions together. Assumes nothing.
use Rattle.std.specs.Prelude.{Bool, ◌&&◌, not, List, zero, ℕ, length}
use Rattle.theory.specs.Sets.{together}
use Rattle.theory.specs.Stages.{Justification, follows}

-- falsity follows from E by J. (Nothing new follows after as many stages as there are justifications: `contradicts_means` says that this is: at some stage.)
unfoldable pub contradicts : List Justification → ℕ → Bool
contradicts J E = follows J (length J) E zero

-- E contradicts nothing, and n follows from it by J
unfoldable pub carries : List Justification → ℕ → ℕ → Bool
carries J E n = not (contradicts J E) && follows J (length J) E n

-- n follows from all A assumptions together by J, falsity ignored; in the end, not at the depth
unfoldable pub follows_from_all : ℕ → List Justification → ℕ → Bool
follows_from_all A J n = follows J (length J) (together A) n
