-- One stage from the lists of the stage before, as functions that compute: the joins of one member of each support's label, and the first of the candidates. Assumes nothing.
use Rattle.std.specs.Prelude.{Bool, ◌&&◌, false, not, true, List, [], ◌++◌, ◌∷◌, suc, zero, ℕ, eqb, get_or}
use Rattle.std.proofs.Math.Option.{Option, none, some}
use Rattle.theory.specs.Lists.{choose, each, those}
use Rattle.theory.specs.Sets.{before, contains, union}
use Rattle.theory.specs.Stages.{Justification}

-- one member of the list of each support, joined to G
unfoldable pub joins : (ℕ → List ℕ) → ℕ → List ℕ → List ℕ
joins L G [] = G ∷ []
joins L G (s ∷ ss) = each (λ F. joins L (union G F) ss) (L s)

-- the joins for each justification of n
unfoldable pub joins_for : (ℕ → List ℕ) → ℕ → List Justification → List ℕ
joins_for L n J = each (λ j. joins L zero j.supports) (those (λ j. eqb j.consequent n) J)

-- the old list of n, and the joins for each justification of n
unfoldable pub candidates : (ℕ → List ℕ) → List ℕ → List Justification → ℕ → List ℕ
candidates L old J n = old ++ joins_for L n J

-- E contains no set of either list
unfoldable pub free : List ℕ → List ℕ → ℕ → Bool
free bad found E = not (contains bad E) && not (contains found E)

-- of what is found and E, where E passes, the first in listing order
abbrev pub sooner : Bool → Option ℕ → ℕ → Option ℕ
sooner false a x = a
sooner true none x = some x
sooner true (some y) x = some (choose (before x y) x y)

-- of what is found and those of the list that pass, the first in listing order
unfoldable pub best : (ℕ → Bool) → Option ℕ → List ℕ → Option ℕ
best t a [] = a
best t a (x ∷ l) = best t (sooner (t x) a x) l

abbrev pub more : Option ℕ → (ℕ → List ℕ) → List ℕ
more none f = []
more (some x) f = x ∷ f x

-- the next t members after those found: each time the first candidate that contains no set struck and none found
unfoldable pub picks : ℕ → List ℕ → List ℕ → List ℕ → List ℕ
picks zero bad found l = []
picks (suc t) bad found l = more (best (free bad found) none l) (λ x. picks t bad (found ++ x ∷ []) l)

-- the label of n among the labels of 1, 2 ..
unfoldable pub label_in : List (List ℕ) → ℕ → List ℕ
label_in labels zero = []
label_in labels (suc i) = get_or labels i []
