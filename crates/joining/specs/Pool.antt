-- The pool: the smallest clean sets seen so far, in listing order, of those that stand before the set that went out last for want of room. Assumes nothing.
use Rattle.std.specs.Prelude.{Bool, ◌&&◌, false, not, true, ◌≡◌, ◌+◌, ℕ, Option, Some, None, ltb, get_or, length, take}
use mathlib.Core.List.{List, Memᴰ as Mem, [], ◌∷◌}
use Rattle.theory.specs.Limits.{limits}
use Rattle.theory.specs.Lists.{choose, sorted_by, those}
use Rattle.theory.specs.Sets.{before, within}
use Rattle.theory.specs.Step.{free}

-- E put among a list in listing order
unfoldable pub placed : ℕ → List ℕ → List ℕ
placed E [] = E ∷ []
placed E (x ∷ l) = choose (before E x) E x ∷ placed (choose (before E x) x E) l

-- those that do not contain E
unfoldable pub purged : ℕ → List ℕ → List ℕ
purged E l = those (λ F. not (within E F)) l

-- the sets of a pool, and the bound: the set that went out last for want of room, if one did
pub record Filled : Type 0 where
  pub sets : List ℕ
  pub bound : Option ℕ

-- E does not stand before the bound
abbrev pub late_by : Option ℕ → ℕ → Bool
late_by None E = false
late_by (Some y) E = not (before E y)

-- E can go in: it stands before the bound, and contains no set struck and none of the pool
unfoldable pub enters : List ℕ → Filled → ℕ → Bool
enters struck f E = not (late_by f.bound E) && free struck f.sets E

abbrev pub Refused : List ℕ → Filled → ℕ → Type 0
Refused struck f E = enters struck f E ≡ false

-- E put in and those that contain it out; without room the last goes out and is the bound
abbrev pub entered : ℕ → Filled → ℕ → Filled
entered room f E = record {
  sets = take room (placed E (purged E f.sets));
  bound = choose (ltb room (length (placed E (purged E f.sets)))) (Some (get_or (placed E (purged E f.sets)) room 0)) f.bound;
}

abbrev pub offered : ℕ → List ℕ → Filled → ℕ → Filled
offered room struck f E = choose (enters struck f E) (entered room f E) f

-- the sets of a list offered one after the other
unfoldable pub offered_all : ℕ → List ℕ → Filled → List ℕ → Filled
offered_all room struck f [] = f
offered_all room struck f (E ∷ l) = offered_all room struck (offered room struck f E) l

-- in listing order, and before the bound
pub record Well (f : Filled) : Type 0 where
  pub sorted : sorted_by before f.sets ≡ true
  pub ahead : (x : ℕ) → Mem x f.sets → late_by f.bound x ≡ false

-- each set of the list contains a refused set that lies within why
abbrev pub Reason : List ℕ → Filled → List ℕ → ℕ → Type 0
Reason struck f l why = (H : ℕ) → Mem H l → (t : ℕ) × (enters struck f t ≡ false) × (within t H ≡ true) × (within t why ≡ true)

-- a set struck or of the list lies within E; or none does
abbrev pub Barred : List ℕ → List ℕ → ℕ → Option ℕ → Type 0
Barred struck l E None = free struck l E ≡ true
Barred struck l E (Some t) = (free struck l t ≡ false) × (within t E ≡ true)

-- the sets of a list were offered
abbrev pub Offered : List ℕ → List ℕ → Filled → Filled → Type 0
Offered struck l f f' = f' ≡ offered_all (limits.nogoods + 1) struck f l

-- .. and why each of them is refused from now on
abbrev pub Gathered : List ℕ → List ℕ → Filled → Filled → ℕ → Type 0
Gathered struck l f f' why = Offered struck l f f' × Reason struck f' l why
