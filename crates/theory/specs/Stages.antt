-- Justifications, what follows at a stage, and the labels and nogoods of a stage, as document 01 has them. Assumes nothing.
use Rattle.std.specs.Prelude.{Bool, ◌&&◌, ◌||◌, false, not, true, List, [], ◌∷◌, suc, zero, ℕ, eqb, ltb, length}
use Rattle.theory.specs.Lists.{all_of, some_of, those}
use Rattle.theory.specs.Sets.{among, listing, within}

-- a consequent and a set of supports
pub record Justification : Type 0 where
  pub consequent : ℕ
  pub supports : List ℕ

-- ---- following

-- the consequent of j is n, and S has all its supports
unfoldable pub gives : (ℕ → Bool) → ℕ → Justification → Bool
gives S n j = eqb j.consequent n && all_of S j.supports

-- at stage 0 exactly the assumptions in E follow; at stage k + 1 all that followed at stage k, and the consequent of each justification held whose supports all followed at stage k
unfoldable pub follows : List Justification → ℕ → ℕ → ℕ → Bool
follows J zero E n = among E n
follows J (suc k) E n = follows J k E n || some_of (gives (follows J k E) n) J

-- ---- labels and nogoods

-- E has P, and no proper subset of it has
unfoldable pub minimal : ℕ → (ℕ → Bool) → ℕ → Bool
minimal A P E = P E && not (some_of (λ F. within F E && (not (eqb F E) && P F)) (listing A))

-- S E n: n follows from E. The sets from which falsity follows and from no proper subset
unfoldable pub nogoods_of : ℕ → (ℕ → ℕ → Bool) → List ℕ
nogoods_of A S = those (minimal A (λ E. S E zero)) (listing A)

-- the sets from which n follows and falsity does not, and no proper subset of which has n following
unfoldable pub label_of : ℕ → (ℕ → ℕ → Bool) → ℕ → List ℕ
label_of A S n = those (λ E. minimal A (λ F. S F n) E && not (S E zero)) (listing A)

unfoldable pub nogoods_at : ℕ → List Justification → ℕ → List ℕ
nogoods_at A J k = nogoods_of A (follows J k)

unfoldable pub label_at : ℕ → List Justification → ℕ → ℕ → List ℕ
label_at A J k n = label_of A (follows J k) n

-- ---- the order of held justifications

-- of two lists, the smaller number at the first difference
unfoldable pub lesser : List ℕ → List ℕ → Bool
lesser l [] = false
lesser [] (y ∷ m) = true
lesser (x ∷ l) (y ∷ m) = ltb x y || (eqb x y && lesser l m)

-- by consequent, then by number of supports, then by the rising supports compared as lists
unfoldable pub ahead : Justification → Justification → Bool
ahead i j =
    ltb i.consequent j.consequent
    || (eqb i.consequent j.consequent
    && (ltb (length i.supports) (length j.supports)
    || (eqb (length i.supports) (length j.supports) && lesser i.supports j.supports)))
