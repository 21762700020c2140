-- The pool in its places, over plain variables: those that contain a set go out, the set goes in, and without room the last goes out. Assumes nothing.
use mathlib.Core.Bool.{Bool, false, not, true}
use mathlib.Core.List.{List, [], ◌++◌, ◌∷◌, append_assoc, append-nil}
use Rattle.std.specs.Prelude.{Option, Some}
use mathlib.Core.Path.{◌∙◌, ◌≡◌, ap, ap₂, refl, subst, sym}
use Prim.Native.Nat.{◌+◌, ◌-◌, ◌<◌, ◌≤◌, suc, ℕ}
use native.Mathlib.Numerals.{add-one}
use Rattle.std.proofs.Common.{add-zero}
use mir.Val.{bool_byte}
use native.Mathlib.Omega.{arith}
use lib.ListN.{drop, drop_of_length-le, get_or, length, length-append, set, take}
use lib.Seq.{drop-cons, drop-set-lt, get_or_at, get_or-take, length-take-le, take_all, take_at, take-set-le, take-suc-set}
use borrow.Author.Tests.{le-ltb, lt-ltb}
use Rattle.joining.proofs.Placed.{placed_last}
use Rattle.joining.specs.Pool.{Filled, entered, placed, purged}
use Rattle.theory.proofs.Order.{sorted_those}
use Rattle.theory.specs.Lists.{choose, keep, sorted_by, those}
use Rattle.theory.specs.Sets.{before, within}

-- ---- the part of a list from place i on
pub rest_cons : {X : Type 0} (l : List X) (z : X) (count i : ℕ) → count ≤ length l → i < count → take (count - i) (drop i l) ≡ get_or l i z ∷ take (count - (i + 1)) (drop (i + 1) l)
rest_cons {X = X} l z count i room low =
    let a : count - i ≡ suc (count - (i + 1)) = omega arith in
    let b : drop i l ≡ get_or l i z ∷ drop (i + 1) l = drop-cons l i z (omega arith) ∙ ap (λ (n : ℕ). get_or l i z ∷ drop n l) (sym (add-one i)) in
    ap₂ (λ (n : ℕ) (m : List X). take n m) a b

pub rest_all : (pool : List ℕ) (count : ℕ) → take count pool ≡ take (count - 0) (drop 0 pool)
rest_all pool count = let e : count - 0 ≡ count = omega arith in ap (λ (n : ℕ). take n pool) (sym e)

pub rest_none : {X : Type 0} (l : List X) (count i : ℕ) → count ≤ i → take (count - i) (drop i l) ≡ []
rest_none l count i h = let e : count - i ≡ 0 = omega arith in ap (λ (n : ℕ). take n (drop i l)) e

-- ---- those that contain E go out
module _ (E : ℕ) (goal pool : List ℕ) (count kept i : ℕ) (room : count ≤ length pool) (inv : goal ≡ take kept pool ++ purged E (take (count - i) (drop i pool))) (low : kept ≤ i) where
  abbrev x : ℕ
  x = get_or pool i 0

  abbrev later : List ℕ
  later = take (count - (i + 1)) (drop (i + 1) pool)

  pub purge_low : (k : ℕ) → k ≡ bool_byte (not (within E x)) → kept + k ≤ i + 1
  purge_low k e = go (within E x) e
    where
      go : (b : Bool) → k ≡ bool_byte (not b) → kept + k ≤ i + 1
      go true q = omega arith
      go false q = omega arith

  pub purge_turn : i < count → (k : ℕ) → k ≡ bool_byte (not (within E x)) → goal ≡ take (kept + k) (set pool kept x) ++ purged E (take (count - (i + 1)) (drop (i + 1) (set pool kept x)))
  unfolding purged those
  purge_turn h k e =
      let same : take (count - (i + 1)) (drop (i + 1) (set pool kept x)) ≡ later = ap (take (count - (i + 1))) (drop-set-lt (i + 1) pool kept x (omega arith)) in
      inv ∙ ap (λ (l : List ℕ). take kept pool ++ purged E l) (rest_cons pool 0 count i room h) ∙ go (within E x) refl
      ∙ ap₂ (λ (n : ℕ) (l : List ℕ). take (kept + n) (set pool kept x) ++ purged E l) (sym e) (sym same)
    where
      go : (b : Bool) → within E x ≡ b → take kept pool ++ keep (not b) x (purged E later) ≡ take (kept + bool_byte (not b)) (set pool kept x) ++ purged E later
      go true q = ap (λ (l : List ℕ). l ++ purged E later) (sym (ap (λ (n : ℕ). take n (set pool kept x)) (add-zero kept) ∙ take-set-le kept pool kept x (omega arith)))
      go false q =
          sym (append_assoc (take kept pool) (x ∷ []) (purged E later))
          ∙ ap (λ (l : List ℕ). l ++ purged E later) (sym (ap (λ (n : ℕ). take n (set pool kept x)) (add-one kept) ∙ take-suc-set pool kept x (omega arith)))

  pub purge_end : count ≤ i → take kept pool ≡ goal
  unfolding purged those
  purge_end h = sym (inv ∙ ap (λ (l : List ℕ). take kept pool ++ purged E l) (rest_none pool count i h) ∙ append-nil (take kept pool))

-- ---- a set goes in at its place
module _ (goal l : List ℕ) (carried i : ℕ) (inv : goal ≡ take i l ++ placed carried (drop i l)) where
  module _ (h : i < length l) where
    at_place : (b : Bool) → before carried (get_or l i 0) ≡ b → goal ≡ take i l ++ choose b carried (get_or l i 0) ∷ placed (choose b (get_or l i 0) carried) (drop (i + 1) l)
    unfolding placed
    at_place b e =
        inv ∙ ap (λ (m : List ℕ). take i l ++ placed carried m) (drop-cons l i 0 h)
        ∙ ap₂ (λ (c : Bool) (j : ℕ). take i l ++ choose c carried (get_or l i 0) ∷ placed (choose c (get_or l i 0) carried) (drop j l)) e (sym (add-one i))

    set_place : (a b : ℕ) → goal ≡ take i l ++ a ∷ placed b (drop (i + 1) l) → goal ≡ take (i + 1) (set l i a) ++ placed b (drop (i + 1) (set l i a))
    set_place a b e =
        e ∙ sym (append_assoc (take i l) (a ∷ []) (placed b (drop (i + 1) l)))
        ∙ ap₂ (λ (m n : List ℕ). m ++ placed b n) (sym (ap (λ (n : ℕ). take n (set l i a)) (add-one i) ∙ take-suc-set l i a h)) (sym (drop-set-lt (i + 1) l i a (omega arith)))

    -- it takes the place, and the one that stood there is carried on
    pub squeeze_swap : before carried (get_or l i 0) ≡ true → (l' : List ℕ) (x y next : ℕ) → l' ≡ set l i x → x ≡ carried → next ≡ y → y ≡ get_or l i 0 → goal ≡ take (i + 1) l' ++ placed next (drop (i + 1) l')
    squeeze_swap e l' x y next p q r s =
        set_place carried (get_or l i 0) (at_place true e) ∙ ap₂ (λ (m : List ℕ) (v : ℕ). take (i + 1) m ++ placed v (drop (i + 1) m)) (sym (p ∙ ap (set l i) q)) (sym (r ∙ s))

    -- it is carried on
    pub squeeze_keep : before carried (get_or l i 0) ≡ false → (l' : List ℕ) (next : ℕ) → l' ≡ set l i (get_or l i 0) → next ≡ carried → goal ≡ take (i + 1) l' ++ placed next (drop (i + 1) l')
    squeeze_keep e l' next p q = set_place (get_or l i 0) carried (at_place false e) ∙ ap₂ (λ (m : List ℕ) (v : ℕ). take (i + 1) m ++ placed v (drop (i + 1) m)) (sym p) (sym q)

  pub squeeze_end : length l ≤ i → (count : ℕ) → length l ≡ count → (rest : List ℕ) → take count (l ++ rest) ++ carried ∷ [] ≡ goal
  unfolding placed
  squeeze_end h count e rest =
      ap (λ (m : List ℕ). m ++ carried ∷ []) (take_at l rest count e)
      ∙ sym (inv ∙ ap₂ (λ (m n : List ℕ). m ++ placed carried n) (take_all i l h) (drop_of_length-le l h))

-- ---- a set is taken in: those that contain it are out of pool₁, and it stands in its place in pool₂, the last left over
module _ (room : ℕ) (f : Filled) (pool₁ pool₂ : List ℕ) (E kept last : ℕ) (same : length pool₂ ≡ room) (low : kept ≤ room)
    (p : take kept pool₁ ≡ purged E f.sets) (q : take kept pool₂ ++ last ∷ [] ≡ placed E (take kept pool₁)) where
  abbrev whole : List ℕ
  whole = placed E (purged E f.sets)

  whole_is : whole ≡ take kept pool₂ ++ last ∷ []
  whole_is = sym (q ∙ ap (placed E) p)

  kept_long : length (take kept pool₂) ≡ kept
  kept_long = length-take-le kept pool₂ (omega arith)

  size : length whole ≡ kept + 1
  size = ap length whole_is ∙ length-append (take kept pool₂) (last ∷ []) ∙ ap (λ (n : ℕ). n + 1) kept_long

  made : List ℕ → Option ℕ → Filled
  made l b = record { sets = l; bound = b }

  pub enter_room : kept < room → ◌≡◌ {A = Filled} (record { sets = take (kept + 1) (set pool₂ kept last); bound = f.bound }) (entered room f E)
  unfolding made
  enter_room h =
      ap₂ made
      (ap (λ (n : ℕ). take n (set pool₂ kept last)) (add-one kept) ∙ take-suc-set pool₂ kept last (omega arith) ∙ sym whole_is ∙ sym (take_all room whole (omega (arith, size))))
      (sym (ap (λ (b : Bool). choose b (Some (get_or whole room 0)) f.bound) (le-ltb room (length whole) (omega (arith, size)))))

  pub enter_full : room ≤ kept → ◌≡◌ {A = Filled} (record { sets = take kept pool₂; bound = Some last }) (entered room f E)
  unfolding made
  enter_full h =
      let k : kept ≡ room = omega arith in
      ap₂ made
      (sym (ap (take room) whole_is ∙ take_at (take kept pool₂) (last ∷ []) room (kept_long ∙ k)))
      (sym (ap (λ (b : Bool). choose b (Some (get_or whole room 0)) f.bound) (lt-ltb room (length whole) (omega (arith, size)))
      ∙ ap (λ (x : ℕ). Some x) (ap (λ (l : List ℕ). get_or l room 0) whole_is ∙ get_or_at (take kept pool₂) last [] 0 room (kept_long ∙ k))))

-- ---- the last stands before the set: it goes behind all
pub squeeze_last : (pool : List ℕ) (count E : ℕ) → count ≤ length pool → sorted_by before (take count pool) ≡ true → 0 < count → (r : Bool) → r ≡ before (get_or pool (count - 1) 0) E → r ≡ true → take count pool ++ E ∷ [] ≡ placed E (take count pool)
squeeze_last pool count E room s h r p q =
    let long : length (take count pool) ≡ suc (count - 1) = length-take-le count pool room ∙ omega arith in
    placed_last E (take count pool) (count - 1) long s (ap (λ (x : ℕ). before x E) (get_or-take count pool (count - 1) 0 (omega arith)) ∙ sym p ∙ q)

-- those that do not contain a set stand in order as before
pub purge_sorted : (E : ℕ) (l m : List ℕ) → m ≡ purged E l → sorted_by before l ≡ true → sorted_by before m ≡ true
unfolding purged
purge_sorted E l m e s = subst (λ (x : List ℕ). sorted_by before x ≡ true) (sym e) (sorted_those before (λ F. not (within E F)) l s)
