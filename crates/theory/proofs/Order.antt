-- The order of a listing. Assumes nothing.
use mathlib.Core.Bool.{Bool, ◌&&◌, false, true}
use mathlib.Core.List.Memᴰ
use mathlib.Core.List.Memᴰ.{head as here}
use mathlib.Core.List.Memᴰ.{tail as there}
use mathlib.Core.List.{List, Memᴰ as Mem, [], ◌++◌, ◌∷◌}
use mathlib.Core.Logic.{◌⊎◌, inl, inr, ⊎_elim}
use mathlib.Core.Path.{◌∙◌, ◌≡◌, ap₂, refl, subst, sym}
use Prim.Native.Nat.{◌<◌, ◌^◌, ◌≤◌, suc, zero, ℕ}
use native.Mathlib.Omega.{arith}
use lib.Count.{ones}
use lib.Dec.{eqb, ltb}
use denote.Struct.Rest.{rest}
use borrow.Author.Tests.{eq-eqb, eqb-true, lt-ltb, ltb-true}
use Rattle.theory.proofs.Listing.{below_elim}
use Rattle.theory.proofs.Lists.{all_elim, all_intro, and_intro, and_left, and_right, or_cases, or_left, or_right, those_elim}
use Rattle.theory.specs.Lists.{all_of, keep, numbers_below, sorted_by, those}
use Rattle.theory.specs.Sets.{before, by_size, listing}
use Rattle.theory.specs.Stages.{Justification, label_at, label_of, nogoods_at, nogoods_of}

-- ---- the order
abbrev pub Before : ℕ → ℕ → Type 0
Before F E = (ones F < ones E) ⊎ ((ones F ≡ ones E) × (F < E))

pub before_elim : (F E : ℕ) → before F E ≡ true → Before F E
unfolding before
before_elim F E h =
    let t : Bool = eqb (ones F) (ones E) in
    ⊎_elim (λ a. inl (ltb-true (ones F) (ones E) a)) (λ b. inr (eqb-true (ones F) (ones E) (and_left t (ltb F E) b), ltb-true F E (and_right t (ltb F E) b)))
    (or_cases (ltb (ones F) (ones E)) (t && ltb F E) h)

pub before_fewer : (F E : ℕ) → ones F < ones E → before F E ≡ true
unfolding before
before_fewer F E h = or_left (eqb (ones F) (ones E) && ltb F E) (lt-ltb (ones F) (ones E) h)

pub before_less : (F E : ℕ) → ones F ≡ ones E → F < E → before F E ≡ true
unfolding before
before_less F E e h = or_right (ltb (ones F) (ones E)) (and_intro (eq-eqb (ones F) (ones E) e) (lt-ltb F E h))

pub before_irrefl : (E : ℕ) → before E E ≡ true → ⊥
before_irrefl E h = ⊎_elim (λ a. omega arith) (λ b. omega arith) (before_elim E E h)

pub before_asym : (F E : ℕ) → before F E ≡ true → before E F ≡ true → ⊥
before_asym F E h k =
    ⊎_elim (λ a. ⊎_elim (λ c. omega arith) (λ c. omega arith) (before_elim E F k)) (λ b. ⊎_elim (λ c. omega arith) (λ c. omega arith) (before_elim E F k))
    (before_elim F E h)

pub before_trans : (F E D : ℕ) → before F E ≡ true → before E D ≡ true → before F D ≡ true
before_trans F E D h k =
    ⊎_elim (λ a. ⊎_elim (λ c. before_fewer F D (omega arith)) (λ c. before_fewer F D (omega arith)) (before_elim E D k))
    (λ b. ⊎_elim (λ c. before_fewer F D (omega arith)) (λ c. before_less F D (omega arith) (omega arith)) (before_elim E D k)) (before_elim F E h)

-- ---- sorted lists
module _ (R : ℕ → ℕ → Bool) where
  pub sorted_head : (x : ℕ) {l : List ℕ} → sorted_by R (x ∷ l) ≡ true → (y : ℕ) → Mem y l → R x y ≡ true
  unfolding sorted_by
  sorted_head x {l} h y m = all_elim (R x) (and_left (all_of (R x) l) (sorted_by R l) h) m

  pub sorted_tail : (x : ℕ) (l : List ℕ) → sorted_by R (x ∷ l) ≡ true → sorted_by R l ≡ true
  unfolding sorted_by
  sorted_tail x l h = and_right (all_of (R x) l) (sorted_by R l) h

  pub sorted_cons : (x : ℕ) {l : List ℕ} → ((y : ℕ) → Mem y l → R x y ≡ true) → sorted_by R l ≡ true → sorted_by R (x ∷ l) ≡ true
  unfolding sorted_by
  sorted_cons x {l} f h = and_intro (all_intro (R x) l f) h

  pub sorted_append : (l m : List ℕ) → sorted_by R l ≡ true → sorted_by R m ≡ true → ((x y : ℕ) → Mem x l → Mem y m → R x y ≡ true) → sorted_by R (l ++ m) ≡ true
  sorted_append [] m h k f = k
  sorted_append (x ∷ l) m h k f =
      sorted_cons x (λ y n. ⊎_elim (λ a. sorted_head x h y a) (λ b. f x y (here refl) b) (Memᴰ.append_cases l n))
      (sorted_append l m (sorted_tail x l h) k (λ z y a b. f z y (there a) b))

  pub sorted_those : (p : ℕ → Bool) (l : List ℕ) → sorted_by R l ≡ true → sorted_by R (those p l) ≡ true
  unfolding those
  sorted_those p [] h = h
  sorted_those p (x ∷ l) h = go (p x) (sorted_those p l (sorted_tail x l h))
    where
      go : (b : Bool) → sorted_by R (those p l) ≡ true → sorted_by R (keep b x (those p l)) ≡ true
      go true rest = sorted_cons x (λ y m. sorted_head x h y (those_elim p l m).0) rest
      go false rest = rest

pub sorted_imply : (R R' : ℕ → ℕ → Bool) (l : List ℕ) → ((x y : ℕ) → Mem x l → Mem y l → R x y ≡ true → R' x y ≡ true) → sorted_by R l ≡ true → sorted_by R' l ≡ true
unfolding sorted_by
sorted_imply R R' [] f h = refl
sorted_imply R R' (x ∷ l) f h =
    sorted_cons R' x (λ y m. f x y (here refl) (there m) (sorted_head R x h y m)) (sorted_imply R R' l (λ a b m n. f a b (there m) (there n)) (sorted_tail R x l h))

-- two sorted lists with the same members are equal
pub sorted_unique : (l m : List ℕ) → sorted_by before l ≡ true → sorted_by before m ≡ true → ((x : ℕ) → Mem x l → Mem x m) → ((x : ℕ) → Mem x m → Mem x l) → l ≡ m
sorted_unique [] [] h k f g = refl
sorted_unique [] (y ∷ m) h k f g = let n = g y (here refl) in elim n [ ]
sorted_unique (x ∷ l) [] h k f g = let n = f x (here refl) in elim n [ ]
sorted_unique (x ∷ l) (y ∷ m) h k f g =
    let e : x ≡ y = ⊎_elim (λ q. q) (λ a. ⊎_elim sym (λ b. absurd (before_asym x y (sorted_head before x h y b) (sorted_head before y k x a))) (Memᴰ.cases_cons (g y (here refl)))) (Memᴰ.cases_cons (f x (here refl))) in
    ap₂ (λ (a : ℕ) (b : List ℕ). a ∷ b) e
    (sorted_unique l m (sorted_tail before x l h) (sorted_tail before y m k)
    (λ z n. ⊎_elim (λ q. absurd (before_irrefl x (subst (λ (v : ℕ). before x v ≡ true) (q ∙ sym e) (sorted_head before x h z n)))) (λ a. a) (Memᴰ.cases_cons (f z (there n))))
    (λ z n. ⊎_elim (λ q. absurd (before_irrefl y (subst (λ (v : ℕ). before y v ≡ true) (q ∙ e) (sorted_head before y k z n)))) (λ a. a) (Memᴰ.cases_cons (g z (there n)))))

-- ---- the listing is sorted
pub below_sorted : (n : ℕ) → sorted_by ltb (numbers_below n) ≡ true
unfolding numbers_below sorted_by all_of
below_sorted zero = refl
below_sorted (suc n) =
    sorted_append ltb (numbers_below n) (n ∷ []) (below_sorted n) refl
    (λ x y a b. lt-ltb x y (omega (arith, below_elim n a, Memᴰ.eq_of_singleton b)))

level_sorted : (c : ℕ) (l : List ℕ) → sorted_by ltb l ≡ true → sorted_by before (those (λ E. eqb (ones E) c) l) ≡ true
level_sorted c l h =
    let p : ℕ → Bool = λ E. eqb (ones E) c in
    sorted_imply ltb before (those p l)
    (λ x y a b r. before_less x y (eqb-true (ones x) c (those_elim p l a).1 ∙ sym (eqb-true (ones y) c (those_elim p l b).1)) (ltb-true x y r))
    (sorted_those ltb p l h)

by_size_ones : (c : ℕ) (l : List ℕ) {E : ℕ} → Mem E (by_size c l) → ones E ≤ c
unfolding by_size
by_size_ones zero l {E} m = omega (arith, eqb-true (ones E) zero (those_elim (λ F. eqb (ones F) zero) l m).1)
by_size_ones (suc c) l {E} m =
    ⊎_elim (λ a. omega (arith, by_size_ones c l a)) (λ b. omega (arith, eqb-true (ones E) (suc c) (those_elim (λ F. eqb (ones F) (suc c)) l b).1))
    (Memᴰ.append_cases (by_size c l) m)

by_size_sorted : (c : ℕ) (l : List ℕ) → sorted_by ltb l ≡ true → sorted_by before (by_size c l) ≡ true
unfolding by_size
by_size_sorted zero l h = level_sorted zero l h
by_size_sorted (suc c) l h =
    sorted_append before (by_size c l) (those (λ F. eqb (ones F) (suc c)) l) (by_size_sorted c l h) (level_sorted (suc c) l h)
    (λ x y a b. before_fewer x y (omega (arith, by_size_ones c l a, eqb-true (ones y) (suc c) (those_elim (λ F. eqb (ones F) (suc c)) l b).1)))

pub listing_sorted : (A : ℕ) → sorted_by before (listing A) ≡ true
unfolding listing
listing_sorted A = by_size_sorted A (numbers_below (2 ^ A)) (below_sorted (2 ^ A))

pub label_sorted : (A : ℕ) (J : List Justification) (k n : ℕ) → sorted_by before (label_at A J k n) ≡ true
unfolding label_at label_of
label_sorted A J k n = sorted_those before _ (listing A) (listing_sorted A)

pub nogoods_sorted : (A : ℕ) (J : List Justification) (k : ℕ) → sorted_by before (nogoods_at A J k) ≡ true
unfolding nogoods_at nogoods_of
nogoods_sorted A J k = sorted_those before _ (listing A) (listing_sorted A)

-- a shape check compares neighbours: that is enough
unfoldable pub rising : List ℕ → Bool
rising [] = true
rising (x ∷ []) = true
rising (x ∷ y ∷ l) = before x y && rising (y ∷ l)

pub rising_sorted : (l : List ℕ) → rising l ≡ true → sorted_by before l ≡ true
unfolding rising sorted_by all_of
rising_sorted [] h = refl
rising_sorted (x ∷ []) h = refl
rising_sorted (x ∷ y ∷ l) h =
    let b : before x y ≡ true = and_left (before x y) (rising (y ∷ l)) h in
    let s : sorted_by before (y ∷ l) ≡ true = rising_sorted (y ∷ l) (and_right (before x y) (rising (y ∷ l)) h) in
    sorted_cons before x {l = y ∷ l} (λ z m. ⊎_elim (λ (q : z ≡ y). subst (λ (v : ℕ). before x v ≡ true) (sym q) b) (λ n. before_trans x y z b (sorted_head before y s z n)) (Memᴰ.cases_cons m)) s
