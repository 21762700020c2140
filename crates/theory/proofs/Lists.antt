-- Laws of tests and of lists by membership. Assumes nothing.
use mathlib.Core.Bool.{Bool, ◌&&◌, ◌||◌, false, true, true≢false}
use mathlib.Core.List.Memᴰ
use mathlib.Core.List.Memᴰ.{head as here}
use mathlib.Core.List.Memᴰ.{tail as there}
use mathlib.Core.List.{List, Memᴰ as Mem, [], ◌∷◌}
use mathlib.Core.Logic.{◌⊎◌, inl, inr, ⊎_elim}
use mathlib.Core.Path.{◌∙◌, ◌≡◌, ap, refl, sym}
use Rattle.theory.specs.Lists.{all_of, each, keep, some_of, those}

-- ---- tests

pub clash {ℓ} : {X : Type ℓ} {b : Bool} → b ≡ true → b ≡ false → X
clash p q = absurd (true≢false (sym p ∙ q))

pub either : (b : Bool) → (b ≡ true) ⊎ (b ≡ false)
either true = inl refl
either false = inr refl

pub not_so : (b : Bool) → (b ≡ true → ⊥) → b ≡ false
not_so true f = absurd (f refl)
not_so false f = refl

pub same_test : {a b : Bool} → (a ≡ true → b ≡ true) → (b ≡ true → a ≡ true) → a ≡ b
same_test {a = true} f g = sym (f refl)
same_test {a = false} {b = true} f g = g refl
same_test {a = false} {b = false} f g = refl

pub and_intro : {a b : Bool} → a ≡ true → b ≡ true → a && b ≡ true
and_intro {a} {b} p q = rw p q

pub and_left : (a b : Bool) → a && b ≡ true → a ≡ true
and_left true b e = refl
and_left false b e = e

pub and_right : (a b : Bool) → a && b ≡ true → b ≡ true
and_right true b e = e
and_right false b e = clash e refl

pub or_left : {a : Bool} (b : Bool) → a ≡ true → a || b ≡ true
or_left b p = rw p

pub or_right : (a : Bool) {b : Bool} → b ≡ true → a || b ≡ true
or_right true q = refl
or_right false q = q

pub or_cases : (a b : Bool) → a || b ≡ true → (a ≡ true) ⊎ (b ≡ true)
or_cases true b e = inl refl
or_cases false b e = inr e

-- ---- lists

module _ {A : Type 0} where
  module _ (p : A → Bool) where
    pub some_intro : {x : A} {l : List A} → Mem x l → p x ≡ true → some_of p l ≡ true
    unfolding some_of
    some_intro (here {xs = l} e) h = or_left (some_of p l) (ap p (sym e) ∙ h)
    some_intro (there {x = y} m) h = or_right (p y) (some_intro m h)

    pub some_elim : (l : List A) → some_of p l ≡ true → (x : A) × Mem x l × (p x ≡ true)
    unfolding some_of
    some_elim [] e = clash e refl
    some_elim (y ∷ l) e = ⊎_elim (λ h. (y, here refl, h)) (λ h. let r = some_elim l h in (r.0, there r.1, r.2)) (or_cases (p y) (some_of p l) e)

    pub all_elim : {x : A} {l : List A} → all_of p l ≡ true → Mem x l → p x ≡ true
    unfolding all_of
    all_elim e (here {x = y} {xs = l} q) = ap p q ∙ and_left (p y) (all_of p l) e
    all_elim e (there {x = y} {xs = l} m) = all_elim (and_right (p y) (all_of p l) e) m

    pub all_intro : (l : List A) → ((x : A) → Mem x l → p x ≡ true) → all_of p l ≡ true
    unfolding all_of
    all_intro [] f = refl
    all_intro (y ∷ l) f = and_intro (f y (here refl)) (all_intro l (λ x m. f x (there m)))

    kept : (b : Bool) {x y : A} {l : List A} → Mem x (keep b y l) → ((b ≡ true) × (x ≡ y)) ⊎ Mem x l
    kept true (here e) = inl (refl, e)
    kept true (there m) = inr m
    kept false m = inr m

    keep_there : (b : Bool) (y : A) {x : A} {l : List A} → Mem x l → Mem x (keep b y l)
    keep_there true y m = there m
    keep_there false y m = m

    pub those_elim : {x : A} (l : List A) → Mem x (those p l) → Mem x l × (p x ≡ true)
    unfolding those
    those_elim [] m = elim m [ ]
    those_elim (y ∷ l) m =
        ⊎_elim (λ h. (here h.1, ap p h.1 ∙ h.0)) (λ h. let r = those_elim l h in (there r.0, r.1)) (kept (p y) m)

    pub those_intro : {x : A} {l : List A} → Mem x l → p x ≡ true → Mem x (those p l)
    unfolding those
    those_intro (here {x = y} e) h = let k : p y ≡ true = ap p (sym e) ∙ h in rw k (here e)
    those_intro (there {x = y} m) h = keep_there (p y) y (those_intro m h)

  pub those_same : (p q : A → Bool) (l : List A) → ((x : A) → Mem x l → p x ≡ q x) → those p l ≡ those q l
  unfolding those
  those_same p q [] f = refl
  those_same p q (y ∷ l) f = rw (f y (here refl), those_same p q l (λ x m. f x (there m)))

  -- two parts of one list are equal where they have the same members
  pub those_by_members : (p q : A → Bool) (l : List A) → ((x : A) → Mem x (those p l) → Mem x (those q l)) → ((x : A) → Mem x (those q l) → Mem x (those p l)) → those p l ≡ those q l
  those_by_members p q l f g =
      those_same p q l (λ x m. same_test (λ h. (those_elim q l (f x (those_intro p m h))).1) (λ h. (those_elim p l (g x (those_intro q m h))).1))

module _ {A B : Type 0} (f : A → List B) where
  pub each_intro : {x : A} {y : B} {l : List A} → Mem x l → Mem y (f x) → Mem y (each f l)
  unfolding each
  each_intro {y = y} (here {xs = l} e) m = Memᴰ.append_left (each f l) (rw e at m)
  each_intro (there {x = z} n) m = Memᴰ.append_right (f z) (each_intro n m)

  pub each_elim : {y : B} (l : List A) → Mem y (each f l) → (x : A) × Mem x l × Mem y (f x)
  unfolding each
  each_elim [] m = elim m [ ]
  each_elim (z ∷ l) m = ⊎_elim (λ h. (z, here refl, h)) (λ h. let r = each_elim l h in (r.0, there r.1, r.2)) (Memᴰ.append_cases (f z) m)

pub each_same : {A B : Type 0} (f g : A → List B) (l : List A) → ((x : A) → Mem x l → f x ≡ g x) → each f l ≡ each g l
unfolding each
each_same f g [] h = refl
each_same f g (x ∷ l) h = rw (h x (here refl), each_same f g l (λ y m. h y (there m)))
