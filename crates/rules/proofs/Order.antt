-- The order of held justifications: it is total, and a list in order is settled by its members. Assumes nothing.
use mathlib.Core.Bool.{Bool, ◌&&◌, ◌||◌, true}
use mathlib.Core.List.Memᴰ
use mathlib.Core.List.Memᴰ.{head as here}
use mathlib.Core.List.Memᴰ.{tail as there}
use mathlib.Core.List.{List, Memᴰ as Mem, [], ◌∷◌}
use mathlib.Core.Logic.{◌⊎◌, inl, inr, ⊎_elim}
use mathlib.Core.Path.{◌∙◌, ◌≡◌, ap₂, refl, subst, sym}
use Prim.Native.Nat.{◌<◌, ℕ}
use native.Mathlib.Decide.{dec_lt}
use native.Mathlib.Omega.{arith}
use lib.Dec.{eqb, ltb}
use lib.ListN.{length}
use borrow.Author.Tests.{eq-eqb, eqb-true, le-ltb, lt-ltb, ltb-true}
use Rattle.rules.specs.Held.{ordered}
use Rattle.rules.specs.Items.{same_justification}
use Rattle.theory.proofs.Judgement.{same_elim, same_refl}
use Rattle.theory.proofs.Lists.{and_intro, and_left, and_right, clash, or_cases, or_left, or_right, some_elim, some_intro}
use Rattle.theory.specs.Judge.{same_sets}
use Rattle.theory.specs.Lists.{some_of}
use Rattle.theory.specs.Stages.{Justification, ahead, lesser}

-- ---- the order of two lists
abbrev Lesser : ℕ → List ℕ → ℕ → List ℕ → Type 0
Lesser x l y m = (x < y) ⊎ ((x ≡ y) × (lesser l m ≡ true))

lesser_elim : (x y : ℕ) (l m : List ℕ) → lesser (x ∷ l) (y ∷ m) ≡ true → Lesser x l y m
unfolding lesser
lesser_elim x y l m h =
    ⊎_elim (λ a. inl (ltb-true x y a)) (λ b. inr (eqb-true x y (and_left (eqb x y) (lesser l m) b), and_right (eqb x y) (lesser l m) b))
    (or_cases (ltb x y) (eqb x y && lesser l m) h)

lesser_intro : (x y : ℕ) (l m : List ℕ) → Lesser x l y m → lesser (x ∷ l) (y ∷ m) ≡ true
unfolding lesser
lesser_intro x y l m =
    ⊎_elim (λ a. or_left (eqb x y && lesser l m) (lt-ltb x y a)) (λ b. or_right (ltb x y) (and_intro (eq-eqb x y b.0) b.1))

lesser_irrefl : (l : List ℕ) → lesser l l ≡ true → ⊥
unfolding lesser
lesser_irrefl [] h = clash h refl
lesser_irrefl (x ∷ l) h = ⊎_elim (λ a. omega arith) (λ b. lesser_irrefl l b.1) (lesser_elim x x l l h)

lesser_trans : (l m n : List ℕ) → lesser l m ≡ true → lesser m n ≡ true → lesser l n ≡ true
unfolding lesser
lesser_trans l m [] h k = clash k refl
lesser_trans l [] (z ∷ n) h k = clash h refl
lesser_trans [] (y ∷ m) (z ∷ n) h k = refl
lesser_trans (x ∷ l) (y ∷ m) (z ∷ n) h k =
    lesser_intro x z l n
    (⊎_elim (λ a. ⊎_elim (λ c. inl (omega arith)) (λ c. inl (omega arith)) (lesser_elim y z m n k))
    (λ b. ⊎_elim (λ c. inl (omega arith)) (λ c. inr (b.0 ∙ c.0, lesser_trans l m n b.1 c.1)) (lesser_elim y z m n k))
    (lesser_elim x y l m h))

abbrev Compared : List ℕ → List ℕ → Type 0
Compared l m = (l ≡ m) ⊎ ((lesser l m ≡ true) ⊎ (lesser m l ≡ true))

lesser_total : (l m : List ℕ) → Compared l m
unfolding lesser
lesser_total [] [] = inl refl
lesser_total [] (y ∷ m) = inr (inl refl)
lesser_total (x ∷ l) [] = inr (inr refl)
lesser_total (x ∷ l) (y ∷ m) = go (dec_lt x y) (dec_lt y x) (lesser_total l m)
  where
    go : Dec (x < y) → Dec (y < x) → Compared l m → Compared (x ∷ l) (y ∷ m)
    go (yes a) d c = inr (inl (lesser_intro x y l m (inl a)))
    go (no a) (yes b) c = inr (inr (lesser_intro y x m l (inl b)))
    go (no a) (no b) c =
        let e : x ≡ y = omega arith in
        ⊎_elim (λ q. inl (ap₂ (λ (u : ℕ) (v : List ℕ). u ∷ v) e q))
        (⊎_elim (λ h. inr (inl (lesser_intro x y l m (inr (e, h))))) (λ h. inr (inr (lesser_intro y x m l (inr (sym e, h))))))
        c

-- ---- the order of two justifications
module _ (r t : Justification) where
  pub ahead_yes : r.consequent < t.consequent → true ≡ ahead r t
  unfolding ahead
  ahead_yes h = rw (lt-ltb r.consequent t.consequent h)

  module _ (e : r.consequent ≡ t.consequent) where
    pub ahead_fewer : length r.supports < length t.supports → true ≡ ahead r t
    unfolding ahead
    ahead_fewer h = rw (le-ltb r.consequent t.consequent (omega arith), eq-eqb r.consequent t.consequent e, lt-ltb (length r.supports) (length t.supports) h)

    pub ahead_same : length r.supports ≡ length t.supports → (b : Bool) → b ≡ lesser r.supports t.supports → b ≡ ahead r t
    unfolding ahead
    ahead_same q b p =
        rw (le-ltb r.consequent t.consequent (omega arith), eq-eqb r.consequent t.consequent e, le-ltb (length r.supports) (length t.supports) (omega arith), eq-eqb (length r.supports) (length t.supports) q) p

abbrev Ahead : Justification → Justification → Type 0
Ahead i j =
    (i.consequent < j.consequent)
    ⊎ ((i.consequent ≡ j.consequent)
    × ((length i.supports < length j.supports)
    ⊎ ((length i.supports ≡ length j.supports) × (lesser i.supports j.supports ≡ true))))

ahead_elim : (i j : Justification) → ahead i j ≡ true → Ahead i j
unfolding ahead
ahead_elim i j h =
    let c : Bool = eqb i.consequent j.consequent in
    let n : Bool = eqb (length i.supports) (length j.supports) in
    let f : Bool = ltb (length i.supports) (length j.supports) in
    let s : Bool = lesser i.supports j.supports in
    ⊎_elim (λ a. inl (ltb-true i.consequent j.consequent a))
    (λ b. inr (
      eqb-true i.consequent j.consequent (and_left c (f || (n && s)) b),
      ⊎_elim (λ d. inl (ltb-true (length i.supports) (length j.supports) d))
          (λ d. inr (eqb-true (length i.supports) (length j.supports) (and_left n s d), and_right n s d))
          (or_cases f (n && s) (and_right c (f || (n && s)) b)),
    ))
    (or_cases (ltb i.consequent j.consequent) (c && (f || (n && s))) h)

ahead_intro : (i j : Justification) → Ahead i j → ahead i j ≡ true
ahead_intro i j =
    ⊎_elim (λ a. sym (ahead_yes i j a))
    (λ b. ⊎_elim (λ d. sym (ahead_fewer i j b.0 d)) (λ d. sym (ahead_same i j b.0 d.0 true (sym d.1))) b.1)

pub ahead_irrefl : (j : Justification) → ahead j j ≡ true → ⊥
ahead_irrefl j h =
    ⊎_elim (λ a. omega arith) (λ b. ⊎_elim (λ d. omega arith) (λ d. lesser_irrefl j.supports d.1) b.1) (ahead_elim j j h)

pub ahead_trans : (i j k : Justification) → ahead i j ≡ true → ahead j k ≡ true → ahead i k ≡ true
ahead_trans i j k h g =
    ahead_intro i k
    (⊎_elim (λ a. ⊎_elim (λ c. inl (omega arith)) (λ c. inl (omega arith)) (ahead_elim j k g))
    (λ b. ⊎_elim (λ c. inl (omega arith))
    (λ c. inr (
      b.0 ∙ c.0,
      ⊎_elim (λ d. ⊎_elim (λ e. inl (omega arith)) (λ e. inl (omega arith)) c.1)
          (λ d. ⊎_elim (λ e. inl (omega arith)) (λ e. inr (d.0 ∙ e.0, lesser_trans i.supports j.supports k.supports d.1 e.1)) c.1)
          b.1,
    ))
    (ahead_elim j k g))
    (ahead_elim i j h))

pub ahead_asym : (i j : Justification) → ahead i j ≡ true → ahead j i ≡ true → ⊥
ahead_asym i j h g = ahead_irrefl i (ahead_trans i j i h g)

-- neither ahead of the other: the same
pub ahead_total : (i j : Justification) → (i ≡ j) ⊎ ((ahead i j ≡ true) ⊎ (ahead j i ≡ true))
ahead_total i j =
    go (dec_lt i.consequent j.consequent) (dec_lt j.consequent i.consequent) (dec_lt (length i.supports) (length j.supports))
    (dec_lt (length j.supports) (length i.supports)) (lesser_total i.supports j.supports)
  where
    go : Dec (i.consequent < j.consequent) → Dec (j.consequent < i.consequent) → Dec (length i.supports < length j.supports)
        → Dec (length j.supports < length i.supports) → Compared i.supports j.supports → (i ≡ j) ⊎ ((ahead i j ≡ true) ⊎ (ahead j i ≡ true))
    go (yes a) d p q c = inr (inl (ahead_intro i j (inl a)))
    go (no a) (yes b) p q c = inr (inr (ahead_intro j i (inl b)))
    go (no a) (no b) (yes f) q c = let e : i.consequent ≡ j.consequent = omega arith in inr (inl (ahead_intro i j (inr (e, inl f))))
    go (no a) (no b) (no f) (yes g) c = let e : j.consequent ≡ i.consequent = omega arith in inr (inr (ahead_intro j i (inr (e, inl g))))
    go (no a) (no b) (no f) (no g) c =
        let e : i.consequent ≡ j.consequent = omega arith in
        let n : length i.supports ≡ length j.supports = omega arith in
        ⊎_elim (λ q. inl (ap₂ (λ (c : ℕ) (l : List ℕ). record { consequent = c; supports = l }) e q))
        (⊎_elim (λ h. inr (inl (ahead_intro i j (inr (e, inr (n, h)))))) (λ h. inr (inr (ahead_intro j i (inr (sym e, inr (sym n, h)))))))
        c

-- ---- one justification
pub same_one : (i j : Justification) → same_justification i j ≡ true → i ≡ j
unfolding same_justification
same_one i j h =
    ap₂ (λ (c : ℕ) (l : List ℕ). record { consequent = c; supports = l })
    (eqb-true i.consequent j.consequent (and_left (eqb i.consequent j.consequent) (same_sets i.supports j.supports) h))
    (same_elim i.supports j.supports (and_right (eqb i.consequent j.consequent) (same_sets i.supports j.supports) h))

pub one_same : (j : Justification) → same_justification j j ≡ true
unfolding same_justification
one_same j = and_intro (eq-eqb j.consequent j.consequent refl) (same_refl j.supports)

pub same_mem : (r : Justification) (l : List Justification) → some_of (same_justification r) l ≡ true → Mem r l
same_mem r l h = let f = some_elim (same_justification r) l h in subst (λ (j : Justification). Mem j l) (sym (same_one r f.0 f.2)) f.1

pub mem_same : (r : Justification) (l : List Justification) → Mem r l → some_of (same_justification r) l ≡ true
mem_same r l m = some_intro (same_justification r) m (one_same r)

-- ---- lists in order
pub ordered_tail : (r : Justification) (l : List Justification) → ordered (r ∷ l) ≡ true → ordered l ≡ true
unfolding ordered
ordered_tail r [] h = refl
ordered_tail r (t ∷ l) h = and_right (ahead r t) (ordered (t ∷ l)) h

pub ordered_head : (r : Justification) (l : List Justification) → ordered (r ∷ l) ≡ true → (j : Justification) → Mem j l → ahead r j ≡ true
unfolding ordered
ordered_head r [] h j m = elim m [ ]
ordered_head r (t ∷ l) h j m =
    let a : ahead r t ≡ true = and_left (ahead r t) (ordered (t ∷ l)) h in
    ⊎_elim (λ (q : j ≡ t). subst (λ (u : Justification). ahead r u ≡ true) (sym q) a)
    (λ n. ahead_trans r t j a (ordered_head t l (and_right (ahead r t) (ordered (t ∷ l)) h) j n))
    (Memᴰ.cases_cons m)

pub ordered_cons : (r : Justification) (l : List Justification) → ((j : Justification) → Mem j l → ahead r j ≡ true) → ordered l ≡ true → ordered (r ∷ l) ≡ true
unfolding ordered
ordered_cons r [] f h = refl
ordered_cons r (t ∷ l) f h = and_intro (f t (here refl)) h

-- two lists in order with the same members are equal
pub ordered_unique : (l m : List Justification) → ordered l ≡ true → ordered m ≡ true → ((j : Justification) → Mem j l → Mem j m) → ((j : Justification) → Mem j m → Mem j l) → l ≡ m
ordered_unique [] [] h k f g = refl
ordered_unique [] (y ∷ m) h k f g = let n = g y (here refl) in elim n [ ]
ordered_unique (x ∷ l) [] h k f g = let n = f x (here refl) in elim n [ ]
ordered_unique (x ∷ l) (y ∷ m) h k f g =
    let e : x ≡ y = ⊎_elim (λ q. q) (λ a. ⊎_elim sym (λ b. absurd (ahead_asym x y (ordered_head x l h y b) (ordered_head y m k x a))) (Memᴰ.cases_cons (g y (here refl)))) (Memᴰ.cases_cons (f x (here refl))) in
    ap₂ (λ (a : Justification) (b : List Justification). a ∷ b) e
    (ordered_unique l m (ordered_tail x l h) (ordered_tail y m k)
    (λ z n. ⊎_elim (λ q. absurd (ahead_irrefl x (subst (λ (v : Justification). ahead x v ≡ true) (q ∙ sym e) (ordered_head x l h z n)))) (λ a. a) (Memᴰ.cases_cons (f z (there n))))
    (λ z n. ⊎_elim (λ q. absurd (ahead_irrefl y (subst (λ (v : Justification). ahead y v ≡ true) (q ∙ e) (ordered_head y m k z n)))) (λ a. a) (Memᴰ.cases_cons (g z (there n)))))
