-- The stages agree from the number of different consequents on. Assumes nothing.
use mathlib.Core.Bool.{Bool, ◌&&◌, false, not, true}
use mathlib.Core.List.Memᴰ
use mathlib.Core.List.Memᴰ.{head as here}
use mathlib.Core.List.Memᴰ.{tail as there}
use mathlib.Core.List.{List, Memᴰ as Mem, [], ◌∷◌}
use mathlib.Core.Logic.{◌⊎◌, inl, inr, ⊎_elim}
use mathlib.Core.Path.{◌∙◌, ◌≡◌, ap, fun_ext, refl, subst, sym}
use Prim.Native.Nat.{◌+◌, ◌<◌, ◌≤◌, suc, zero, zero-le, ℕ}
use native.Mathlib.Decide.{le_ind}
use native.Mathlib.Omega.{arith}
use lib.Dec.{eqb}
use lib.ListN.{length, length-append}
use borrow.Author.Tests.{eq-eqb, eqb-true, not-true}
use Rattle.theory.proofs.Following.{follows_by, follows_cases, follows_keep, follows_later}
use Rattle.theory.proofs.Listing.{below_intro}
use Rattle.theory.proofs.Lists.{and_intro, and_left, and_right, clash, either, same_test, some_elim, some_intro}
use Rattle.theory.specs.Judge.{consequents}
use Rattle.theory.specs.Lists.{choose, keep, numbers_below, some_of, those}
use Rattle.theory.specs.Stages.{Justification, follows}

-- ---- counting those that pass
abbrev pub one : Bool → ℕ
one true = 1
one false = 0

pub kept_length : (b : Bool) (x : ℕ) (l : List ℕ) → length (keep b x l) ≡ one b + length l
kept_length true x l = omega arith
kept_length false x l = omega arith

one_le : (a b : Bool) → (a ≡ true → b ≡ true) → one a ≤ one b
one_le true b f = rw (f refl) (omega arith)
one_le false b f = zero-le

module _ (p q : ℕ → Bool) where
  pub count_le : (l : List ℕ) → ((x : ℕ) → p x ≡ true → q x ≡ true) → length (those p l) ≤ length (those q l)
  unfolding those
  count_le [] f = zero-le
  count_le (x ∷ l) f =
      omega (arith, kept_length (p x) x (those p l), kept_length (q x) x (those q l), one_le (p x) (q x) (f x), count_le l f)

  pub count_lt : {x : ℕ} {l : List ℕ} → ((x : ℕ) → p x ≡ true → q x ≡ true) → Mem x l → p x ≡ false → q x ≡ true → length (those p l) < length (those q l)
  unfolding those
  count_lt f (here {x = y} {xs = l} e) h k =
      omega (arith, kept_length (p y) y (those p l), kept_length (q y) y (those q l), ap one (ap p (sym e) ∙ h), ap one (ap q (sym e) ∙ k), count_le l f)
  count_lt f (there {x = y} {xs = l} m) h k =
      omega (arith, kept_length (p y) y (those p l), kept_length (q y) y (those q l), one_le (p y) (q y) (f y), count_lt f m h k)

pub count_all : (p : ℕ → Bool) (l : List ℕ) → length (those p l) ≤ length l
unfolding those
count_all p [] = zero-le
count_all p (x ∷ l) = omega (arith, kept_length (p x) x (those p l), one_le (p x) true (λ e. refl), count_all p l)

-- ---- a set's stages
abbrev pub Within : ℕ → List Justification → Type 0
Within N J = (r : Justification) → Mem r J → r.consequent ≤ N

pub in_consequents : (J : List Justification) (r : Justification) → Mem r J → Mem r.consequent (consequents J)
unfolding consequents
in_consequents [] r m = elim m [ ]
in_consequents (j ∷ J) r m = go (some_of (eqb j.consequent) (consequents J)) refl (λ k. in_consequents J r k)
  where
    go : (b : Bool) → some_of (eqb j.consequent) (consequents J) ≡ b → (Mem r J → Mem r.consequent (consequents J)) → Mem r.consequent (choose b (consequents J) (j.consequent ∷ consequents J))
    go true h f =
        ⊎_elim (λ (e : r ≡ j). let s = some_elim (eqb j.consequent) (consequents J) h in subst (λ (x : ℕ). Mem x (consequents J)) (sym (eqb-true j.consequent s.0 s.2) ∙ ap (λ (x : Justification). x.consequent) (sym e)) s.1)
        f (Memᴰ.cases_cons m)
    go false h f = ⊎_elim (λ (e : r ≡ j). here (ap (λ (x : Justification). x.consequent) e)) (λ k. there (f k)) (Memᴰ.cases_cons m)

module _ (J : List Justification) (E : ℕ) where
  Stable : ℕ → Type 0
  Stable k = (n : ℕ) → follows J (suc k) E n ≡ true → follows J k E n ≡ true

  stable_next : (k : ℕ) → Stable k → Stable (suc k)
  unfolding Stable
  stable_next k s n h =
      ⊎_elim (λ a. a) (λ g. follows_by J k E n g.0 g.1 (record { of = g.2.of; by = λ t m. s t (g.2.by t m) })) (follows_cases J (suc k) E n h)

  new : ℕ → ℕ → Bool
  new k n = follows J (suc k) E n && not (follows J k E n)

  -- a stage adds nothing, or a consequent that was not there
  stable_or : (k : ℕ) → Stable k ⊎ (length (those (follows J k E) (consequents J)) < length (those (follows J (suc k) E) (consequents J)))
  unfolding Stable new
  stable_or k =
      ⊎_elim (λ a.
      let e = some_elim (new k) (consequents J) a in
      let t : Bool = follows J (suc k) E e.0 in
      let u : Bool = not (follows J k E e.0) in
      inr (count_lt (follows J k E) (follows J (suc k) E) (λ n h. follows_keep J k E n h) e.1 (not-true (follows J k E e.0) (and_right t u e.2)) (and_left t u e.2)))
      (λ a. inl (λ n h. ⊎_elim (λ o. o)
      (λ g. ⊎_elim (λ o. o)
      (λ c. clash (some_intro (new k) (in_consequents J g.0 g.1) (subst (λ m. new k m ≡ true) (sym g.2.of) (and_intro h (ap not c)))) a)
      (either (follows J k E n)))
      (follows_cases J k E n h)))
      (either (some_of (new k) (consequents J)))

  grows : (k : ℕ) → Stable k ⊎ (k ≤ length (those (follows J k E) (consequents J)))
  grows zero = inr zero-le
  grows (suc k) =
      ⊎_elim (λ s. inl (stable_next k s)) (λ h. ⊎_elim (λ s. inl (stable_next k s)) (λ l. inr (omega arith)) (stable_or k)) (grows k)

  stable_at : Stable (length (consequents J))
  stable_at =
      let d : ℕ = length (consequents J) in
      ⊎_elim (λ s. s) (λ h. ⊎_elim (λ s. s) (λ l. absurd (omega (arith, count_all (follows J (suc d) E) (consequents J)))) (stable_or d)) (grows d)

  stable_later : (k : ℕ) → Stable k → (m : ℕ) → k ≤ m → (n : ℕ) → follows J m E n ≡ true → follows J k E n ≡ true
  unfolding Stable
  stable_later k s m h =
      let later : (j : ℕ) → k ≤ j → Stable j = le_ind Stable s (λ j l t. stable_next j t) in
      le_ind (λ (j : ℕ). (n : ℕ) → follows J j E n ≡ true → follows J k E n ≡ true) (λ n f. f) (λ j l ih n f. ih n (later j l n f)) m h

pub settles : (J : List Justification) (m : ℕ) → length (consequents J) ≤ m → follows J (length (consequents J)) ≡ follows J m
settles J m h =
    let d : ℕ = length (consequents J) in
    fun_ext λ E. fun_ext λ n. same_test (follows_later J d m E n h) (stable_later J E d (stable_at J E) m h n)

pub length_below : (n : ℕ) → length (numbers_below n) ≡ n
unfolding numbers_below
length_below zero = refl
length_below (suc n) = omega (arith, length-append (numbers_below n) (n ∷ []), length_below n)

-- at most as many as the justifications
pub consequents_length : (J : List Justification) → length (consequents J) ≤ length J
unfolding consequents
consequents_length [] = zero-le
consequents_length (j ∷ J) = go (some_of (eqb j.consequent) (consequents J)) (consequents_length J)
  where
    go : (b : Bool) → length (consequents J) ≤ length J → length (choose b (consequents J) (j.consequent ∷ consequents J)) ≤ length (j ∷ J)
    go true h = omega arith
    go false h = omega arith

in_some : {x : ℕ} {l : List ℕ} → Mem x l → some_of (eqb x) l ≡ true
in_some {x} m = some_intro (eqb x) m (eq-eqb x x refl)

wider : (x : ℕ) (l : List ℕ) (n : ℕ) → some_of (eqb n) l ≡ true → some_of (eqb n) (x ∷ l) ≡ true
wider x l n h = let s = some_elim (eqb n) l h in some_intro (eqb n) (there s.1) s.2

counted : (l : List ℕ) (J : List Justification) → ((r : Justification) → Mem r J → Mem r.consequent l) → length (consequents J) ≤ length (those (λ n. some_of (eqb n) (consequents J)) l)
unfolding consequents
counted l [] w = zero-le
counted l (j ∷ J) w = go (some_of (eqb j.consequent) (consequents J)) refl (counted l J (λ r m. w r (there m)))
  where
    go : (b : Bool) → some_of (eqb j.consequent) (consequents J) ≡ b → length (consequents J) ≤ length (those (λ n. some_of (eqb n) (consequents J)) l)
        → length (choose b (consequents J) (j.consequent ∷ consequents J)) ≤ length (those (λ n. some_of (eqb n) (choose b (consequents J) (j.consequent ∷ consequents J))) l)
    go true h k = k
    go false h k =
        omega (arith, k, count_lt (λ n. some_of (eqb n) (consequents J)) (λ n. some_of (eqb n) (j.consequent ∷ consequents J)) (wider j.consequent (consequents J)) (w j (here refl)) h (in_some {x = j.consequent} {l = j.consequent ∷ consequents J} (here refl)))

-- at most as many as the members of a list that has them all
pub consequents_among : (l : List ℕ) (J : List Justification) → ((r : Justification) → Mem r J → Mem r.consequent l) → length (consequents J) ≤ length l
consequents_among l J w = omega (arith, counted l J w, count_all (λ n. some_of (eqb n) (consequents J)) l)

-- at most as many as the numbers up to N
pub consequents_few : (N : ℕ) (J : List Justification) → Within N J → length (consequents J) ≤ suc N
consequents_few N J w = omega (arith, consequents_among (numbers_below (suc N)) J (λ r m. below_intro (suc N) (omega (arith, w r m))), length_below (suc N))

-- at most as many as those of a list that has all the justifications
pub consequents_less : (J J' : List Justification) → ((r : Justification) → Mem r J → Mem r J') → length (consequents J) ≤ length (consequents J')
consequents_less J J' f = consequents_among (consequents J') J (λ r m. in_consequents J' r (f r m))
