-- What follows grows with the stage and with the set. Assumes nothing.
use mathlib.Core.Bool.{Bool, true}
use mathlib.Core.List.{List, Memᴰ as Mem}
use mathlib.Core.Logic.{◌⊎◌, inl, inr, ⊎_elim}
use mathlib.Core.Path.{◌≡◌}
use Prim.Native.Nat.{◌≤◌, suc, zero, ℕ}
use native.Mathlib.Decide.{le_ind}
use lib.Dec.{eqb}
use borrow.Author.Tests.{eq-eqb, eqb-true}
use Rattle.theory.proofs.Lists.{all_elim, all_intro, and_intro, and_left, and_right, or_cases, or_left, or_right, some_elim, some_intro}
use Rattle.theory.proofs.Sets.{among_within}
use Rattle.theory.specs.Lists.{all_of, some_of}
use Rattle.theory.specs.Sets.{within}
use Rattle.theory.specs.Stages.{Justification, follows, gives}

-- what `gives` says, and how to say it
pub record Gives (S : ℕ → Bool) (n : ℕ) (r : Justification) : Type 0 where
  pub of : r.consequent ≡ n
  pub by : (s : ℕ) → Mem s r.supports → S s ≡ true

pub gives_elim : (S : ℕ → Bool) (n : ℕ) (r : Justification) → gives S n r ≡ true → Gives S n r
unfolding gives
gives_elim S n r h =
    let t : Bool = eqb r.consequent n in
    let u : Bool = all_of S r.supports in
    record { of = eqb-true r.consequent n (and_left t u h); by = λ s m. all_elim S (and_right t u h) m }

pub gives_intro : (S : ℕ → Bool) (n : ℕ) (r : Justification) → Gives S n r → gives S n r ≡ true
unfolding gives
gives_intro S n r g = and_intro (eq-eqb r.consequent n g.of) (all_intro S r.supports g.by)

pub gives_mono : (S S' : ℕ → Bool) (n : ℕ) (r : Justification) → ((s : ℕ) → S s ≡ true → S' s ≡ true) → gives S n r ≡ true → gives S' n r ≡ true
gives_mono S S' n r f h = let g = gives_elim S n r h in gives_intro S' n r (record { of = g.of; by = λ s m. f s (g.by s m) })

-- one stage on: it followed before, or a justification gives it
pub follows_keep : (J : List Justification) (k E n : ℕ) → follows J k E n ≡ true → follows J (suc k) E n ≡ true
unfolding follows
follows_keep J k E n h = or_left (some_of (gives (follows J k E) n) J) h

pub follows_by : (J : List Justification) (k E n : ℕ) (r : Justification) → Mem r J → Gives (follows J k E) n r → follows J (suc k) E n ≡ true
unfolding follows
follows_by J k E n r m g = or_right (follows J k E n) (some_intro (gives (follows J k E) n) m (gives_intro (follows J k E) n r g))

pub follows_cases : (J : List Justification) (k E n : ℕ) → follows J (suc k) E n ≡ true
    → (follows J k E n ≡ true) ⊎ ((r : Justification) × Mem r J × Gives (follows J k E) n r)
unfolding follows
follows_cases J k E n h =
    let S : ℕ → Bool = follows J k E in
    ⊎_elim inl (λ a. let w = some_elim (gives S n) J a in inr (w.0, w.1, gives_elim S n w.0 w.2)) (or_cases (S n) (some_of (gives S n) J) h)

pub follows_later : (J : List Justification) (k m E n : ℕ) → k ≤ m → follows J k E n ≡ true → follows J m E n ≡ true
follows_later J k m E n h f = le_ind (λ (j : ℕ). follows J j E n ≡ true) f (λ j l e. follows_keep J j E n e) m h

pub follows_more : (J : List Justification) (k E E' n : ℕ) → within E E' ≡ true → follows J k E n ≡ true → follows J k E' n ≡ true
unfolding follows
follows_more J zero E E' n w f = among_within E E' n w f
follows_more J (suc k) E E' n w f =
    ⊎_elim (λ h. follows_keep J k E' n (follows_more J k E E' n w h))
    (λ c. follows_by J k E' n c.0 c.1 (record { of = c.2.of; by = λ s m. follows_more J k E E' s w (c.2.by s m) })) (follows_cases J k E n f)
