-- The listing of the sets of A assumptions has each number below 2 ^ A. The minimal sets. Assumes nothing.
use mathlib.Core.Bool.{Bool, ◌&&◌, false, not, true}
use mathlib.Core.List.Memᴰ
use mathlib.Core.List.Memᴰ.{head as here}
use mathlib.Core.List.{List, Memᴰ as Mem, [], ◌∷◌}
use mathlib.Core.Logic.{◌≢◌, ⊎_elim}
use mathlib.Core.Path.{◌≡◌, ap}
use Prim.Native.Nat.{◌<◌, ◌^◌, ◌≤◌, suc, zero, ℕ}
use native.Mathlib.Nat.{eq-or-lt_of_le, le_of_suc-le-suc, le_refl, not-suc-le-zero}
use native.Mathlib.Omega.{arith}
use lib.Count.{ones, ones-le}
use lib.Dec.{eqb}
use borrow.Author.Tests.{eq-eqb, eqb-false, eqb-true, ne_eqb, not-true}
use Rattle.theory.proofs.Lists.{and_intro, and_left, and_right, clash, either, not_so, some_elim, some_intro, those_elim, those_intro}
use Rattle.theory.proofs.Sets.{within_le, within_refl, within_trans}
use Rattle.theory.specs.Lists.{numbers_below, some_of, those}
use Rattle.theory.specs.Sets.{by_size, listing, within}
use Rattle.theory.specs.Stages.{minimal}

pub below_intro : (n : ℕ) {E : ℕ} → E < n → Mem E (numbers_below n)
unfolding numbers_below
below_intro zero h = absurd (not-suc-le-zero h)
below_intro (suc n) {E} h = ⊎_elim (λ e. Memᴰ.append_right (numbers_below n) (here e)) (λ l. Memᴰ.append_left (n ∷ []) (below_intro n l)) (eq-or-lt_of_le (le_of_suc-le-suc h))

pub below_elim : (n : ℕ) {E : ℕ} → Mem E (numbers_below n) → E < n
unfolding numbers_below
below_elim zero m = elim m [ ]
below_elim (suc n) {E} m =
    ⊎_elim (λ l. let h : E < n = below_elim n l in omega arith) (λ s. let e : E ≡ n = Memᴰ.eq_of_singleton s in omega arith)
    (Memᴰ.append_cases (numbers_below n) m)

pub by_size_intro : (c : ℕ) (l : List ℕ) {E : ℕ} → Mem E l → ones E ≤ c → Mem E (by_size c l)
unfolding by_size
by_size_intro zero l {E} m h = those_intro (λ F. eqb (ones F) zero) m (eq-eqb (ones E) zero (omega arith))
by_size_intro (suc c) l {E} m h =
    ⊎_elim (λ e. Memᴰ.append_right (by_size c l) (those_intro (λ F. eqb (ones F) (suc c)) m (eq-eqb (ones E) (suc c) e)))
    (λ k. Memᴰ.append_left (those (λ F. eqb (ones F) (suc c)) l) (by_size_intro c l m (le_of_suc-le-suc k))) (eq-or-lt_of_le h)

pub by_size_elim : (c : ℕ) (l : List ℕ) {E : ℕ} → Mem E (by_size c l) → Mem E l
unfolding by_size
by_size_elim zero l m = (those_elim (λ F. eqb (ones F) zero) l m).0
by_size_elim (suc c) l m = ⊎_elim (by_size_elim c l) (λ s. (those_elim (λ F. eqb (ones F) (suc c)) l s).0) (Memᴰ.append_cases (by_size c l) m)

pub listing_intro : (A : ℕ) {E : ℕ} → E < 2 ^ A → Mem E (listing A)
unfolding listing
listing_intro A {E} h = by_size_intro A (numbers_below (2 ^ A)) (below_intro (2 ^ A) h) (ones-le A E h)

pub listing_elim : (A : ℕ) {E : ℕ} → Mem E (listing A) → E < 2 ^ A
unfolding listing
listing_elim A m = below_elim (2 ^ A) (by_size_elim A (numbers_below (2 ^ A)) m)

-- ---- minimal sets

pub record Minimal (A : ℕ) (P : ℕ → Bool) (E : ℕ) : Type 0 where
  pub has : P E ≡ true
  pub least : (F : ℕ) → within F E ≡ true → P F ≡ true → F ≡ E

pub within_below : (A F E : ℕ) → within F E ≡ true → E < 2 ^ A → F < 2 ^ A
within_below A F E w h = omega (arith, within_le F E w)

module _ (A : ℕ) (P : ℕ → Bool) where
  smaller : ℕ → ℕ → Bool
  smaller E F = within F E && (not (eqb F E) && P F)

  record Smaller (E F : ℕ) : Type 0 where
    inside : within F E ≡ true
    other : F ≡ E → ⊥
    too : P F ≡ true

  smaller_elim : (E F : ℕ) → smaller E F ≡ true → Smaller E F
  unfolding smaller
  smaller_elim E F h =
      let r : not (eqb F E) && P F ≡ true = and_right (within F E) (not (eqb F E) && P F) h in
      record { inside = and_left (within F E) (not (eqb F E) && P F) h; other = eqb-false F E (not-true (eqb F E) (and_left (not (eqb F E)) (P F) r)); too = and_right (not (eqb F E)) (P F) r }

  smaller_intro : (E F : ℕ) → Smaller E F → smaller E F ≡ true
  unfolding smaller
  smaller_intro E F s = and_intro s.inside (and_intro (ap not (ne_eqb F E s.other)) s.too)

  pub minimal_elim : (E : ℕ) → E < 2 ^ A → minimal A P E ≡ true → Minimal A P E
  unfolding minimal smaller
  minimal_elim E h m =
      let none : some_of (smaller E) (listing A) ≡ false = not-true (some_of (smaller E) (listing A)) (and_right (P E) (not (some_of (smaller E) (listing A))) m) in
      record {
        has = and_left (P E) (not (some_of (smaller E) (listing A))) m;
        least = λ F w p. ⊎_elim (λ e. eqb-true F E e)
            (λ e. clash (some_intro (smaller E) (listing_intro A (within_below A F E w h)) (smaller_intro E F (record { inside = w; other = eqb-false F E e; too = p }))) none)
            (either (eqb F E));
      }

  pub minimal_intro : (E : ℕ) → Minimal A P E → minimal A P E ≡ true
  unfolding minimal smaller
  minimal_intro E m =
      and_intro m.has (ap not (not_so (some_of (smaller E) (listing A))
      (λ a. let w = some_elim (smaller E) (listing A) a in let s = smaller_elim E w.0 w.2 in s.other (m.least w.0 s.inside s.too))))

  -- a set that has P contains a minimal one
  find : (d E : ℕ) → E < d → E < 2 ^ A → P E ≡ true → (F : ℕ) × (within F E ≡ true) × (F < 2 ^ A) × (minimal A P F ≡ true)
  unfolding minimal smaller
  find zero E l h p = absurd (not-suc-le-zero l)
  find (suc d) E l h p = ⊎_elim (λ a.
      let w = some_elim (smaller E) (listing A) a in
      let F : ℕ = w.0 in
      let s = smaller_elim E F w.2 in
      let le : F ≤ E = within_le F E s.inside in
      let ne : F ≢ E = s.other in
      let r = find d F (omega arith) (omega arith) s.too in
      (r.0, within_trans r.0 F E r.1 s.inside, r.2, r.3))
      (λ a. (E, within_refl E, h, and_intro p (ap not a))) (either (some_of (smaller E) (listing A)))

  pub contains_minimal : (E : ℕ) → E < 2 ^ A → P E ≡ true → (F : ℕ) × (within F E ≡ true) × (F < 2 ^ A) × (minimal A P F ≡ true)
  contains_minimal E h p = find (suc E) E (le_refl (suc E)) h p
