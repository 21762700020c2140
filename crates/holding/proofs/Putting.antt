-- One more put in its place: what `put` makes of a list, also of one in order, and that the code makes the same of the places. Assumes nothing.
use mathlib.Core.Bool.{Bool, false, true}
use mathlib.Core.List.Memᴰ
use mathlib.Core.List.Memᴰ.{head as here}
use mathlib.Core.List.Memᴰ.{tail as there}
use mathlib.Core.List.{List, Memᴰ as Mem, [], ◌∷◌, map}
use mathlib.Core.Logic.{◌⊎◌, inl, inr, ⊎_elim}
use mathlib.Core.Path.{◌∙◌, ◌≡◌, ap, ap₂, refl, subst, sym}
use Prim.Native.Nat.{◌+◌, ◌-◌, ◌<◌, ◌≤◌, suc, zero, ℕ}
use native.Mathlib.Decide.{dec_lt}
use native.Mathlib.Nat.{eq-or-lt_of_le, le_of_suc-le-suc, not-suc-le-zero}
use native.Mathlib.Omega.{arith}
use lib.ListN.{get_or-eq_default, get_or, length}
use Rattle.holding.proofs.Moving.{insert_here, insert_high, insert_length, insert_low, insert_moved}
use Rattle.holding.specs.Placing.{insert_at, place_of, with_entries}
use Rattle.rules.proofs.Entries.{entry_again, entry_at, nothing_said, places, said_many}
use Rattle.rules.proofs.Order.{ahead_total, mem_same, ordered_cons, ordered_head, ordered_tail}
use Rattle.rules.proofs.Scan.{right_elim}
use Rattle.rules.proofs.Steps.{beyond}
use Rattle.rules.specs.Held.{entry_of, fitting, held_of, held_right, meaning, ordered, put, said_by, vacant}
use Rattle.rules.specs.Items.{same_justification}
use Rattle.rules.specs.declared.Entry.{Entry}
use Rattle.rules.specs.declared.Held.{Held}
use Rattle.theory.proofs.Lists.{and_intro, clash, either}
use Rattle.theory.proofs.Places.{is_table}
use Rattle.theory.specs.Limits.{limits}
use Rattle.theory.specs.Lists.{choose, some_of}
use Rattle.theory.specs.Places.{padded}
use Rattle.theory.specs.Stages.{Justification, ahead}

-- ---- put
module _ (r : Justification) where
  pub put_cases : (l : List Justification) {x : Justification} → Mem x (put r l) → (x ≡ r) ⊎ Mem x l
  unfolding put
  put_cases [] m = ⊎_elim inl (λ n. elim n [ ]) (Memᴰ.cases_cons m)
  put_cases (t ∷ l) {x} m = go (ahead t r) m (λ n. put_cases l n)
    where
      go : (b : Bool) → Mem x (choose b (t ∷ put r l) (r ∷ t ∷ l)) → (Mem x (put r l) → (x ≡ r) ⊎ Mem x l) → (x ≡ r) ⊎ Mem x (t ∷ l)
      go true m f = ⊎_elim (λ e. inr (here e)) (λ n. ⊎_elim inl (λ k. inr (there k)) (f n)) (Memᴰ.cases_cons m)
      go false m f = Memᴰ.cases_cons m

  pub put_new : (l : List Justification) → Mem r (put r l)
  unfolding put
  put_new [] = here refl
  put_new (t ∷ l) = go (ahead t r) (put_new l)
    where
      go : (b : Bool) → Mem r (put r l) → Mem r (choose b (t ∷ put r l) (r ∷ t ∷ l))
      go true m = there m
      go false m = here refl

  pub put_old : {x : Justification} {l : List Justification} → Mem x l → Mem x (put r l)
  unfolding put
  put_old {x = x} (here {x = t} {xs = l} e) = go (ahead t r)
    where
      go : (b : Bool) → Mem x (choose b (t ∷ put r l) (r ∷ t ∷ l))
      go true = here e
      go false = there (here e)
  put_old {x = x} (there {x = t} {xs = l} m) = go (ahead t r) (put_old {x = x} m)
    where
      go : (b : Bool) → Mem x (put r l) → Mem x (choose b (t ∷ put r l) (r ∷ t ∷ l))
      go true n = there n
      go false n = there (there m)

  pub put_length : (l : List Justification) → length (put r l) ≡ suc (length l)
  unfolding put
  put_length [] = refl
  put_length (t ∷ l) = go (ahead t r) (put_length l)
    where
      go : (b : Bool) → length (put r l) ≡ suc (length l) → length (choose b (t ∷ put r l) (r ∷ t ∷ l)) ≡ suc (suc (length l))
      go true e = ap suc e
      go false e = refl

  pub place_le : (l : List Justification) → place_of r l ≤ length l
  unfolding place_of
  place_le [] = omega arith
  place_le (t ∷ l) = go (ahead t r) (place_le l)
    where
      go : (b : Bool) → place_of r l ≤ length l → choose b (suc (place_of r l)) 0 ≤ suc (length l)
      go true h = omega arith
      go false h = omega arith

  -- what stands where
  pub put_low : (l : List Justification) (i : ℕ) (z : Justification) → i < place_of r l → get_or (put r l) i z ≡ get_or l i z
  unfolding put place_of
  put_low [] i z h = absurd (not-suc-le-zero h)
  put_low (t ∷ l) i z h = go (ahead t r) i h (λ k p. put_low l k z p)
    where
      go : (b : Bool) (i : ℕ) → i < choose b (suc (place_of r l)) 0 → ((k : ℕ) → k < place_of r l → get_or (put r l) k z ≡ get_or l k z)
          → get_or (choose b (t ∷ put r l) (r ∷ t ∷ l)) i z ≡ get_or (t ∷ l) i z
      go true zero h f = refl
      go true (suc i) h f = f i (le_of_suc-le-suc h)
      go false i h f = absurd (not-suc-le-zero h)

  pub put_here : (l : List Justification) (z : Justification) → get_or (put r l) (place_of r l) z ≡ r
  unfolding put place_of
  put_here [] z = refl
  put_here (t ∷ l) z = go (ahead t r) (put_here l z)
    where
      go : (b : Bool) → get_or (put r l) (place_of r l) z ≡ r → get_or (choose b (t ∷ put r l) (r ∷ t ∷ l)) (choose b (suc (place_of r l)) 0) z ≡ r
      go true e = e
      go false e = refl

  pub put_high : (l : List Justification) (i : ℕ) (z : Justification) → place_of r l ≤ i → get_or (put r l) (suc i) z ≡ get_or l i z
  unfolding put place_of
  put_high [] i z h = refl
  put_high (t ∷ l) i z h = go (ahead t r) i h (λ k p. put_high l k z p)
    where
      go : (b : Bool) (i : ℕ) → choose b (suc (place_of r l)) 0 ≤ i → ((k : ℕ) → place_of r l ≤ k → get_or (put r l) (suc k) z ≡ get_or l k z)
          → get_or (choose b (t ∷ put r l) (r ∷ t ∷ l)) (suc i) z ≡ get_or (t ∷ l) i z
      go true zero h f = absurd (not-suc-le-zero h)
      go true (suc i) h f = f i (le_of_suc-le-suc h)
      go false i h f = refl

-- ---- the order
put_among : (r : Justification) (l : List Justification) → ordered l ≡ true → (Mem r l → ⊥) → ordered (put r l) ≡ true
unfolding put ordered
put_among r [] h f = refl
put_among r (t ∷ l) h f =
    go (either (ahead t r)) (put_among r l (ordered_tail t l h) (λ m. f (there m)))
  where
    go : (ahead t r ≡ true) ⊎ (ahead t r ≡ false) → ordered (put r l) ≡ true → ordered (choose (ahead t r) (t ∷ put r l) (r ∷ t ∷ l)) ≡ true
    go (inl a) o =
        rw a (ordered_cons t (put r l) (λ j m. ⊎_elim (λ (q : j ≡ r). subst (λ (u : Justification). ahead t u ≡ true) (sym q) a) (λ n. ordered_head t l h j n) (put_cases r l m)) o)
    go (inr a) o =
        rw a (and_intro (⊎_elim (λ (q : t ≡ r). absurd (f (here (sym q)))) (⊎_elim (λ b. clash b a) (λ b. b)) (ahead_total t r)) h)

-- a new one put into a list in order leaves it in order
pub put_ordered : (r : Justification) (l : List Justification) → ordered l ≡ true → some_of (same_justification r) l ≡ false → ordered (put r l) ≡ true
put_ordered r l h s = put_among r l h (λ m. clash (mem_same r l m) s)

-- ---- the places
module _ (h : Held) (right : held_right h ≡ true) (e : Entry) (a : ℕ) (so : a ≡ place_of (meaning e) (said_by h)) where
  abbrev r : Justification
  r = meaning e

  abbrev J : List Justification
  J = said_by h

  pub place_held : a ≤ h.count
  place_held = omega (arith, place_le r J, said_many h right)

  module _ (room : h.count < limits.held) (fits : fitting (h.assumptions + h.claims) e ≡ true) where
    many : length J ≡ h.count
    many = said_many h right

    long : length h.entries ≡ limits.held
    long = (right_elim h right).long

    wide : h.count < length h.entries
    wide = omega (arith, long, room)

    at : (i : ℕ) → i < limits.held → get_or (insert_at h.entries a h.count e) i beyond ≡ entry_of (get_or (put r J) i nothing_said)
    at i p =
        let l : List Entry = h.entries in
        elim (dec_lt i a) [
          | yes q ↦ insert_low l a h.count e place_held wide i q ∙ places h right i p ∙ ap entry_of (sym (put_low r J i nothing_said (omega arith)))
          | no q ↦ ⊎_elim
              (λ (w : a ≡ i).
              ap (λ (x : ℕ). get_or (insert_at l a h.count e) x beyond) (sym w) ∙ insert_here l a h.count e place_held wide ∙ entry_again (h.assumptions + h.claims) e fits
              ∙ ap entry_of (sym (put_here r J nothing_said) ∙ ap (λ (x : ℕ). get_or (put r J) x nothing_said) (sym so ∙ w)))
              (λ (w : a < i).
              let v : suc (i - 1) ≡ i = omega arith in
              let u : i - 1 + 1 ≡ i = omega arith in
              let high : get_or (put r J) i nothing_said ≡ get_or J (i - 1) nothing_said = ap (λ (x : ℕ). get_or (put r J) x nothing_said) (sym v) ∙ put_high r J (i - 1) nothing_said (omega arith) in
              elim (dec_lt h.count i) [
                | yes g ↦ insert_high l a h.count e place_held wide i g ∙ places h right i p
                    ∙ ap entry_of (get_or-eq_default J nothing_said {n = i} (omega (arith, many)) ∙ sym (get_or-eq_default J nothing_said {n = i - 1} (omega (arith, many))) ∙ sym high)
                | no g ↦ ap (λ (x : ℕ). get_or (insert_at l a h.count e) x beyond) (sym u) ∙ insert_moved l a h.count e place_held wide (i - 1) (omega arith) (omega arith) ∙ places h right (i - 1) (omega arith) ∙ ap entry_of (sym high)
              ])
              (eq-or-lt_of_le (up i q))
        ]
      where
        up : (i : ℕ) → (i < a → ⊥) → a ≤ i
        up i q = omega arith

    inserted : insert_at h.entries a h.count e ≡ padded vacant limits.held (map entry_of (put r J))
    unfolding padded
    inserted =
        is_table (insert_at h.entries a h.count e) limits.held (λ i. get_or (map entry_of (put r J)) i vacant) beyond
        (insert_length h.entries a h.count e place_held wide ∙ long) (λ i p. at i p ∙ sym (entry_at (put r J) i))

    pub put_held : (k : Held) → k ≡ with_entries h (h.count + 1) (insert_at h.entries a h.count e) → k ≡ held_of h.assumptions h.claims (put r J)
    unfolding held_of
    put_held k q =
        let n : h.count + 1 ≡ length (put r J) = omega (arith, put_length r J, many) in
        q ∙ ap₂ (λ (n : ℕ) (l : List Entry). with_entries h n l) n inserted
