-- A place and what it says, each got back from the other. Assumes nothing.
use mathlib.Core.Bool.{Bool, false, not, true}
use mathlib.Core.List.Memᴰ.{head as here}
use mathlib.Core.List.Memᴰ.{tail as there}
use mathlib.Core.List.{List, Memᴰ as Mem, [], ◌∷◌, map}
use mathlib.Core.Path.{◌∙◌, ◌≡◌, ap, ap₂, refl, sym}
use Prim.Native.Nat.{◌+◌, ◌-◌, ◌<◌, ◌≤◌, ℕ}
use native.Mathlib.Decide.{dec_lt}
use native.Mathlib.Omega.{arith}
use lib.Dec.{eqb, leb}
use lib.ListN.{get_or-eq_default, get_or-map, drop, get_or, get_or-replicate, length, length-drop, length-replicate, length-take, replicate, take}
use lib.Seq.{ext_get_or, get_or-drop, get_or-take, length-take-le}
use borrow.Author.Tests.{eq-eqb, eqb-true, le-leb, leb-true}
use Rattle.rules.proofs.Scan.{right_elim, right_inside, said_at, said_length}
use Rattle.rules.proofs.Steps.{all_at, all_first, all_places, beyond}
use Rattle.rules.specs.Held.{climbs, entry_of, fitting, held_of, held_right, meaning, said_by, unused_entry, vacant}
use Rattle.rules.specs.declared.Entry.{Entry}
use Rattle.rules.specs.declared.Held.{Held}
use Rattle.theory.proofs.Lists.{and_left, and_right, clash, not_so}
use Rattle.theory.proofs.Places.{get_d_table, is_table, length_table}
use Rattle.theory.specs.Limits.{limits}
use Rattle.theory.specs.Lists.{all_of, some_of}
use Rattle.theory.specs.Places.{padded, table}
use Rattle.theory.specs.Stages.{Justification}

-- ---- places

-- the first of the places of a list are the list
pub unpadded : {X : Type 0} (z : X) (n : ℕ) (l : List X) → length l ≤ n → take (length l) (padded z n l) ≡ l
unfolding padded
unpadded z n l h =
    let e : length (take (length l) (table n (λ i. get_or l i z))) ≡ length l = length-take-le (length l) (table n (λ i. get_or l i z)) (omega (arith, length_table n (λ i. get_or l i z))) in
    ext_get_or z (take (length l) (table n (λ i. get_or l i z))) l e
    (λ i p. get_or-take (length l) (table n (λ i. get_or l i z)) i z (omega arith) ∙ get_d_table n (λ i. get_or l i z) i z (omega arith))

pub length_padded : {X : Type 0} (z : X) (n : ℕ) (l : List X) → length (padded z n l) ≡ n
unfolding padded
length_padded z n l = length_table n (λ i. get_or l i z)

-- places that are zero after the first n are those of the first n
pub zeros_padded : (l : List ℕ) (n m : ℕ) → length l ≡ m → all_of (eqb 0) (drop n l) ≡ true → l ≡ padded 0 m (take n l)
unfolding padded
zeros_padded l n m e z =
    is_table l m (λ i. get_or (take n l) i 0) 0 e
    (λ i p. elim (dec_lt i n) [
      | yes q ↦ sym (get_or-take n l i 0 q)
      | no q ↦ (let f : n + (i - n) ≡ i = omega arith in
          let k : length (take n l) ≤ i = omega (arith, length-take n l) in
          ap (λ (j : ℕ). get_or l j 0) (sym f) ∙ sym (get_or-drop n l (i - n) 0)
          ∙ sym (eqb-true 0 (get_or (drop n l) (i - n) 0) (all_at (eqb 0) (drop n l) (i - n) 0 z (omega (arith, length-drop n l))))
          ∙ sym (get_or-eq_default (take n l) 0 {n = i} k))
    ])

-- the places after those of a list pass what z passes
pub padded_spare : {X : Type 0} (p : X → Bool) (z : X) (n : ℕ) (l : List X) → p z ≡ true → all_of p (drop (length l) (padded z n l)) ≡ true
unfolding padded
padded_spare p z n l h =
    let t = table n (λ i. get_or l i z) in
    all_places p (drop (length l) t) z
    (λ i q.
    let r : length l + i < n = omega (arith, length-drop (length l) t, length_table n (λ i. get_or l i z)) in
    ap p (get_or-drop (length l) t i z ∙ get_d_table n (λ i. get_or l i z) (length l + i) z r ∙ get_or-eq_default l z {n = length l + i} (omega arith)) ∙ h)

-- ---- a place in range
pub record Fits (N : ℕ) (e : Entry) : Type 0 where
  pub low : e.consequent ≤ N
  pub few : e.count ≤ limits.supports
  pub rising : climbs N 0 (take e.count e.supports) ≡ true
  pub foreign : some_of (eqb e.consequent) (take e.count e.supports) ≡ false
  pub long : length e.supports ≡ limits.supports
  pub spare : all_of (eqb 0) (drop e.count e.supports) ≡ true

pub fits_elim : (N : ℕ) (e : Entry) → fitting N e ≡ true → Fits N e
unfolding fitting
fits_elim N e h =
    let C : Bool = climbs N 0 (take e.count e.supports) in
    let h₁ = and_right (leb e.consequent N) _ h in
    let h₂ = and_right (leb e.count limits.supports) _ h₁ in
    let O : Bool = some_of (eqb e.consequent) (take e.count e.supports) in
    let h₃ = and_right C _ h₂ in
    let h₄ = and_right (not O) _ h₃ in
    record {
      low = leb-true e.consequent N (and_left (leb e.consequent N) _ h);
      few = leb-true e.count limits.supports (and_left (leb e.count limits.supports) _ h₁);
      rising = and_left C _ h₂;
      foreign = not_so O (λ h. clash (and_left (not O) _ h₃) (ap not h));
      long = eqb-true (length e.supports) limits.supports (and_left (eqb (length e.supports) limits.supports) _ h₄);
      spare = and_right (eqb (length e.supports) limits.supports) _ h₄;
    }

pub fits_intro : (N : ℕ) (e : Entry) → Fits N e → fitting N e ≡ true
unfolding fitting
fits_intro N e f = rw (le-leb e.consequent N f.low, le-leb e.count limits.supports f.few, f.rising, f.foreign, eq-eqb (length e.supports) limits.supports f.long) f.spare

entry : ℕ → ℕ → List ℕ → Entry
entry c n l = record { consequent = c; count = n; supports = l }

-- a place in range is that of what it says
pub entry_again : (N : ℕ) (e : Entry) → fitting N e ≡ true → e ≡ entry_of (meaning e)
unfolding entry
entry_again N e h =
    let f = fits_elim N e h in
    ap₂ (λ (n : ℕ) (l : List ℕ). entry e.consequent n l) (sym (length-take-le e.count e.supports (omega (arith, f.few, f.long)))) (zeros_padded e.supports e.count limits.supports f.long f.spare)

-- the place of a justification says it
pub meaning_entry : (j : Justification) → length j.supports ≤ limits.supports → meaning (entry_of j) ≡ j
meaning_entry j h = ap (λ (l : List ℕ). record { consequent = j.consequent; supports = l }) (unpadded 0 limits.supports j.supports h)

-- the place of a justification in range is in range
pub entry_fits : (N : ℕ) (j : Justification) → j.consequent ≤ N → length j.supports ≤ limits.supports → climbs N 0 j.supports ≡ true → some_of (eqb j.consequent) j.supports ≡ false
    → fitting N (entry_of j) ≡ true
entry_fits N j low few rising foreign =
    fits_intro N (entry_of j)
    (record {
      low = low;
      few = few;
      rising = ap (climbs N 0) (unpadded 0 limits.supports j.supports few) ∙ rising;
      foreign = ap (some_of (eqb j.consequent)) (unpadded 0 limits.supports j.supports few) ∙ foreign;
      long = length_padded 0 limits.supports j.supports;
      spare = padded_spare (eqb 0) 0 limits.supports j.supports refl;
    })

-- ---- an unused place
abbrev pub nothing_said : Justification
nothing_said = record { consequent = 0; supports = [] }

pub vacant_entry : vacant ≡ entry_of nothing_said
unfolding padded table
vacant_entry = refl

pub vacant_unused : unused_entry vacant ≡ true
unfolding unused_entry all_of
vacant_unused = refl

pub vacant_again : (e : Entry) → unused_entry e ≡ true → e ≡ vacant
unfolding unused_entry entry padded table
vacant_again e h =
    let h₁ = and_right (eqb e.consequent 0) _ h in
    let h₂ = and_right (eqb e.count 0) _ h₁ in
    let q : length e.supports ≡ limits.supports = eqb-true (length e.supports) limits.supports (and_left (eqb (length e.supports) limits.supports) _ h₂) in
    let c : e.consequent ≡ 0 = eqb-true e.consequent 0 (and_left (eqb e.consequent 0) _ h) in
    let n : e.count ≡ 0 = eqb-true e.count 0 (and_left (eqb e.count 0) _ h₁) in
    let l : e.supports ≡ padded 0 limits.supports (take 0 e.supports) = zeros_padded e.supports 0 limits.supports q (and_right (eqb (length e.supports) limits.supports) _ h₂) in
    ap₂ (λ (x y : ℕ). entry x y e.supports) c n ∙ ap (entry 0 0) l

-- ---- what is held
pub entry_at : (J : List Justification) (i : ℕ) → get_or (map entry_of J) i vacant ≡ entry_of (get_or J i nothing_said)
entry_at J i = ap (get_or (map entry_of J) i) vacant_entry ∙ get_or-map entry_of J i nothing_said

-- no more supports than the limit, each
abbrev pub Small : List Justification → Type 0
Small J = (j : Justification) → Mem j J → length j.supports ≤ limits.supports

pub reread : (J : List Justification) → Small J → map meaning (map entry_of J) ≡ J
reread [] f = refl
reread (j ∷ J) f = ap₂ (λ (a : Justification) (b : List Justification). a ∷ b) (meaning_entry j (f j (here refl))) (reread J (λ t m. f t (there m)))

module _ (h : Held) (right : held_right h ≡ true) where
  abbrev N : ℕ
  N = h.assumptions + h.claims

  inside : h.count ≤ length h.entries
  inside = right_inside h right

  pub said_many : length (said_by h) ≡ h.count
  said_many = said_length h.entries h.count inside

  -- each place
  pub places : (i : ℕ) → i < limits.held → get_or h.entries i beyond ≡ entry_of (get_or (said_by h) i nothing_said)
  places i p =
      let k = right_elim h right in
      elim (dec_lt i h.count) [
        | yes q ↦ entry_again N (get_or h.entries i beyond) (all_first (fitting N) h.entries h.count i beyond inside k.fits q) ∙ ap entry_of (sym (said_at h.entries h.count inside i q))
        | no q ↦ (let f : h.count + (i - h.count) ≡ i = omega arith in
            let g : length (said_by h) ≤ i = omega (arith, said_many) in
            ap (λ (j : ℕ). get_or h.entries j beyond) (sym f) ∙ sym (get_or-drop h.count h.entries (i - h.count) beyond)
            ∙ vacant_again (get_or (drop h.count h.entries) (i - h.count) beyond) (all_at unused_entry (drop h.count h.entries) (i - h.count) beyond k.spare (omega (arith, length-drop h.count h.entries, k.long)))
            ∙ vacant_entry ∙ ap entry_of (sym (get_or-eq_default (said_by h) nothing_said {n = i} g)))
      ]

-- ---- nothing held
blank : replicate limits.held vacant ≡ padded vacant limits.held (map entry_of [])
unfolding padded
blank = is_table (replicate limits.held vacant) limits.held (λ i. get_or (map entry_of []) i vacant) vacant (length-replicate limits.held vacant) (λ i p. get_or-replicate limits.held i vacant vacant p)

pub held_nothing : (A M : ℕ) (l : List Entry) → l ≡ replicate limits.held vacant → ◌≡◌ {A = Held} (record { assumptions = A; claims = M; count = 0; entries = l }) (held_of A M [])
unfolding held_of
held_nothing A M l e = ap (λ (k : List Entry). record { assumptions = A; claims = M; count = 0; entries = k }) (e ∙ blank)
