-- Places moved down by one after the one taken out, and what is then held. Assumes nothing.
use mathlib.Core.Bool.{Bool, true}
use mathlib.Core.List.{List, Memᴰ as Mem, [], ◌∷◌, map}
use mathlib.Core.Logic.{⊎_elim}
use mathlib.Core.Path.{◌∙◌, ◌≡◌, ap, ap₂, refl, sym}
use Prim.Native.Nat.{◌+◌, ◌-◌, ◌<◌, ◌≤◌, suc, zero, ℕ}
use native.Mathlib.Decide.{dec_lt}
use native.Mathlib.Nat.{eq-or-lt_of_le, le_of_suc-le-suc, not-suc-le-zero}
use native.Mathlib.Omega.{arith}
use lib.Dec.{ltb}
use lib.ListN.{get_or-eq_default, get_or, length, length-set, set}
use lib.Seq.{get_or-set_other, get_or-set_same}
use borrow.Author.Tests.{le-ltb, lt-ltb}
use Rattle.holding.proofs.Dropping.{dropped_at, dropped_length, place_among}
use Rattle.holding.specs.Placing.{place_of, remove_at, with_entries}
use Rattle.rules.proofs.Entries.{entry_at, nothing_said, places, said_many, vacant_entry}
use Rattle.rules.proofs.Order.{same_mem}
use Rattle.rules.proofs.Scan.{right_elim}
use Rattle.rules.proofs.Steps.{beyond}
use Rattle.rules.specs.Held.{dropped, entry_of, held_of, held_right, meaning, said_by, vacant}
use Rattle.rules.specs.Items.{same_justification}
use Rattle.rules.specs.declared.Entry.{Entry}
use Rattle.rules.specs.declared.Held.{Held}
use Rattle.theory.proofs.Places.{get_d_table, is_table, length_table}
use Rattle.theory.specs.Limits.{limits}
use Rattle.theory.specs.Lists.{choose, some_of}
use Rattle.theory.specs.Places.{padded, table}
use Rattle.theory.specs.Stages.{Justification}

-- what is read inside a list is no default
inside_any : {X : Type 0} (l : List X) (i : ℕ) (y z : X) → i < length l → get_or l i y ≡ get_or l i z
inside_any [] i y z h = absurd (not-suc-le-zero h)
inside_any (x ∷ l) zero y z h = refl
inside_any (x ∷ l) (suc i) y z h = inside_any l i y z (le_of_suc-le-suc h)

-- ---- places moved down by one, from `at` up to place i
pub record Closing (l m : List Entry) (at i : ℕ) : Type 0 where
  pub long : length m ≡ length l
  pub low : (k : ℕ) → k < at → get_or m k beyond ≡ get_or l k beyond
  pub closed : (k : ℕ) → at ≤ k → k < i → get_or m k beyond ≡ get_or l (k + 1) beyond
  pub high : (k : ℕ) → i ≤ k → get_or m k beyond ≡ get_or l k beyond

pub close_none : (l : List Entry) (at : ℕ) → Closing l l at at
close_none l at = record { long = refl; low = λ k h. refl; closed = λ k p q. absurd (omega arith); high = λ k h. refl }

pub close_more : (l m : List Entry) (at i : ℕ) → at ≤ i → i < length l → Closing l m at i → Closing l (set m i (get_or m (i + 1) beyond)) at (i + 1)
close_more l m at i p q s = record {
  long = length-set m i (get_or m (i + 1) beyond) ∙ s.long;
  low = λ k h. get_or-set_other m i k (get_or m (i + 1) beyond) beyond (λ e. omega arith) ∙ s.low k h;
  closed = λ k h j. ⊎_elim
      (λ (e : k ≡ i).
      ap (λ (x : ℕ). get_or (set m i (get_or m (i + 1) beyond)) x beyond) e ∙ get_or-set_same m i (get_or m (i + 1) beyond) beyond (omega (arith, s.long)) ∙ s.high (i + 1) (omega arith) ∙ ap (λ (x : ℕ). get_or l (x + 1) beyond) (sym e))
      (λ (o : k < i). get_or-set_other m i k (get_or m (i + 1) beyond) beyond (λ e. omega arith) ∙ s.closed k h o)
      (eq-or-lt_of_le (up k i j));
  high = λ k h. get_or-set_other m i k (get_or m (i + 1) beyond) beyond (λ e. omega arith) ∙ s.high k (omega arith);
}
  where
    up : (k i : ℕ) → k < i + 1 → k ≤ i
    up k i j = omega arith

-- the last place then made vacant, where all after it are
module _ (l m : List Entry) (at last : ℕ) (p : at ≤ last) (q : last < length l) (s : Closing l m at last) (spare : (k : ℕ) → last < k → k < length l → get_or l k beyond ≡ vacant) where
  after : (k : ℕ) → last < k → get_or l k vacant ≡ vacant
  after k h = elim (dec_lt k (length l)) [
    | yes i ↦ inside_any l k vacant beyond i ∙ spare k h i
    | no i ↦ get_or-eq_default l vacant {n = k} (omega arith)
  ]

  abbrev taken : ℕ → Entry
  taken k = get_or l (choose (ltb k at) k (suc k)) vacant

  later : (k : ℕ) → at ≤ k → get_or l (suc k) vacant ≡ taken k
  later k h = ap (λ (b : Bool). get_or l (choose b k (suc k)) vacant) (sym (le-ltb k at h))

  pub close_end : set m last vacant ≡ remove_at l at
  unfolding remove_at
  close_end =
      is_table (set m last vacant) (length l) taken beyond (length-set m last vacant ∙ s.long)
      (λ k h. elim (dec_lt k at) [
        | yes a ↦ get_or-set_other m last k vacant beyond (λ e. omega arith) ∙ s.low k a ∙ inside_any l k beyond vacant h ∙ ap (λ (b : Bool). get_or l (choose b k (suc k)) vacant) (sym (lt-ltb k at a))
        | no a ↦ elim (dec_lt k last) [
          | yes b ↦ (let e : k + 1 ≡ suc k = omega arith in
              get_or-set_other m last k vacant beyond (λ e. omega arith) ∙ s.closed k (omega arith) b ∙ inside_any l (k + 1) beyond vacant (omega arith) ∙ ap (λ (x : ℕ). get_or l x vacant) e ∙ later k (omega arith))
          | no b ↦ ⊎_elim
              (λ (e : last ≡ k). ap (λ (x : ℕ). get_or (set m last vacant) x beyond) (sym e) ∙ get_or-set_same m last vacant beyond (omega (arith, s.long)) ∙ sym (after (suc k) (omega arith)) ∙ later k (omega arith))
              (λ (o : last < k). get_or-set_other m last k vacant beyond (λ e. omega arith) ∙ s.high k (omega arith) ∙ spare k o h ∙ sym (after (suc k) (omega arith)) ∙ later k (omega arith))
              (eq-or-lt_of_le (not_lt last k b))
        ]
      ])
    where
      not_lt : (a k : ℕ) → (k < a → ⊥) → a ≤ k
      not_lt a k f = omega arith

-- ---- what is held
module _ (h : Held) (right : held_right h ≡ true) where
  abbrev J : List Justification
  J = said_by h

  -- a place not in use
  pub right_vacant : (k : ℕ) → h.count ≤ k → k < limits.held → get_or h.entries k beyond ≡ vacant
  right_vacant k p q = places h right k q ∙ ap entry_of (get_or-eq_default J nothing_said {n = k} (omega (arith, said_many h right))) ∙ sym vacant_entry

  -- each place, and after the last
  every : (i : ℕ) → get_or h.entries i vacant ≡ entry_of (get_or J i nothing_said)
  every i = elim (dec_lt i limits.held) [
    | yes p ↦ inside_any h.entries i vacant beyond (omega (arith, (right_elim h right).long)) ∙ places h right i p
    | no p ↦ get_or-eq_default h.entries vacant {n = i} (omega (arith, (right_elim h right).long)) ∙ vacant_entry
        ∙ ap entry_of (sym (get_or-eq_default J nothing_said {n = i} (omega (arith, said_many h right, (right_elim h right).few))))
  ]

  module _ (e : Entry) (held : some_of (same_justification (meaning e)) J ≡ true) (a : ℕ) (so : a ≡ place_of (meaning e) J) where
    abbrev r : Justification
    r = meaning e

    among : Mem r J
    among = same_mem r J held

    pub remove_inside : a < h.count
    remove_inside = omega (arith, place_among r J (right_elim h right).order among, said_many h right)

    at : (i : ℕ) → get_or h.entries (choose (ltb i a) i (suc i)) vacant ≡ entry_of (get_or (dropped r J) i nothing_said)
    at i =
        every (choose (ltb i a) i (suc i)) ∙ ap (λ (x : ℕ). entry_of (get_or J (choose (ltb i x) i (suc i)) nothing_said)) so
        ∙ ap entry_of (dropped_at r J (right_elim h right).order among i nothing_said)

    removed : remove_at h.entries a ≡ padded vacant limits.held (map entry_of (dropped r J))
    unfolding padded remove_at
    removed =
        let n : ℕ = length h.entries in
        let f : ℕ → Entry = λ i. get_or h.entries (choose (ltb i a) i (suc i)) vacant in
        is_table (table n f) limits.held (λ i. get_or (map entry_of (dropped r J)) i vacant) beyond (length_table n f ∙ (right_elim h right).long)
        (λ i p. get_d_table n f i beyond (omega (arith, (right_elim h right).long)) ∙ at i ∙ sym (entry_at (dropped r J) i))

    pub removed_held : (k : Held) → k ≡ with_entries h (h.count - 1) (remove_at h.entries a) → k ≡ held_of h.assumptions h.claims (dropped r J)
    unfolding held_of
    removed_held k q =
        let n : h.count - 1 ≡ length (dropped r J) = omega (arith, dropped_length r J (right_elim h right).order among, said_many h right) in
        q ∙ ap₂ (λ (n : ℕ) (l : List Entry). with_entries h n l) n removed
