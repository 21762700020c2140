-- The file while it is written, part by part, and what the call leaves. Assumes nothing.
use Rattle.std.proofs.Common.{List, [], ◌∷◌, ◌++◌, ◌≡◌, ◌∙◌, ℕ, ◌+◌, ◌<◌, ◌≤◌, true, ap, refl, sym, map, take, drop, get_or, length, arith}
use native.Mathlib.Numerals.{add-one}
use lib.ListN.{drop_of_length-le}
use lib.Seq.{drop-cons, length-take-le}
use Rattle.rules.proofs.Entries.{fits_elim as entry-elim}
use Rattle.rules.proofs.Scan.{right_elim}
use Rattle.rules.proofs.Steps.{all_at, beyond}
use Rattle.rules.specs.Held.{fitting, meaning}
use Rattle.rules.specs.declared.Entry.{Entry}
use Rattle.rules.specs.declared.Held.{Held}
use Rattle.shape.specs.Shape.{lists_right}
use Rattle.store.proofs.Shapes.{Fitting, fits_elim}
use Rattle.store.specs.Shape.{held_fits, right_shape, top}
use Rattle.store.specs.declared.Store.{Store}
use Rattle.theory.proofs.Lists.{and_left}
use Rattle.theory.specs.Limits.{limits}
use Rattle.theory.specs.Lists.{each}
use Rattle.writing.proofs.Back.{bytes_one, bytes_two, record_bytes}
use Rattle.writing.proofs.Files.{file_parts}
use Rattle.writing.specs.Writing.{bytes_of, file_of, record_for}

pub ruleset shortest = (bytes_one, bytes_two)

-- ---- what is made of each of a list from a place on

module _ {X : Type 0} (f : X → List ℕ) (l : List X) (i : ℕ) where
  turn : (z : X) → i < length l → each f (drop i l) ≡ f (get_or l i z) ++ each f (drop (i + 1) l)
  unfolding each
  turn z h = ap (each f) (drop-cons l i z h) ∙ ap (λ (j : ℕ). f (get_or l i z) ++ each f (drop j l)) (sym (add-one i))

  pub each_end : length l ≤ i → each f (drop i l) ≡ []
  unfolding each
  each_end h = ap (each f) (drop_of_length-le l {i = i} h)

pub numbers_turn : (l : List ℕ) (i : ℕ) → i < length l → each bytes_of (drop i l) ≡ bytes_of (get_or l i 0) ++ each bytes_of (drop (i + 1) l)
numbers_turn l i h = turn bytes_of l i 0 h

pub ruleset numbers = (numbers_turn, each_end)

-- ---- a record

-- what a place gives the file
abbrev pub entry_bytes : Entry → List ℕ
entry_bytes e = record_bytes (meaning e)

-- two numbers, then the supports
pub entry_parts : (e : Entry) → e.count ≤ length e.supports → each bytes_of (record_for (meaning e)) ≡ bytes_of e.consequent ++ (bytes_of e.count ++ each bytes_of (take e.count e.supports))
unfolding record_for each
entry_parts e h = ap (λ (n : ℕ). bytes_of e.consequent ++ (bytes_of n ++ each bytes_of (take e.count e.supports))) (length-take-le e.count e.supports h)

-- ---- the records

pub entries_turn : (l : List Entry) (i : ℕ) → i < length l → each entry_bytes (drop i l) ≡ entry_bytes (get_or l i beyond) ++ each entry_bytes (drop (i + 1) l)
entries_turn l i h = turn entry_bytes l i beyond h

each_mapped : (l : List Entry) → each record_bytes (map meaning l) ≡ each entry_bytes l
unfolding each
each_mapped [] = refl
each_mapped (e ∷ l) = ap (λ (r : List ℕ). entry_bytes e ++ r) (each_mapped l)

-- three counts, then the records
pub held_parts : (h : Held) → file_of h ≡ bytes_of h.assumptions ++ (bytes_of h.claims ++ (bytes_of h.count ++ each entry_bytes (take h.count h.entries)))
held_parts h = file_parts h ∙ ap (λ (r : List ℕ). bytes_of h.assumptions ++ (bytes_of h.claims ++ (bytes_of h.count ++ r))) (each_mapped (take h.count h.entries))

pub record Counts (h : Held) : Type 0 where
  pub assumptions : h.assumptions ≤ limits.assumptions
  pub claims : h.claims ≤ limits.claims
  pub count : h.count ≤ limits.held

module _ (h : Held) (fits : held_fits h ≡ true) where
  fine : Fitting h
  fine = fits_elim h fits

  pub counts : Counts h
  counts = record { assumptions = fine.few; claims = fine.claims; count = (right_elim h fine.right).few }

  -- each place in use: its consequent and its count of supports are low
  pub held_entry : (j : ℕ) → j < length (take h.count h.entries) → let e : Entry = get_or (take h.count h.entries) j beyond in (e.consequent ≤ limits.numbers) × (e.count ≤ limits.supports)
  held_entry j q =
      let N : ℕ = h.assumptions + h.claims in
      let e = entry-elim N (get_or (take h.count h.entries) j beyond) (all_at (fitting N) (take h.count h.entries) j beyond (right_elim h fine.right).fits q) in
      (omega (arith, e.low, fine.few, fine.claims), e.few)

pub ruleset records = (held_parts, counts, held_entry, entries_turn, each_end)

-- ---- the call

pub shape_fits : (s : Store) → right_shape s ≡ true → held_fits s.held ≡ true
unfolding right_shape
shape_fits s t = and_left (held_fits s.held) (lists_right s.lists s.held.assumptions (top s.held)) t
