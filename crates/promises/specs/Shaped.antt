-- The right shape of a store, clause by clause as document 01 has it, over its places. Assumes nothing.
use Rattle.std.specs.Prelude.{true, List, ◌⊎◌, ◌≡◌, ◌*◌, ◌+◌, ◌<◌, ◌≤◌, ℕ, drop, get_or, length, take}
use Rattle.std.specs.Int.Count.{ones}
use Rattle.rules.specs.Held.{vacant}
use Rattle.rules.specs.declared.Entry.{Entry}
use Rattle.rules.specs.declared.Held.{Held}
use Rattle.stages.specs.declared.Lists.{Lists}
use Rattle.store.specs.declared.Store.{Store}
use Rattle.theory.specs.Limits.{limits}
use Rattle.theory.specs.Sets.{among}

-- ---- lists of sets

-- fewer assumptions first, and among equals the smaller number first
abbrev pub Precedes : ℕ → ℕ → Type 0
Precedes F E = (ones F < ones E) ⊎ ((ones F ≡ ones E) × (F < E))

-- every assumption of F is in E
abbrev pub Inside : ℕ → ℕ → Type 0
Inside F E = (k : ℕ) → among F k ≡ true → among E k ≡ true

-- a list in its places, count of them in use
pub record ListSays (A count : ℕ) (places : List ℕ) : Type 0 where
  pub few : count ≤ length places
  -- strictly in order, with no member inside another
  pub order : (i j : ℕ) → i < j → j < count → Precedes (get_or places i 0) (get_or places j 0)
  pub apart : (i j : ℕ) → i < j → j < count → (Inside (get_or places i 0) (get_or places j 0) → ⊥) × (Inside (get_or places j 0) (get_or places i 0) → ⊥)
  -- no assumption above A
  pub low : (i k : ℕ) → i < count → among (get_or places i 0) k ≡ true → k ≤ A
  -- unused places are zero
  pub spare : (i : ℕ) → count ≤ i → i < length places → get_or places i 0 ≡ 0

-- labels in their own twelve places; those of numbers above N are empty; the nogoods; the depth
pub record ListsSay (A N : ℕ) (l : Lists) : Type 0 where
  pub labels : (i : ℕ) → i < limits.numbers → ListSays A (get_or l.sizes i 0) (take limits.label (drop (limits.label * i) l.members))
  pub above : (i : ℕ) → N ≤ i → i < length l.sizes → get_or l.sizes i 0 ≡ 0
  pub nogoods : ListSays A l.count l.nogoods
  pub depth : l.depth ≤ limits.numbers + 1

-- ---- justifications

-- at the first place where they differ, l has the smaller number
pub record Earlier (l m : List ℕ) : Type 0 where
  pub place : ℕ
  pub inside : place < length l
  pub same : (q : ℕ) → q < place → get_or l q 0 ≡ get_or m q 0
  pub less : get_or l place 0 < get_or m place 0

-- by consequent, then by number of supports, then by the rising supports compared as lists
abbrev pub Ahead : Entry → Entry → Type 0
Ahead d e =
    (d.consequent < e.consequent)
    ⊎ ((d.consequent ≡ e.consequent)
    × ((d.count < e.count) ⊎ ((d.count ≡ e.count) × Earlier (take d.count d.supports) (take e.count e.supports))))

-- a place in use: in range; the supports strictly rising, never 0 and never the consequent; unused places zero
pub record EntrySays (N : ℕ) (e : Entry) : Type 0 where
  pub consequent : e.consequent ≤ N
  pub few : e.count ≤ limits.supports
  pub places : length e.supports ≡ limits.supports
  pub real : (p : ℕ) → p < e.count → (0 < get_or e.supports p 0) × (get_or e.supports p 0 ≤ N)
  pub rising : (p q : ℕ) → p < q → q < e.count → get_or e.supports p 0 < get_or e.supports q 0
  pub foreign : (p : ℕ) → p < e.count → get_or e.supports p 0 ≡ e.consequent → ⊥
  pub spare : (p : ℕ) → e.count ≤ p → p < limits.supports → get_or e.supports p 0 ≡ 0

-- counts within the limits, justifications in range and strictly in order, unused places zero
pub record HeldSays (h : Held) : Type 0 where
  pub assumptions : h.assumptions ≤ limits.assumptions
  pub claims : h.claims ≤ limits.claims
  pub count : h.count ≤ limits.held
  pub places : length h.entries ≡ limits.held
  pub used : (i : ℕ) → i < h.count → EntrySays (h.assumptions + h.claims) (get_or h.entries i vacant)
  pub order : (i j : ℕ) → i < j → j < h.count → Ahead (get_or h.entries i vacant) (get_or h.entries j vacant)
  pub spare : (i : ℕ) → h.count ≤ i → i < limits.held → get_or h.entries i vacant ≡ vacant

-- ---- the store

pub record ShapeSays (s : Store) : Type 0 where
  pub held : HeldSays s.held
  pub lists : ListsSay s.held.assumptions (s.held.assumptions + s.held.claims) s.lists
