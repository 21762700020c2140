-- The file of what is held: it spells what is held, loading it gives the store of what is held, and it tells two such apart. Assumes nothing.
use mathlib.Core.Bool.{◌&&◌, true}
use mathlib.Core.List.Memᴰ
use mathlib.Core.List.Memᴰ.{head as here}
use mathlib.Core.List.Memᴰ.{tail as there}
use mathlib.Core.List.{List, Memᴰ as Mem, [], ◌++◌, ◌∷◌, map}
use mathlib.Core.Logic.{◌↔◌, ⊎_elim}
use mathlib.Core.Path.{◌∙◌, ◌≡◌, ap, ap₂, refl, subst, sym}
use Prim.Native.Nat.{◌*◌, ◌+◌, ◌<◌, ◌≤◌, ℕ}
use native.Mathlib.Omega.{arith}
use lib.Dec.{eqb, leb, ltb}
use lib.ListN.{length, length-append, length-map}
use borrow.Author.Tests.{eq-eqb, ltb-false, ltb-true}
use Rattle.casefile.proofs.Gathering.{meant}
use Rattle.casefile.proofs.Loading.{load_store}
use Rattle.casefile.proofs.Whole.{Sound, case_sure, held_item, held_only}
use Rattle.casefile.specs.Case.{Case, Reading, case_after, case_of, case_with, gathered, held_by, refused, whole}
use Rattle.casefile.specs.Load.{load_of, recorded}
use Rattle.items.specs.Items.{Item, header_from}
use Rattle.replies.specs.declared.Reply.TheVariants.{Done}
use Rattle.rules.proofs.Entries.{said_many}
use Rattle.rules.proofs.Laws.{Ranged, climbs_between, right_held, right_range}
use Rattle.rules.proofs.Order.{ordered_unique}
use Rattle.rules.proofs.Scan.{right_elim}
use Rattle.rules.specs.Held.{climbs, held_of, ordered, said_by}
use Rattle.rules.specs.Items.{fault_of}
use Rattle.rules.specs.declared.Held.{Held}
use Rattle.store.proofs.Shapes.{Fitting, fits_elim}
use Rattle.store.specs.Calls.{answer, no_store, store_of}
use Rattle.store.specs.Shape.{held_fits}
use Rattle.store.specs.declared.Store.{Store}
use Rattle.theory.proofs.Lists.{and_right, clash, either, some_intro}
use Rattle.theory.specs.Limits.{limits}
use Rattle.theory.specs.Lists.{each}
use Rattle.theory.specs.Stages.{Justification}
use Rattle.writing.proofs.Back.{bytes_length, bytes_short, each_each, header_back, item_for, ranged_faultless, record_bytes, records_back}
use Rattle.writing.proofs.Sets.{rising_set}
use Rattle.writing.specs.Writing.{bytes_of, file_of, numbers_for, record_for}

-- ---- what is read of justifications in range and in order

mem_items : {j : Justification} {J : List Justification} → Mem j J → Mem (item_for j) (map item_for J)
mem_items (here e) = here (ap item_for e)
mem_items (there m) = there (mem_items m)

items_mem : {i : Item} (J : List Justification) → Mem i (map item_for J) → (j : Justification) × Mem j J × (i ≡ item_for j)
items_mem [] m = elim m [ ]
items_mem (j ∷ J) m = ⊎_elim (λ e. (j, here refl, e)) (λ n. let r = items_mem J n in (r.0, there r.1, r.2)) (Memᴰ.cases_cons m)

-- an item in range means the justification that it was made of
meant_back : (N : ℕ) (j : Justification) → Ranged N j → meant N (item_for j) ≡ j
meant_back N j r = ap (λ (l : List ℕ). record { consequent = j.consequent; supports = l }) (rising_set N j.supports r.rising)

-- the case of J, with A assumptions and M claims
abbrev pub case_for : ℕ → ℕ → List Justification → Case
case_for A M J = record { header = record { assumptions = A; claims = M; records = length J }; items = map item_for J }

module _ (A M : ℕ) (J : List Justification) (few : A ≤ limits.assumptions) (claims : M ≤ limits.claims) (room : length J ≤ limits.held) (ranged : (j : Justification) → Mem j J → Ranged (A + M) j) where
  pub case_fine : Sound (case_for A M J)
  case_fine = record {
    limited = record { assumptions = few; claims = claims; records = room };
    many = length-map J item_for;
    faultless = λ i m. let w = items_mem J m in subst (λ (x : Item). fault_of (A + M) x.consequent x.supports ≡ Done) (sym w.2) (ranged_faultless (A + M) w.0 (ranged w.0 w.1));
  }

  -- what is held of its items is J
  pub gathered_ordered : ordered J ≡ true → gathered (A + M) [] (map item_for J) ≡ J
  unfolding held_of
  gathered_ordered o =
      let c : Case = case_for A M J in
      let sure = case_sure c case_fine in
      ordered_unique (held_by c) J (ap ordered (sym sure.said) ∙ (right_elim (held_of A M (held_by c)) sure.right).order) o
      (λ j m.
      let r = held_only c case_fine m in
      let w = items_mem J r.1 in
      subst (λ (x : Justification). Mem x J) (sym (r.2 ∙ ap (meant (A + M)) w.2 ∙ meant_back (A + M) w.0 (ranged w.0 w.1))) w.1)
      (λ j m. subst (λ (x : Justification). Mem x (held_by c)) (meant_back (A + M) j (ranged j m)) (held_item c case_fine (mem_items m)))

-- ---- the file of what is held in its right shape

-- the header, then the records
-- ---- how long a record is

numbers_short : (l : List ℕ) → ((x : ℕ) → Mem x l → x < 128) → length (each bytes_of l) ≡ length l
unfolding each
numbers_short [] f = refl
numbers_short (x ∷ l) f = omega (arith, bytes_short x (f x (here refl)), length-append (bytes_of x) (each bytes_of l), numbers_short l (λ y m. f y (there m)))

-- of rising numbers up to 128 at most one takes two bytes
numbers_rise : (N p : ℕ) (l : List ℕ) → N ≤ limits.numbers → climbs N p l ≡ true → length (each bytes_of l) ≤ length l + 1
unfolding each climbs
numbers_rise N p [] n h = omega arith
numbers_rise N p (x ∷ l) n h =
    let rest : climbs N x l ≡ true = and_right (leb x N) (climbs N x l) (and_right (ltb p x) (leb x N && climbs N x l) h) in
    let whole : length (bytes_of x ++ each bytes_of l) ≡ length (bytes_of x) + length (each bytes_of l) = length-append (bytes_of x) (each bytes_of l) in
    ⊎_elim (λ t. omega (arith, whole, bytes_short x (ltb-true x 128 t), numbers_rise N x l n rest))
    (λ t. omega (arith, whole, bytes_length x, numbers_short l (λ y m. let b = climbs_between N x l rest y m in absurd (omega (arith, b.0, b.1, ltb-false x 128 t)))))
    (either (ltb x 128))

-- a consequent 128 is not among its supports
record_length : (N : ℕ) (j : Justification) → N ≤ limits.numbers → Ranged N j → length (record_bytes j) ≤ limits.supports + 3
unfolding record_for each
record_length N j n r =
    let c : ℕ = j.consequent in
    let s : List ℕ = j.supports in
    let first : length (bytes_of c ++ (bytes_of (length s) ++ each bytes_of s)) ≡ length (bytes_of c) + length (bytes_of (length s) ++ each bytes_of s) = length-append (bytes_of c) (bytes_of (length s) ++ each bytes_of s) in
    let second : length (bytes_of (length s) ++ each bytes_of s) ≡ length (bytes_of (length s)) + length (each bytes_of s) = length-append (bytes_of (length s)) (each bytes_of s) in
    let one : length (bytes_of (length s)) ≡ 1 = bytes_short (length s) (omega (arith, r.few)) in
    let other : 128 ≤ c → (x : ℕ) → Mem x s → x < 128 = λ t x m. ⊎_elim (λ q. ltb-true x 128 q) (λ q. let e : c ≡ x = omega (arith, (r.between x m).1, r.low, ltb-false x 128 q) in absurd (clash (some_intro (eqb c) m (eq-eqb c x e)) r.foreign)) (either (ltb x 128)) in
    ⊎_elim (λ t. omega (arith, first, second, one, bytes_short c (ltb-true c 128 t), numbers_rise N 0 s n r.rising, r.few))
    (λ t. omega (arith, first, second, one, bytes_length c, numbers_short s (other (ltb-false c 128 t)), r.few))
    (either (ltb c 128))

-- ---- the file

pub file_parts : (h : Held) → file_of h ≡ bytes_of h.assumptions ++ (bytes_of h.claims ++ (bytes_of h.count ++ each record_bytes (said_by h)))
unfolding file_of numbers_for each
file_parts h = ap (λ (l : List ℕ). bytes_of h.assumptions ++ (bytes_of h.claims ++ (bytes_of h.count ++ l))) (each_each bytes_of record_for (said_by h))

module _ (h : Held) (fits : held_fits h ≡ true) where
  abbrev A : ℕ
  A = h.assumptions

  abbrev M : ℕ
  M = h.claims

  fine : Fitting h
  fine = fits_elim h fits

  few : h.count ≤ limits.held
  few = (right_elim h fine.right).few

  many : length (said_by h) ≡ h.count
  many = said_many h fine.right

  ranged : (j : Justification) → Mem j (said_by h) → Ranged (A + M) j
  ranged = right_range h fine.right

  -- it spells what is held
  pub file_spells : case_of (file_of h) ≡ whole (case_for A M (said_by h))
  unfolding case_of
  file_spells =
      let J : List Justification = said_by h in
      let a : A ≤ limits.assumptions = fine.few in
      let m : M ≤ limits.claims = fine.claims in
      let e : file_of h ≡ bytes_of A ++ (bytes_of M ++ (bytes_of (length J) ++ each record_bytes J)) = file_parts h ∙ ap (λ (n : ℕ). bytes_of A ++ (bytes_of M ++ (bytes_of n ++ each record_bytes J))) (sym many) in
      ap (λ (l : List ℕ). case_after (header_from l)) e
      ∙ ap case_after (header_back A M (length J) (each record_bytes J) a m (omega (arith, few, many)))
      ∙ ap (case_with (record { assumptions = A; claims = M; records = length J })) (records_back (A + M) 0 J (omega arith) ranged)

  pub file_held : held_by (case_for A M (said_by h)) ≡ said_by h
  file_held = gathered_ordered A M (said_by h) fine.few fine.claims (omega (arith, few, many)) ranged (right_elim h fine.right).order

  -- loading it gives the store of what is held, judged once, and the count of those held
  pub file_loads : load_of (file_of h) ≡ recorded h.count (store_of no_store A M (said_by h))
  file_loads = load_store (file_of h) (case_for A M (said_by h)) file_spells ∙ ap₂ (λ (n : ℕ) (J : List Justification). recorded n (store_of no_store A M J)) many file_held

  -- .. so the store itself, where it is that
  pub file_back : (s : Store) → store_of no_store A M (said_by h) ≡ answer Done s → load_of (file_of h) ≡ record { reply = Done; «record» = h.count; store = s }
  file_back s e = file_loads ∙ ap (recorded h.count) e

  -- ---- how long it is

  low : A + M ≤ limits.numbers
  low = omega (arith, fine.few, fine.claims)

  records_length : (J : List Justification) → ((j : Justification) → Mem j J → Ranged (A + M) j) → length (each record_bytes J) ≤ (limits.supports + 3) * length J
  unfolding each
  records_length [] f = omega arith
  records_length (j ∷ J) f = omega (arith, record_length (A + M) j low (f j (here refl)), length-append (record_bytes j) (each record_bytes J), records_length J (λ i m. f i (there m)))

  -- 4 bytes before the records, a full store of records, each of its supports and 3
  pub file_length : length (file_of h) ≤ limits.held * (limits.supports + 3) + 4
  file_length =
      let R : List ℕ = each record_bytes (said_by h) in
      omega (
        arith,
        ap length (file_parts h),
        length-append (bytes_of A) (bytes_of M ++ (bytes_of h.count ++ R)),
        length-append (bytes_of M) (bytes_of h.count ++ R),
        length-append (bytes_of h.count) R,
        bytes_short A (omega (arith, fine.few)),
        bytes_short M (omega (arith, fine.claims)),
        bytes_length h.count,
        records_length (said_by h) ranged,
        many,
        few,
      )

-- ---- two files

-- what a case holds
abbrev holding : Reading Case → List Justification
holding (whole c) = held_by c
holding (refused f r) = []

module _ (h k : Held) (fits : held_fits h ≡ true) (fits' : held_fits k ≡ true) where
  -- the same bytes say the same
  pub file_said : file_of h ≡ file_of k → said_by h ≡ said_by k
  file_said e = sym (file_held h fits) ∙ ap holding (sym (file_spells h fits) ∙ ap case_of e ∙ file_spells k fits') ∙ file_held k fits'

  abbrev same : List Justification → List Justification → Type 0
  same H K = (j : Justification) → Mem j H ↔ Mem j K

  -- what is said, with A and M, is all that is written
  file_alone : h.assumptions ≡ k.assumptions → h.claims ≡ k.claims → said_by h ≡ said_by k → file_of h ≡ file_of k
  unfolding file_of numbers_for
  file_alone a m q =
      let n : h.count ≡ k.count = sym (said_many h (fits_elim h fits).right) ∙ ap length q ∙ said_many k (fits_elim k fits').right in
      ap₂ (λ (x y : ℕ). each bytes_of (x ∷ y ∷ h.count ∷ each record_for (said_by h))) a m ∙ ap₂ (λ (x : ℕ) (J : List Justification). each bytes_of (k.assumptions ∷ k.claims ∷ x ∷ each record_for J)) n q

  -- with the same counts of assumptions and claims: the same bytes exactly when the same justifications are held
  pub tells_apart : h.assumptions ≡ k.assumptions → h.claims ≡ k.claims → (file_of h ≡ file_of k) ↔ same (said_by h) (said_by k)
  tells_apart a m = (
    λ e j. let q : said_by h ≡ said_by k = file_said e in (λ n. subst (Mem j) q n, λ n. subst (Mem j) (sym q) n),
    λ f. file_alone a m (ordered_unique (said_by h) (said_by k) (right_elim h (fits_elim h fits).right).order (right_elim k (fits_elim k fits').right).order (λ j n. (f j).0 n) (λ j n. (f j).1 n)),
  )

-- what a case says of its counts
abbrev counts : Reading Case → ℕ × ℕ
counts (whole c) = (c.header.assumptions, c.header.claims)
counts (refused f r) = (0, 0)

-- the bytes tell all that is held, A and M too
pub file_one : (h k : Held) → held_fits h ≡ true → held_fits k ≡ true → file_of h ≡ file_of k → h ≡ k
file_one h k p q e =
    let n : ◌≡◌ {A = ℕ × ℕ} (h.assumptions, h.claims) (k.assumptions, k.claims) = ap counts (sym (file_spells h p) ∙ ap case_of e ∙ file_spells k q) in
    right_held h (fits_elim h p).right
    ∙ ap₂ (λ (A M : ℕ). held_of A M (said_by h)) (ap (λ (x : ℕ × ℕ). x.0) n) (ap (λ (x : ℕ × ℕ). x.1) n)
    ∙ ap (held_of k.assumptions k.claims) (file_said h k p q e)
    ∙ sym (right_held k (fits_elim k q).right)
