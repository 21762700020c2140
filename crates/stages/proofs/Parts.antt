-- The justifications of one number stand together among those held, and the tally says where. Assumes nothing.
use mathlib.Core.Bool.{Bool, false, true}
use mathlib.Core.List.Memᴰ.{head as here}
use mathlib.Core.List.Memᴰ.{tail as there}
use mathlib.Core.List.{List, Memᴰ as Mem, [], ◌++◌, ◌∷◌, map}
use mathlib.Core.Logic.{⊎_elim}
use mathlib.Core.Path.{◌∙◌, ◌≡◌, ap, ap₂, refl, subst, sym}
use Prim.Native.Nat.{◌+◌, ◌-◌, ◌<◌, ◌≤◌, suc, zero, ℕ}
use native.Mathlib.Decide.{dec_lt}
use native.Mathlib.Numerals.{add-one}
use native.Mathlib.Omega.{arith}
use lib.Dec.{eqb, ltb}
use lib.ListN.{get_or-map, drop, drop_of_length-le, get_or, get_or-replicate, length, length-drop, length-map, length-take, replicate, set, take}
use lib.Seq.{drop-cons, ext_get_or, get_or-drop, get_or-set_other, get_or-set_same, get_or-take, length-take-le}
use borrow.Author.Tests.{eq-eqb, eqb-false, eqb-true, le-ltb, lt-ltb, ltb-true, ne_eqb}
use Rattle.joining.specs.Layout.{Ranged}
use Rattle.labels.proofs.Ranges.{held_few, held_joinable, held_low, held_ranged, joinable_part}
use Rattle.labels.specs.Entries.{Few, Joinable, between}
use Rattle.rules.proofs.Order.{ordered_head, ordered_tail}
use Rattle.rules.proofs.Scan.{right_elim, right_inside, said_length}
use Rattle.rules.specs.Held.{meaning, ordered, said_by, top, vacant}
use Rattle.rules.specs.declared.Entry.{Entry}
use Rattle.rules.specs.declared.Held.{Held}
use Rattle.stages.specs.Judged.{Judgeable}
use Rattle.stages.specs.Steps.{many_of, tallied}
use Rattle.theory.proofs.Lists.{and_left, either, or_cases}
use Rattle.theory.proofs.Places.{get_d_table, is_table}
use Rattle.theory.specs.Limits.{limits}
use Rattle.theory.specs.Lists.{each, keep, those}
use Rattle.theory.specs.Stages.{Justification, ahead}
use Rattle.theory.specs.Step.{candidates, joins, joins_for}

-- how many are of numbers below n
abbrev pub below : List Justification → ℕ → ℕ
below J n = length (those (λ j. ltb j.consequent n) J)

-- ---- those that pass a test
those_none : (p : Justification → Bool) (l : List Justification) → ((x : Justification) → Mem x l → p x ≡ false) → those p l ≡ []
unfolding those
those_none p [] f = refl
those_none p (x ∷ l) f = rw (f x (here refl)) (those_none p l (λ y m. f y (there m)))

those_few : (p : Justification → Bool) (l : List Justification) → length (those p l) ≤ length l
unfolding those
those_few p [] = omega arith
those_few p (x ∷ l) = go (p x) (those_few p l)
  where
    go : (b : Bool) → length (those p l) ≤ length l → length (keep b x (those p l)) ≤ suc (length l)
    go true h = omega arith
    go false h = omega arith

those_twice : (p : Justification → Bool) (l : List Justification) → those p (those p l) ≡ those p l
unfolding those
those_twice p [] = refl
those_twice p (x ∷ l) = go (p x) refl (those_twice p l)
  where
    go : (b : Bool) → p x ≡ b → those p (those p l) ≡ those p l → those p (keep b x (those p l)) ≡ keep b x (those p l)
    go true e h = rw e (ap (λ (m : List Justification). x ∷ m) h)
    go false e h = h

-- ---- the order goes by the consequents
ahead_rises : (i j : Justification) → ahead i j ≡ true → i.consequent ≤ j.consequent
unfolding ahead
ahead_rises i j h =
    ⊎_elim (λ a. omega (arith, ltb-true i.consequent j.consequent a)) (λ b. omega (arith, eqb-true i.consequent j.consequent (and_left (eqb i.consequent j.consequent) _ b)))
    (or_cases (ltb i.consequent j.consequent) _ h)

-- those of n, from the place where those of numbers below n end
stand : (J : List Justification) (n : ℕ) → ordered J ≡ true → take (many_of J n) (drop (below J n) J) ≡ those (λ j. eqb j.consequent n) J
unfolding those
stand [] n o = refl
stand (r ∷ l) n o =
    let t : ordered l ≡ true = ordered_tail r l o in
    let s : take (many_of l n) (drop (below l n) l) ≡ those (λ j. eqb j.consequent n) l = stand l n t in
    elim (dec_lt r.consequent n) [
      | yes a ↦ rw (lt-ltb r.consequent n a, ne_eqb r.consequent n (λ e. omega arith)) s
      | no a ↦ elim (dec_lt n r.consequent) [
        | yes b ↦ (let z : those (λ j. eqb j.consequent n) l ≡ [] =
            those_none (λ j. eqb j.consequent n) l (λ x m. ne_eqb x.consequent n (λ e. omega (arith, ahead_rises r x (ordered_head r l o x m)))) in
            rw (ne_eqb r.consequent n (λ e. omega arith), z) refl)
        | no b ↦ (let z : those (λ j. ltb j.consequent n) l ≡ [] =
            those_none (λ j. ltb j.consequent n) l (λ x m. le-ltb x.consequent n (omega (arith, ahead_rises r x (ordered_head r l o x m)))) in
            let e : r.consequent ≡ n = omega arith in
            rw (le-ltb r.consequent n (omega arith), eq-eqb r.consequent n e, z)
            (ap (λ (m : List Justification). r ∷ m) (ap (λ (m : List Justification). take (many_of l n) (drop (length m) l)) (sym z) ∙ s)))
      ]
    ]

below_none : (J : List Justification) → below J 0 ≡ 0
below_none J = ap length (those_none (λ j. ltb j.consequent 0) J (λ x m. le-ltb x.consequent 0 (omega arith)))

below_more : (J : List Justification) (n : ℕ) → below J (n + 1) ≡ below J n + many_of J n
unfolding those
below_more [] n = refl
below_more (r ∷ l) n = elim (dec_lt r.consequent n) [
  | yes a ↦ rw (lt-ltb r.consequent n a, lt-ltb r.consequent (n + 1) (omega arith), ne_eqb r.consequent n (λ e. omega arith)) (let i = below_more l n in omega arith)
  | no a ↦ elim (dec_lt n r.consequent) [
    | yes b ↦ rw (le-ltb r.consequent n (omega arith), le-ltb r.consequent (n + 1) (omega arith), ne_eqb r.consequent n (λ e. omega arith)) (below_more l n)
    | no b ↦ rw (le-ltb r.consequent n (omega arith), lt-ltb r.consequent (n + 1) (omega arith), eq-eqb r.consequent n (omega arith)) (let i = below_more l n in omega arith)
  ]
]

-- ---- what is held, from one place to another
said_part : (entries : List Entry) (count lo k : ℕ) → lo + k ≤ count → count ≤ length entries → map meaning (take k (drop lo entries)) ≡ take k (drop lo (map meaning (take count entries)))
said_part entries count lo k h f =
    let J : List Justification = map meaning (take count entries) in
    let part : List Entry = take k (drop lo entries) in
    let a : length (map meaning part) ≡ k = length-map part meaning ∙ omega (arith, length-take k (drop lo entries), length-drop lo entries) in
    let b : length (take k (drop lo J)) ≡ k = omega (arith, length-take k (drop lo J), length-drop lo J, said_length entries count f) in
    ext_get_or (meaning vacant) (map meaning part) (take k (drop lo J)) (a ∙ sym b) (λ i p.
    let q : i < k = omega arith in
    get_or-map meaning part i vacant ∙ ap meaning (get_or-take k (drop lo entries) i vacant q ∙ get_or-drop lo entries i vacant ∙ sym (get_or-take count entries (lo + i) vacant (omega arith)))
    ∙ sym (get_or-map meaning (take count entries) (lo + i) vacant) ∙ sym (get_or-take k (drop lo J) i (meaning vacant) q ∙ get_or-drop lo J i (meaning vacant)))

module _ (h : Held) (ok : Judgeable limits.assumptions h) where
  abbrev J : List Justification
  J = said_by h

  -- a label for every number
  pub wide : top h ≤ limits.numbers
  wide = ok.numbers

  -- each part is fit for joins
  pub part_joinable : (lo hi : ℕ) → hi ≤ h.count → Joinable (between h.entries lo hi)
  part_joinable lo hi p = joinable_part h.entries h.count lo hi p (held_joinable h ok.right wide)

  -- each that is held
  module _ (j : ℕ) (z : Entry) (low : j < h.count) where
    placed_at : get_or (take h.count h.entries) j z ≡ get_or h.entries j z
    placed_at = get_or-take h.count h.entries j z low

    pub entry_few : Few (get_or (take h.count h.entries) j z)
    entry_few = subst Few (sym placed_at) (held_few h ok.right wide j z low)

    pub entry_ranged : Ranged (meaning (get_or (take h.count h.entries) j z)).supports
    entry_ranged = subst (λ (e : Entry). Ranged (meaning e).supports) (sym placed_at) (held_ranged h ok.right wide j z low)

    pub entry_low : (get_or (take h.count h.entries) j z).consequent ≤ limits.numbers
    entry_low = subst (λ (e : Entry). e.consequent ≤ limits.numbers) (sym placed_at) (held_low h ok.right wide j z low)

  pub held_many : length (take h.count h.entries) ≡ h.count
  held_many = length-take-le h.count h.entries (right_inside h ok.right)

  held_long : length J ≡ h.count
  held_long = said_length h.entries h.count (right_inside h ok.right)

  -- the justifications of n: where they begin and end
  module _ (n lo hi : ℕ) (begin : lo ≡ below J n) (end : hi ≡ lo + many_of J n) where
    part_inside : hi ≤ h.count
    part_inside = omega (arith, below_more J n, those_few (λ j. ltb j.consequent (n + 1)) J, held_long)

    pub part_is : map meaning (between h.entries lo hi) ≡ those (λ j. eqb j.consequent n) J
    part_is =
        let k : hi - lo ≡ many_of J n = omega arith in
        said_part h.entries h.count lo (hi - lo) (omega (arith, part_inside)) (right_inside h ok.right) ∙ ap₂ (λ (x y : ℕ). take x (drop y J)) k begin
        ∙ stand J n (right_elim h ok.right).order

    -- they are all that the list of n is made of
    pub part_candidates : (L : ℕ → List ℕ) (old : List ℕ) → candidates L old (map meaning (between h.entries lo hi)) n ≡ candidates L old J n
    unfolding candidates joins_for
    part_candidates L old =
        ap (λ (l : List Justification). old ++ each (λ j. joins L zero j.supports) l) (ap (those (λ j. eqb j.consequent n)) part_is ∙ those_twice (λ j. eqb j.consequent n) J)

  -- what the tally says
  tally_at : (t : List ℕ) → t ≡ tallied h → (n : ℕ) → n ≤ limits.numbers → get_or t n 0 ≡ many_of J n
  unfolding tallied
  tally_at t e n low = ap (λ (l : List ℕ). get_or l n 0) e ∙ get_d_table (limits.numbers + 1) (many_of J) n 0 (omega arith)

  -- from where those of n begin to where they end
  module _ (t : List ℕ) (e : t ≡ tallied h) (n lo : ℕ) (low : n ≤ limits.numbers) (begin : lo ≡ below J n) where
    pub tally_end : lo + get_or t n 0 ≡ lo + many_of J n
    tally_end = ap (λ (x : ℕ). lo + x) (tally_at t e n low)

    pub tally_on : lo + get_or t n 0 ≡ below J (n + 1)
    tally_on = omega (arith, tally_at t e n low, below_more J n)

    pub tally_inside : lo + get_or t n 0 ≤ h.count
    tally_inside = part_inside n lo (lo + get_or t n 0) begin tally_end

    pub tally_low : lo + get_or t n 0 ≤ limits.held
    tally_low = omega (arith, tally_inside, (right_elim h ok.right).few)

  -- those of falsity end where those of 1 begin
  module _ (t : List ℕ) (e : t ≡ tallied h) where
    first_end : 0 + get_or t 0 0 ≡ get_or t 0 0
    first_end = omega arith

    pub first_on : get_or t 0 0 ≡ below J (0 + 1)
    first_on = sym first_end ∙ tally_on t e 0 0 (omega arith) (sym (below_none J))

    pub first_inside : get_or t 0 0 ≤ h.count
    first_inside = omega (arith, tally_inside t e 0 0 (omega arith) (sym (below_none J)))

  -- those of falsity, as a slice
  module _ (end : ℕ) (e : end ≡ get_or (tallied h) 0 0) where
    front : take end h.entries ≡ between h.entries 0 (get_or (tallied h) 0 0)
    front = let q : end ≡ get_or (tallied h) 0 0 - 0 = omega arith in ap (λ (n : ℕ). take n h.entries) q

    pub first_joinable : Joinable (take end h.entries)
    first_joinable = subst Joinable (sym front) (part_joinable 0 (get_or (tallied h) 0 0) (first_inside (tallied h) refl))

    ends : get_or (tallied h) 0 0 ≡ 0 + many_of J 0
    ends = sym (first_end (tallied h) refl) ∙ tally_end (tallied h) refl 0 0 (omega arith) (sym (below_none J))

    pub first_is : map meaning (take end h.entries) ≡ those (λ j. eqb j.consequent 0) (said_by h)
    first_is = ap (map meaning) front ∙ part_is 0 0 (get_or (tallied h) 0 0) (sym (below_none J)) ends

    pub first_candidates : (L : ℕ → List ℕ) (old : List ℕ) → candidates L old (map meaning (take end h.entries)) 0 ≡ candidates L old (said_by h) 0
    first_candidates L old = ap (λ (l : List Entry). candidates L old (map meaning l) 0) front ∙ part_candidates 0 0 (get_or (tallied h) 0 0) (sym (below_none J)) ends L old

-- ---- the tally, justification by justification: what is counted and what is left make up the whole
abbrev pub Counted : List Justification → ℕ → List ℕ → Type 0
Counted J j t = (n : ℕ) → n ≤ limits.numbers → many_of J n ≡ get_or t n 0 + many_of (drop j J) n

pub count_none : (J : List Justification) → Counted J 0 (replicate (limits.numbers + 1) 0)
count_none J n low = omega (arith, get_or-replicate {A = ℕ} (limits.numbers + 1) n 0 0 (omega arith))

module _ (h : Held) (ok : Judgeable limits.assumptions h) where
  pub count_turn : (j : ℕ) (z : Entry) → j < h.count → (t : List ℕ) → length t ≡ limits.numbers + 1 → (get_or (take h.count h.entries) j z).consequent ≤ limits.numbers → Counted (said_by h) j t
      → Counted (said_by h) (j + 1) (set t (get_or (take h.count h.entries) j z).consequent (get_or t (get_or (take h.count h.entries) j z).consequent 0 + 1))
  unfolding those
  count_turn j z p t long low inv n top =
      let K : List Justification = said_by h in
      let c : ℕ = (get_or (take h.count h.entries) j z).consequent in
      let x : get_or K j (meaning z) ≡ meaning (get_or (take h.count h.entries) j z) = get_or-map meaning (take h.count h.entries) j z in
      let s : drop j K ≡ meaning (get_or (take h.count h.entries) j z) ∷ drop (j + 1) K = drop-cons K j (meaning z) (omega (arith, held_long h ok)) ∙ ap₂ (λ (y : Justification) (i : ℕ). y ∷ drop i K) x (sym (add-one j)) in
      let m : many_of (drop j K) n ≡ length (keep (eqb c n) (meaning (get_or (take h.count h.entries) j z)) (those (λ i. eqb i.consequent n) (drop (j + 1) K))) = ap (λ (l : List Justification). many_of l n) s in
      ⊎_elim (λ e.
      let q : c ≡ n = eqb-true c n e in
      let w : many_of (drop j K) n ≡ suc (many_of (drop (j + 1) K) n) = m ∙ ap (λ (b : Bool). length (keep b (meaning (get_or (take h.count h.entries) j z)) (those (λ i. eqb i.consequent n) (drop (j + 1) K)))) e in
      let v : get_or (set t c (get_or t c 0 + 1)) n 0 ≡ get_or t n 0 + 1 = ap (λ (i : ℕ). get_or (set t c (get_or t c 0 + 1)) i 0) (sym q) ∙ get_or-set_same t c (get_or t c 0 + 1) 0 (omega arith) ∙ ap (λ (i : ℕ). get_or t i 0 + 1) q in
      omega (arith, inv n top))
      (λ e.
      let w : many_of (drop j K) n ≡ many_of (drop (j + 1) K) n = m ∙ ap (λ (b : Bool). length (keep b (meaning (get_or (take h.count h.entries) j z)) (those (λ i. eqb i.consequent n) (drop (j + 1) K)))) e in
      let v : get_or (set t c (get_or t c 0 + 1)) n 0 ≡ get_or t n 0 = get_or-set_other t c n (get_or t c 0 + 1) 0 (λ q. eqb-false c n e (sym q)) in
      omega (arith, inv n top))
      (either (eqb c n))

  pub count_few : (j : ℕ) (t : List ℕ) → Counted (said_by h) j t → (n : ℕ) → n ≤ limits.numbers → get_or t n 0 ≤ limits.held
  count_few j t inv n low = omega (arith, inv n low, those_few (λ i. eqb i.consequent n) (said_by h), held_long h ok, (right_elim h ok.right).few)

  pub count_all : (j : ℕ) → h.count ≤ j → (t : List ℕ) → length t ≡ limits.numbers + 1 → Counted (said_by h) j t → t ≡ tallied h
  unfolding tallied those
  count_all j p t long inv =
      is_table t (limits.numbers + 1) (many_of (said_by h)) 0 long (λ n q.
      let z : many_of (drop j (said_by h)) n ≡ 0 = ap (λ (l : List Justification). many_of l n) (drop_of_length-le (said_by h) {i = j} (omega (arith, held_long h ok))) in
      omega (arith, inv n (omega arith)))
