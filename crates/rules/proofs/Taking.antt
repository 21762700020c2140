-- A set of supports in its place: those below n, one number more at a time. Assumes nothing.
use mathlib.Core.Bool.{Bool, ◌||◌, false, true}
use mathlib.Core.List.Memᴰ.{head as here}
use mathlib.Core.List.{List, Memᴰ as Mem, [], ◌++◌, ◌∷◌}
use mathlib.Core.Logic.{⊎_elim}
use mathlib.Core.Path.{◌∙◌, ◌≡◌, ap, ap₂, refl, sym}
use Prim.Native.Nat.{◌+◌, ◌<◌, ◌≤◌, suc, zero, ℕ}
use native.Mathlib.Decide.{dec_lt}
use native.Mathlib.Nat.{eq-or-lt_of_le}
use native.Mathlib.Numerals.{add-one}
use native.Mathlib.Omega.{arith}
use lib.Dec.{eqb}
use lib.ListN.{get_or-append, get_or-eq_default, get_or, length, length-append, length-set, set}
use lib.Seq.{get_or-append_seam, get_or-set_other, get_or-set_same}
use borrow.Author.Tests.{eq-eqb, eqb-true}
use Rattle.rules.specs.Held.{entry_of}
use Rattle.rules.specs.Items.{justification_of, set_of}
use Rattle.rules.specs.Placing.{first_of, partly}
use Rattle.rules.specs.declared.Entry.{Entry}
use Rattle.theory.proofs.Listing.{below_elim}
use Rattle.theory.proofs.Lists.{clash, either, those_elim}
use Rattle.theory.proofs.Places.{get_d_table, is_table, length_table}
use Rattle.theory.specs.Limits.{limits}
use Rattle.theory.specs.Lists.{keep, numbers_below, some_of, those}
use Rattle.theory.specs.Places.{padded, table}

keep_append : {X : Type 0} (b : Bool) (x : X) (l m : List X) → keep b x (l ++ m) ≡ keep b x l ++ m
keep_append true x l m = refl
keep_append false x l m = refl

pub those_append : {X : Type 0} (p : X → Bool) (l m : List X) → those p (l ++ m) ≡ those p l ++ those p m
unfolding those
those_append p [] m = refl
those_append p (x ∷ l) m = ap (keep (p x) x) (those_append p l m) ∙ keep_append (p x) x (those p l) (those p m)

-- ---- as many at most as the list has
keep_length : {X : Type 0} (b : Bool) (x : X) (l : List X) → length l ≤ length (keep b x l)
keep_length true x l = omega arith
keep_length false x l = omega arith

or_length : {X : Type 0} (p q : X → Bool) (l : List X) → length (those (λ x. p x || q x) l) ≤ length (those p l) + length (those q l)
unfolding those
or_length p q [] = omega arith
or_length p q (x ∷ l) = go (p x) (q x) (or_length p q l)
  where
    go : (a b : Bool) → length (those (λ x. p x || q x) l) ≤ length (those p l) + length (those q l)
        → length (keep (a || b) x (those (λ x. p x || q x) l)) ≤ length (keep a x (those p l)) + length (keep b x (those q l))
    go true b h = omega (arith, keep_length b x (those q l))
    go false true h = omega arith
    go false false h = h

none_length : {X : Type 0} (p : X → Bool) (l : List X) → ((x : X) → Mem x l → p x ≡ true → ⊥) → length (those p l) ≡ 0
none_length p l f = go (those p l) (λ x m. let r = those_elim p l m in f x r.0 r.1)
  where
    go : {X : Type 0} (l : List X) → ((x : X) → Mem x l → ⊥) → length l ≡ 0
    go [] f = refl
    go (x ∷ l) f = absurd (f x (here refl))

one_length : (x n : ℕ) → length (those (λ m. eqb m x) (numbers_below n)) ≤ 1
unfolding those numbers_below
one_length x zero = omega arith
one_length x (suc n) = ⊎_elim
    (λ (t : eqb n x ≡ true).
    let e : n ≡ x = eqb-true n x t in
    let z : length (those (λ m. eqb m x) (numbers_below n)) ≡ 0 = none_length (λ m. eqb m x) (numbers_below n) (λ m k h. absurd (omega (arith, below_elim n k, eqb-true m x h))) in
    let s : length (those (λ m. eqb m x) (numbers_below n ++ (n ∷ []))) ≡ length (those (λ m. eqb m x) (numbers_below n)) + 1 =
    ap length (those_append (λ m. eqb m x) (numbers_below n) (n ∷ []) ∙ ap (λ (b : Bool). those (λ m. eqb m x) (numbers_below n) ++ keep b n []) t) ∙ length-append (those (λ m. eqb m x) (numbers_below n)) (n ∷ []) in
    omega arith)
    (λ (t : eqb n x ≡ false).
    let s : length (those (λ m. eqb m x) (numbers_below n ++ (n ∷ []))) ≡ length (those (λ m. eqb m x) (numbers_below n)) + 0 =
    ap length (those_append (λ m. eqb m x) (numbers_below n) (n ∷ []) ∙ ap (λ (b : Bool). those (λ m. eqb m x) (numbers_below n) ++ keep b n []) t) ∙ length-append (those (λ m. eqb m x) (numbers_below n)) [] in
    omega (arith, one_length x n))
    (either (eqb n x))

pub first_few : (l : List ℕ) (n : ℕ) → length (first_of l n) ≤ length l
unfolding some_of
first_few [] n = omega (arith, none_length (λ m. some_of (eqb m) []) (numbers_below n) (λ x m h. clash h refl))
first_few (x ∷ l) n = omega (arith, or_length (λ m. eqb m x) (λ m. some_of (eqb m) l) (numbers_below n), one_length x n, first_few l n)

module _ (l : List ℕ) (n : ℕ) where
  first_step : first_of l (suc n) ≡ first_of l n ++ keep (some_of (eqb n) l) n []
  unfolding numbers_below those
  first_step = those_append (λ m. some_of (eqb m) l) (numbers_below n) (n ∷ [])

  pub first_hit : some_of (eqb n) l ≡ true → first_of l (suc n) ≡ first_of l n ++ (n ∷ [])
  first_hit t = first_step ∙ ap (λ (b : Bool). first_of l n ++ keep b n []) t

  pub first_miss : some_of (eqb n) l ≡ false → first_of l (suc n) ≡ first_of l n
  first_miss t = first_step ∙ ap (λ (b : Bool). first_of l n ++ keep b n []) t ∙ nil (first_of l n)
    where
      nil : (m : List ℕ) → m ++ [] ≡ m
      nil [] = refl
      nil (x ∷ m) = ap (λ (k : List ℕ). x ∷ k) (nil m)

-- ---- one more at the end of what is used
module _ (l : List ℕ) (n x : ℕ) (h : length l < n) where
  after : (i : ℕ) → (i ≡ length l → ⊥) → get_or l i 0 ≡ get_or (l ++ (x ∷ [])) i 0
  after i ne = elim (dec_lt i (length l)) [
    | yes p ↦ sym (get_or-append l (x ∷ []) 0 i p)
    | no p ↦ (let q : length l ≤ i = omega arith in
        let r : length (l ++ (x ∷ [])) ≤ i = far i q ne (length-append l (x ∷ [])) in
        get_or-eq_default l 0 {n = i} q ∙ sym (get_or-eq_default (l ++ (x ∷ [])) 0 {n = i} r))
  ]
    where
      far : (i : ℕ) → length l ≤ i → (i ≡ length l → ⊥) → length (l ++ (x ∷ [])) ≡ length l + 1 → length (l ++ (x ∷ [])) ≤ i
      far i q ne e = ⊎_elim (λ (w : length l ≡ i). absurd (ne (sym w))) (λ (w : length l < i). omega arith) (eq-or-lt_of_le q)

  pub padded_push : set (padded 0 n l) (length l) x ≡ padded 0 n (l ++ (x ∷ []))
  unfolding padded
  padded_push =
      is_table (set (table n (λ i. get_or l i 0)) (length l) x) n (λ i. get_or (l ++ (x ∷ [])) i 0) 0
      (length-set (table n (λ i. get_or l i 0)) (length l) x ∙ length_table n (λ i. get_or l i 0))
      (λ i p. ⊎_elim
      (λ (t : eqb i (length l) ≡ true).
      let e : i ≡ length l = eqb-true i (length l) t in
      ap (λ (k : ℕ). get_or (set (table n (λ i. get_or l i 0)) (length l) x) k 0) e
      ∙ get_or-set_same (table n (λ i. get_or l i 0)) (length l) x 0 (omega (arith, length_table n (λ i. get_or l i 0)))
      ∙ sym (get_or-append_seam l x [] 0) ∙ ap (λ (k : ℕ). get_or (l ++ (x ∷ [])) k 0) (sym e))
      (λ (t : eqb i (length l) ≡ false).
      let ne : i ≡ length l → ⊥ = λ e. clash (eq-eqb i (length l) e) t in
      get_or-set_other (table n (λ i. get_or l i 0)) (length l) i x 0 ne ∙ get_d_table n (λ i. get_or l i 0) i 0 p ∙ after i ne)
      (either (eqb i (length l))))

module _ (c : ℕ) (l : List ℕ) (n : ℕ) (small : length l ≤ limits.supports) (j : Entry) (so : j ≡ partly c l n) where
  used : j.count ≡ length (first_of l n)
  unfolding partly
  used = ap (λ (k : Entry). k.count) so

  pub taking_room : some_of (eqb n) l ≡ true → j.count < limits.supports
  taking_room t = omega (arith, used, first_few l (suc n), ap length (first_hit l n t), length-append (first_of l n) (n ∷ []))

  pub taking_hit : some_of (eqb n) l ≡ true → ◌≡◌ {A = Entry} (record { consequent = j.consequent; count = j.count + 1; supports = set j.supports j.count n }) (partly c l (n + 1))
  unfolding partly
  taking_hit t =
      let e : first_of l (n + 1) ≡ first_of l n ++ (n ∷ []) = ap (first_of l) (add-one n) ∙ first_hit l n t in
      let f : length (first_of l n) + 1 ≡ length (first_of l n ++ (n ∷ [])) = sym (length-append (first_of l n) (n ∷ [])) in
      let room : length (first_of l n) < limits.supports = omega (arith, used, taking_room t) in
      ap (λ (k : Entry). record { consequent = k.consequent; count = k.count + 1; supports = set k.supports k.count n }) so
      ∙ ap₂ (λ (m : ℕ) (s : List ℕ). record { consequent = c; count = m; supports = s }) f (padded_push (first_of l n) limits.supports n room)
      ∙ ap (λ (m : List ℕ). entry_of (record { consequent = c; supports = m })) (sym e)

  pub taking_miss : some_of (eqb n) l ≡ false → j ≡ partly c l (n + 1)
  unfolding partly
  taking_miss t =
      let e : first_of l (n + 1) ≡ first_of l n = ap (first_of l) (add-one n) ∙ first_miss l n t in
      so ∙ ap (λ (m : List ℕ). entry_of (record { consequent = c; supports = m })) (sym e)

pub partly_start : (c : ℕ) (l : List ℕ) → ◌≡◌ {A = Entry} (record { consequent = c; count = 0; supports = 0 ∷ 0 ∷ 0 ∷ 0 ∷ [] }) (partly c l 0)
unfolding partly those numbers_below padded table
partly_start c l = refl

pub partly_end : (c : ℕ) (l : List ℕ) (N : ℕ) → partly c l (N + 1) ≡ entry_of (justification_of N c l)
unfolding partly set_of
partly_end c l N = ap (λ (m : ℕ). entry_of (record { consequent = c; supports = first_of l m })) (add-one N)
