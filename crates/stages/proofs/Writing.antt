-- One label more written into its twelve places. Assumes nothing.
use mathlib.Core.Bool.{Bool, false}
use mathlib.Core.List.{List, [], ◌++◌, ◌∷◌, append-nil}
use mathlib.Core.Logic.{⊎_elim}
use mathlib.Core.Path.{◌∙◌, ◌≡◌, ap, ap₂, refl, subst, sym}
use Prim.Native.Nat.{◌%◌, ◌*◌, ◌+◌, ◌-◌, ◌/◌, ◌<◌, ◌≤◌, suc, zero, ℕ}
use native.Mathlib.Decide.{dec_lt}
use native.Mathlib.Numerals.{add-one}
use native.Mathlib.Omega.{arith}
use lib.Dec.{eqb}
use lib.ListN.{get_or-append, drop, drop_of_length-le, get_or, length, set, take}
use lib.Seq.{get_or-append-add, get_or-drop, get_or-take, length-paste, length_paste_head, length-take-le, paste, take_all}
use borrow.Author.Tests.{eqb-false, eqb-true}
use Rattle.stages.proofs.Tables.{set_table, table_same}
use Rattle.stages.specs.Lists.{lists_of}
use Rattle.stages.specs.Steps.{Listed, mark_of}
use Rattle.stages.specs.declared.Lists.{Lists}
use Rattle.theory.proofs.Lists.{either}
use Rattle.theory.proofs.Places.{get_d_table, is_table, length_table}
use Rattle.theory.specs.Judge.{Stage, same_sets}
use Rattle.theory.specs.Limits.{limits}
use Rattle.theory.specs.Lists.{choose}
use Rattle.theory.specs.Places.{padded, table}
use Rattle.theory.specs.Step.{label_in}

-- ---- what stands where after a paste of n
module _ (d s : List ℕ) (at n : ℕ) (fits : at + n ≤ length d) (long : n ≤ length s) where
  head : length (take at d ++ take n s) ≡ at + n
  head = length_paste_head d at s n (omega arith) (omega arith)

  front : length (take at d) ≡ at
  front = length-take-le at d (omega arith)

  paste_low : (i : ℕ) → i < at → get_or (paste d at s n) i 0 ≡ get_or d i 0
  paste_low i h =
      get_or-append (take at d ++ take n s) (drop (at + n) d) 0 i (omega (arith, head))
      ∙ get_or-append (take at d) (take n s) 0 i (omega (arith, front)) ∙ get_or-take at d i 0 h

  paste_mid : (i : ℕ) → i < n → get_or (paste d at s n) (at + i) 0 ≡ get_or s i 0
  paste_mid i h =
      get_or-append (take at d ++ take n s) (drop (at + n) d) 0 (at + i) (omega (arith, head))
      ∙ ap (λ (x : ℕ). get_or (take at d ++ take n s) (x + i) 0) (sym front) ∙ get_or-append-add (take at d) (take n s) i 0 ∙ get_or-take n s i 0 h

  paste_high : (i : ℕ) → get_or (paste d at s n) (at + n + i) 0 ≡ get_or d (at + n + i) 0
  paste_high i =
      ap (λ (x : ℕ). get_or (paste d at s n) (x + i) 0) (sym head) ∙ get_or-append-add (take at d ++ take n s) (drop (at + n) d) i 0 ∙ get_or-drop (at + n) d i 0

-- ---- from the labels ls to the labels ms, which have X at n and the same elsewhere

abbrev pub size : List (List ℕ) → ℕ → ℕ
size ls i = length (get_or ls i [])

abbrev pub member : List (List ℕ) → ℕ → ℕ
member ls i = get_or (get_or ls (i / limits.label) []) (i % limits.label) 0

module _ (ls ms : List (List ℕ)) (same : (i : ℕ) → get_or ls i [] ≡ get_or ms i []) where
  sizes_same : table limits.numbers (size ls) ≡ table limits.numbers (size ms)
  sizes_same = table_same limits.numbers (size ls) (size ms) 0 (λ i h. ap length (same i))

  members_same : table (limits.numbers * limits.label) (member ls) ≡ table (limits.numbers * limits.label) (member ms)
  members_same = table_same (limits.numbers * limits.label) (member ls) (member ms) 0 (λ i h. ap (λ (l : List ℕ). get_or l (i % limits.label) 0) (same (i / limits.label)))

module _ (ls ms : List (List ℕ)) (n : ℕ) (low : n < limits.numbers) (X : List ℕ) (here : get_or ms n [] ≡ X) (others : (i : ℕ) → (i ≡ n → ⊥) → get_or ls i [] ≡ get_or ms i []) where
  pub write_size : set (table limits.numbers (size ls)) n (length X) ≡ table limits.numbers (size ms)
  write_size = set_table limits.numbers (size ls) (size ms) n (length X) 0 low (ap length here) (λ i ne. ap length (others i ne))

  write_members : paste (table (limits.numbers * limits.label) (member ls)) (limits.label * n) (padded 0 limits.nogoods X) limits.label ≡ table (limits.numbers * limits.label) (member ms)
  unfolding padded
  write_members =
      let d : List ℕ = table (limits.numbers * limits.label) (member ls) in
      let s : List ℕ = table limits.nogoods (λ i. get_or X i 0) in
      let ld : length d ≡ limits.numbers * limits.label = length_table (limits.numbers * limits.label) (member ls) in
      let long : limits.label ≤ length s = omega (arith, length_table limits.nogoods (λ i. get_or X i 0)) in
      let fits : limits.label * n + limits.label ≤ length d = omega arith in
      is_table (paste d (limits.label * n) s limits.label) (limits.numbers * limits.label) (member ms) 0 (length-paste d (limits.label * n) s limits.label fits (omega arith) ∙ ld)
      (λ i h. elim (dec_lt i (limits.label * n)) [
        | yes p ↦ paste_low d s (limits.label * n) limits.label fits long i p ∙ get_d_table (limits.numbers * limits.label) (member ls) i 0 h ∙ ap (λ (l : List ℕ). get_or l (i % limits.label) 0) (others (i / limits.label) (λ e. omega arith))
        | no p ↦ elim (dec_lt i (limits.label * n + limits.label)) [
          | yes q ↦ (let e : limits.label * n + (i - limits.label * n) ≡ i = omega arith in
              let f : i / limits.label ≡ n = omega arith in
              let g : i % limits.label ≡ i - limits.label * n = omega arith in
              let u : i - limits.label * n < limits.label = omega arith in
              ap (λ (x : ℕ). get_or (paste d (limits.label * n) s limits.label) x 0) (sym e) ∙ paste_mid d s (limits.label * n) limits.label fits long (i - limits.label * n) u ∙ get_d_table limits.nogoods (λ i. get_or X i 0) (i - limits.label * n) 0 (omega arith)
              ∙ sym (ap₂ (λ (x y : ℕ). get_or (get_or ms x []) y 0) f g ∙ ap (λ (l : List ℕ). get_or l (i - limits.label * n) 0) here))
          | no q ↦ (let e : limits.label * n + limits.label + (i - (limits.label * n + limits.label)) ≡ i = omega arith in
              ap (λ (x : ℕ). get_or (paste d (limits.label * n) s limits.label) x 0) (sym e) ∙ paste_high d s (limits.label * n) limits.label fits long (i - (limits.label * n + limits.label)) ∙ ap (λ (x : ℕ). get_or d x 0) e
              ∙ get_d_table (limits.numbers * limits.label) (member ls) i 0 h ∙ ap (λ (l : List ℕ). get_or l (i % limits.label) 0) (others (i / limits.label) (λ w. omega arith)))
        ]
      ])

  -- a label of one member where there was none
  pub write_one : (v : ℕ) → X ≡ v ∷ [] → get_or ls n [] ≡ [] → set (table (limits.numbers * limits.label) (member ls)) (limits.label * n) v ≡ table (limits.numbers * limits.label) (member ms)
  write_one v e none =
      set_table (limits.numbers * limits.label) (member ls) (member ms) (limits.label * n) v 0 (omega arith)
      (let d : limits.label * n / limits.label ≡ n = omega arith in
      let r : limits.label * n % limits.label ≡ 0 = omega arith in
      ap₂ (λ (x y : ℕ). get_or (get_or ms x []) y 0) d r ∙ ap (λ (l : List ℕ). get_or l 0 0) (here ∙ e))
      (λ i ne. elim (dec_lt (i / limits.label) n) [
        | yes p ↦ ap (λ (l : List ℕ). get_or l (i % limits.label) 0) (others (i / limits.label) (λ q. omega arith))
        | no p ↦ elim (dec_lt n (i / limits.label)) [
          | yes q ↦ ap (λ (l : List ℕ). get_or l (i % limits.label) 0) (others (i / limits.label) (λ w. omega arith))
          | no q ↦ (let f : i / limits.label ≡ n = omega arith in
              let g : i % limits.label ≡ suc (i % limits.label - 1) = past i f ne in
              ap₂ (λ (x y : ℕ). get_or (get_or ls x []) y 0) f g ∙ ap (λ (l : List ℕ). get_or l (suc (i % limits.label - 1)) 0) none
              ∙ sym (ap₂ (λ (x y : ℕ). get_or (get_or ms x []) y 0) f g ∙ ap (λ (l : List ℕ). get_or l (suc (i % limits.label - 1)) 0) (here ∙ e)))
        ]
      ])
    where
      past : (i : ℕ) → i / limits.label ≡ n → (i ≡ limits.label * n → ⊥) → i % limits.label ≡ suc (i % limits.label - 1)
      past i f ne = omega arith

-- ---- the lists of a stage
filled : List ℕ → List ℕ → ℕ → List ℕ → ℕ → Lists
filled z m c g d = record { sizes = z; members = m; count = c; nogoods = g; depth = d }

pub lists_made : (d : ℕ) (s : Stage) (sizes members : List ℕ) (count : ℕ) (nogoods : List ℕ) → sizes ≡ table limits.numbers (size s.labels) → members ≡ table (limits.numbers * limits.label) (member s.labels) → Listed s.nogoods count nogoods
    → ◌≡◌ {A = Lists} (record { sizes = sizes; members = members; count = count; nogoods = nogoods; depth = d }) (lists_of d s)
unfolding lists_of filled
lists_made d s sizes members count nogoods z m n =
    ap₂ (λ (x y : List ℕ). filled x y count nogoods d) z m
    ∙ ap₂ (λ (c : ℕ) (g : List ℕ). filled (table limits.numbers (size s.labels)) (table (limits.numbers * limits.label) (member s.labels)) c g d) n.counted n.lie

pub members_placed : (d : ℕ) (s : Stage) → table (limits.numbers * limits.label) (member s.labels) ≡ (lists_of d s).members
unfolding lists_of
members_placed d s = refl

pub sizes_placed : (d : ℕ) (s : Stage) → table limits.numbers (size s.labels) ≡ (lists_of d s).sizes
unfolding lists_of
sizes_placed d s = refl

pub lists_same : (d : ℕ) (s t : Stage) → s.nogoods ≡ t.nogoods → ((i : ℕ) → get_or s.labels i [] ≡ get_or t.labels i []) → lists_of d s ≡ lists_of d t
unfolding lists_of filled
lists_same d s t e f =
    ap₂ (λ (z m : List ℕ). filled z m (length s.nogoods) (padded 0 limits.nogoods s.nogoods) d) (sizes_same s.labels t.labels f) (members_same s.labels t.labels f)
    ∙ ap (λ (n : List ℕ). filled (table limits.numbers (size t.labels)) (table (limits.numbers * limits.label) (member t.labels)) (length n) (padded 0 limits.nogoods n) d) e

-- ---- the first labels of one stage, the rest of another
abbrev pub mixed : List (List ℕ) → List (List ℕ) → ℕ → List (List ℕ)
mixed old new i = take i new ++ drop i old

pub mixed_all : (old new : List (List ℕ)) (i : ℕ) → length old ≤ i → length new ≤ i → mixed old new i ≡ new
mixed_all old new i a b = ap₂ (λ (l m : List (List ℕ)). l ++ m) (take_all i new b) (drop_of_length-le old {i = i} a) ∙ append-nil new

module _ (old new : List (List ℕ)) (n : ℕ) (low : n < length new) where
  front_long : (i : ℕ) → i ≤ n + 1 → length (take i new) ≡ i
  front_long i h = length-take-le i new (omega arith)

  -- below i the new ones
  mixed_below : (i j : ℕ) → i ≤ n + 1 → j < i → get_or (mixed old new i) j [] ≡ get_or new j []
  mixed_below i j h p = get_or-append (take i new) (drop i old) [] j (omega (arith, front_long i h)) ∙ get_or-take i new j [] p

  -- from i on the old ones
  mixed_from : (i j : ℕ) → i ≤ n + 1 → i ≤ j → get_or (mixed old new i) j [] ≡ get_or old j []
  mixed_from i j h p =
      let e : i + (j - i) ≡ j = omega arith in
      ap (λ (k : ℕ). get_or (mixed old new i) k []) (sym e ∙ ap (λ (k : ℕ). k + (j - i)) (sym (front_long i h))) ∙ get_or-append-add (take i new) (drop i old) (j - i) [] ∙ get_or-drop i old (j - i) []
      ∙ ap (λ (k : ℕ). get_or old k []) e

  mixed_here : get_or (mixed old new (n + 1)) n [] ≡ get_or new n []
  mixed_here = mixed_below (n + 1) n (omega arith) (omega arith)

  mixed_others : (j : ℕ) → (j ≡ n → ⊥) → get_or (mixed old new n) j [] ≡ get_or (mixed old new (n + 1)) j []
  mixed_others j ne = elim (dec_lt j n) [
    | yes p ↦ mixed_below n j (omega arith) p ∙ sym (mixed_below (n + 1) j (omega arith) (omega arith))
    | no p ↦ mixed_from n j (omega arith) (omega arith) ∙ sym (mixed_from (n + 1) j (omega arith) (past j ne p))
  ]
    where
      past : (j : ℕ) → (j ≡ n → ⊥) → (j < n → ⊥) → n + 1 ≤ j
      past j ne p = omega arith

  -- where label n is the same in both
  mixed_still : get_or new n [] ≡ get_or old n [] → (j : ℕ) → get_or (mixed old new n) j [] ≡ get_or (mixed old new (n + 1)) j []
  mixed_still e j = ⊎_elim (λ t. let q : j ≡ n = eqb-true j n t in subst (λ (k : ℕ). get_or (mixed old new n) k [] ≡ get_or (mixed old new (n + 1)) k []) (sym q) (mixed_from n n (omega arith) (omega arith) ∙ sym e ∙ sym mixed_here)) (λ t. mixed_others j (eqb-false j n t)) (either (eqb j n))

  -- a label kept
  pub sizes_kept : get_or new n [] ≡ get_or old n [] → (l : List ℕ) → l ≡ table limits.numbers (size (mixed old new n)) → l ≡ table limits.numbers (size (mixed old new (n + 1)))
  sizes_kept e l q = q ∙ sizes_same (mixed old new n) (mixed old new (n + 1)) (mixed_still e)

  pub members_kept : get_or new n [] ≡ get_or old n [] → (l : List ℕ) → l ≡ table (limits.numbers * limits.label) (member (mixed old new n)) → l ≡ table (limits.numbers * limits.label) (member (mixed old new (n + 1)))
  members_kept e l q = q ∙ members_same (mixed old new n) (mixed old new (n + 1)) (mixed_still e)

  -- a label written
  pub sizes_written : n < limits.numbers → (l : List ℕ) → l ≡ table limits.numbers (size (mixed old new n)) → (c : ℕ) → c ≡ length (get_or new n []) → set l n c ≡ table limits.numbers (size (mixed old new (n + 1)))
  sizes_written h l q c e = ap₂ (λ (x : List ℕ) (y : ℕ). set x n y) q e ∙ write_size (mixed old new n) (mixed old new (n + 1)) n h (get_or new n []) mixed_here mixed_others

  pub members_written : n < limits.numbers → (l : List ℕ) → l ≡ table (limits.numbers * limits.label) (member (mixed old new n)) → (s : List ℕ) → s ≡ padded 0 limits.nogoods (get_or new n []) → (m : List ℕ) → m ≡ paste l (limits.label * n) s limits.label → m ≡ table (limits.numbers * limits.label) (member (mixed old new (n + 1)))
  members_written h l q s e m w = w ∙ ap₂ (λ (x y : List ℕ). paste x (limits.label * n) y limits.label) q e ∙ write_members (mixed old new n) (mixed old new (n + 1)) n h (get_or new n []) mixed_here mixed_others

  -- ---- the marks
  pub marks_kept : get_or new n [] ≡ get_or old n [] → (l : List ℕ) → l ≡ table (limits.numbers + 1) (mark_of old (mixed old new n)) → l ≡ table (limits.numbers + 1) (mark_of old (mixed old new (n + 1)))
  unfolding mark_of label_in
  marks_kept e l q = q ∙ table_same (limits.numbers + 1) (mark_of old (mixed old new n)) (mark_of old (mixed old new (n + 1))) 0 (λ i h. go i)
    where
      go : (i : ℕ) → mark_of old (mixed old new n) i ≡ mark_of old (mixed old new (n + 1)) i
      go zero = refl
      go (suc i) = ap (λ (x : List ℕ). choose (same_sets x (get_or old i [])) 0 1) (mixed_still e i)

  pub marks_written : n < limits.numbers → same_sets (get_or new n []) (get_or old n []) ≡ false → (l : List ℕ) → l ≡ table (limits.numbers + 1) (mark_of old (mixed old new n)) → set l (n + 1) 1 ≡ table (limits.numbers + 1) (mark_of old (mixed old new (n + 1)))
  unfolding mark_of label_in
  marks_written h d l q =
      ap (λ (x : List ℕ). set x (n + 1) 1) q
      ∙ set_table (limits.numbers + 1) (mark_of old (mixed old new n)) (mark_of old (mixed old new (n + 1))) (n + 1) 1 0 (omega arith)
      (ap (mark_of old (mixed old new (n + 1))) (add-one n) ∙ ap (λ (x : List ℕ). choose (same_sets x (get_or old n [])) 0 1) mixed_here ∙ ap (λ (b : Bool). choose b 0 1) d) (λ i ne. go i ne)
    where
      past : (i : ℕ) → (suc i ≡ n + 1 → ⊥) → i ≡ n → ⊥
      past i ne e = ne (ap suc e ∙ sym (add-one n))

      go : (i : ℕ) → (i ≡ n + 1 → ⊥) → mark_of old (mixed old new n) i ≡ mark_of old (mixed old new (n + 1)) i
      go zero ne = refl
      go (suc i) ne = ap (λ (x : List ℕ). choose (same_sets x (get_or old i [])) 0 1) (mixed_others i (past i ne))
