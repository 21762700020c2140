-- The lists of a stage with room, read back: each label as it lies, and the nogoods. And stage 0. Assumes nothing.
use mathlib.Core.List.{List, [], ◌∷◌}
use mathlib.Core.Path.{◌∙◌, ◌≡◌, ap, ap₂, refl, sym}
use Prim.Native.Nat.{◌%◌, ◌*◌, ◌+◌, ◌/◌, ◌<◌, ◌≤◌, suc, zero, ℕ}
use native.Mathlib.Decide.{dec_lt}
use native.Mathlib.Numerals.{add-one}
use native.Mathlib.Omega.{arith}
use lib.ListN.{get_or-eq_default, drop, get_or, length, length-drop, length-take, replicate, set, take}
use lib.Seq.{ext_get_or, get_or-drop, get_or-take}
use borrow.Author.Tests.{ltb-false}
use Rattle.joining.specs.Layout.{Layout, lying}
use Rattle.rules.proofs.Entries.{length_padded, unpadded}
use Rattle.stages.proofs.Tables.{replicate_table}
use Rattle.stages.proofs.Writing.{lists_same, member, size, write_one, write_size}
use Rattle.stages.specs.Lists.{first_stage, lists_of}
use Rattle.stages.specs.Steps.{Listed, Room}
use Rattle.stages.specs.declared.Lists.{Lists}
use Rattle.theory.proofs.Judgement.{long_none, stage_label, stage_label_none, stage_nogoods}
use Rattle.theory.proofs.Places.{get_d_table, length_table}
use Rattle.theory.proofs.Start.{label_zero, label_zero_above, nogoods_zero}
use Rattle.theory.specs.Judge.{Stage, label_long, nogoods_long, stage_at}
use Rattle.theory.specs.Limits.{limits}
use Rattle.theory.specs.Places.{padded, table}
use Rattle.theory.specs.Sets.{alone}
use Rattle.theory.specs.Stages.{Justification}
use Rattle.theory.specs.Step.{label_in}

pub room_few : (s : Stage) → Room s → length s.nogoods ≤ limits.nogoods
unfolding nogoods_long
room_few s r = ltb-false limits.nogoods (length s.nogoods) r.few

pub room_short : (s : Stage) → Room s → (i : ℕ) → length (get_or s.labels i []) ≤ limits.label
unfolding label_long
room_short s r i = long_none limits.label 0 s.labels r.short i

module _ (d : ℕ) (s : Stage) (room : Room s) (l : Lists) (is : l ≡ lists_of d s) where
  pub sizes_are : l.sizes ≡ table limits.numbers (size s.labels)
  unfolding lists_of
  sizes_are = ap (λ (x : Lists). x.sizes) is

  pub members_are : l.members ≡ table (limits.numbers * limits.label) (member s.labels)
  unfolding lists_of
  members_are = ap (λ (x : Lists). x.members) is

  sizes_at : (i : ℕ) → i < limits.numbers → get_or l.sizes i 0 ≡ length (get_or s.labels i [])
  sizes_at i h = ap (λ (x : List ℕ). get_or x i 0) sizes_are ∙ get_d_table limits.numbers (size s.labels) i 0 h

  members_at : (i : ℕ) → i < limits.numbers * limits.label → get_or l.members i 0 ≡ get_or (get_or s.labels (i / limits.label) []) (i % limits.label) 0
  members_at i h = ap (λ (x : List ℕ). get_or x i 0) members_are ∙ get_d_table (limits.numbers * limits.label) (member s.labels) i 0 h

  sizes_long : length l.sizes ≡ limits.numbers
  sizes_long = ap length sizes_are ∙ length_table limits.numbers (size s.labels)

  members_long : length l.members ≡ limits.numbers * limits.label
  members_long = ap length members_are ∙ length_table (limits.numbers * limits.label) (member s.labels)

  pub layout : Layout l.members l.sizes
  layout = record {
    members_length = members_long;
    sizes_length = sizes_long;
    sizes_small = λ i. elim (dec_lt i limits.numbers) [
      | yes h ↦ omega (arith, sizes_at i h, room_short s room i)
      | no h ↦ (let e : get_or l.sizes i 0 ≡ 0 = get_or-eq_default l.sizes 0 {n = i} (omega (arith, sizes_long)) in omega arith)
    ];
  }

  label_lies : (i : ℕ) → i < limits.numbers → lying l.members l.sizes (suc i) ≡ get_or s.labels i []
  unfolding lying
  label_lies i h =
      let X : List ℕ = get_or s.labels i [] in
      let lc : length (take (get_or l.sizes i 0) (drop (limits.label * i) l.members)) ≡ get_or l.sizes i 0 =
      omega (arith, length-take (get_or l.sizes i 0) (drop (limits.label * i) l.members), length-drop (limits.label * i) l.members, members_long, layout.sizes_small i) in
      ext_get_or 0 (take (get_or l.sizes i 0) (drop (limits.label * i) l.members)) X (lc ∙ sizes_at i h)
      (λ k q.
      let b : k < limits.label = omega (arith, sizes_at i h, room_short s room i) in
      let dv : (limits.label * i + k) / limits.label ≡ i = omega arith in
      let rm : (limits.label * i + k) % limits.label ≡ k = omega arith in
      get_or-take (get_or l.sizes i 0) (drop (limits.label * i) l.members) k 0 (omega arith) ∙ get_or-drop (limits.label * i) l.members k 0
      ∙ members_at (limits.label * i + k) (omega arith) ∙ ap₂ (λ (x y : ℕ). get_or (get_or s.labels x []) y 0) dv rm)

  -- each label as it lies is that of the stage
  pub lies : (n : ℕ) → n ≤ limits.numbers → lying l.members l.sizes n ≡ label_in s.labels n
  unfolding label_in lying
  lies zero h = refl
  lies (suc i) h = label_lies i h

  pub nogoods_few : l.count ≤ limits.nogoods
  unfolding lists_of
  nogoods_few = let e : l.count ≡ length s.nogoods = ap (λ (x : Lists). x.count) is in omega (arith, room_few s room)

  pub nogoods_long_lem : length l.nogoods ≡ limits.nogoods
  unfolding lists_of
  nogoods_long_lem = ap (λ (x : Lists). length x.nogoods) is ∙ length_padded 0 limits.nogoods s.nogoods

  pub nogoods_listed : Listed s.nogoods l.count l.nogoods
  unfolding lists_of
  nogoods_listed = record { counted = ap (λ (x : Lists). x.count) is; few = nogoods_few; lie = ap (λ (x : Lists). x.nogoods) is }

  pub nogoods_lie : take l.count l.nogoods ≡ s.nogoods
  unfolding lists_of
  nogoods_lie = ap (λ (x : Lists). take x.count x.nogoods) is ∙ unpadded 0 limits.nogoods s.nogoods (room_few s room)

-- the nogoods as they are listed
pub listed_long : (X : List ℕ) (count : ℕ) (places : List ℕ) → Listed X count places → length places ≡ limits.nogoods
listed_long X count places n = ap length n.lie ∙ length_padded 0 limits.nogoods X

pub listed_few : (X : List ℕ) (count : ℕ) (places : List ℕ) → Listed X count places → length X ≤ limits.nogoods
listed_few X count places n = omega (arith, n.counted, n.few)

pub listed_taken : (X : List ℕ) (count : ℕ) (places : List ℕ) → Listed X count places → take count places ≡ X
listed_taken X count places n = ap₂ (λ (c : ℕ) (l : List ℕ). take c l) n.counted n.lie ∙ unpadded 0 limits.nogoods X (omega (arith, n.counted, n.few))

-- ---- stage 0, assumption by assumption

abbrev alones : ℕ → List (List ℕ)
alones n = table n (λ i. alone (suc i) ∷ [])

abbrev pub sizes_to : ℕ → List ℕ
sizes_to n = table limits.numbers (size (alones n))

abbrev pub members_to : ℕ → List ℕ
members_to n = table (limits.numbers * limits.label) (member (alones n))

pub sizes_none : replicate limits.numbers 0 ≡ sizes_to 0
unfolding table
sizes_none = replicate_table limits.numbers 0

pub members_none : replicate (limits.numbers * limits.label) 0 ≡ members_to 0
unfolding table
members_none = replicate_table (limits.numbers * limits.label) 0

module _ (n : ℕ) (low : n < limits.numbers) where
  alone_here : get_or (alones (n + 1)) n [] ≡ alone (suc n) ∷ []
  alone_here = get_d_table (n + 1) (λ i. alone (suc i) ∷ []) n [] (omega arith)

  alone_others : (i : ℕ) → (i ≡ n → ⊥) → get_or (alones n) i [] ≡ get_or (alones (n + 1)) i []
  alone_others i ne = elim (dec_lt i n) [
    | yes p ↦ get_d_table n (λ i. alone (suc i) ∷ []) i [] p ∙ sym (get_d_table (n + 1) (λ i. alone (suc i) ∷ []) i [] (omega arith))
    | no p ↦ (let q : n < i = past i ne p in
        get_or-eq_default (alones n) [] {n = i} (omega (arith, length_table n (λ i. alone (suc i) ∷ [])))
        ∙ sym (get_or-eq_default (alones (n + 1)) [] {n = i} (omega (arith, length_table (n + 1) (λ i. alone (suc i) ∷ [])))))
  ]
    where
      past : (i : ℕ) → (i ≡ n → ⊥) → (i < n → ⊥) → n < i
      past i ne p = omega arith

  pub sizes_more : (l : List ℕ) → l ≡ sizes_to n → set l n 1 ≡ sizes_to (n + 1)
  sizes_more l e = ap (λ (x : List ℕ). set x n 1) e ∙ write_size (alones n) (alones (n + 1)) n low (alone (suc n) ∷ []) alone_here alone_others

  pub members_more : (l : List ℕ) → l ≡ members_to n → (v : ℕ) → v ≡ alone (n + 1) → set l (limits.label * n) v ≡ members_to (n + 1)
  members_more l e v w =
      ap₂ (λ (x : List ℕ) (y : ℕ). set x (limits.label * n) y) e (w ∙ ap alone (add-one n))
      ∙ write_one (alones n) (alones (n + 1)) n low (alone (suc n) ∷ []) alone_here alone_others (alone (suc n)) refl
      (get_or-eq_default (alones n) [] {n = n} (omega (arith, length_table n (λ i. alone (suc i) ∷ []))))

pub start_made : (A n : ℕ) (sizes members nogoods : List ℕ) → n ≡ A → sizes ≡ sizes_to n → members ≡ members_to n → nogoods ≡ replicate limits.nogoods 0
    → ◌≡◌ {A = Lists} (record { sizes = sizes; members = members; count = 0; nogoods = nogoods; depth = 0 }) (lists_of 0 (first_stage A))
unfolding lists_of first_stage padded
start_made A n sizes members nogoods e s m g =
    ap₂ (λ (z x : List ℕ). filled z x nogoods) (s ∙ ap sizes_to e) (m ∙ ap members_to e) ∙ ap (filled (sizes_to A) (members_to A)) (g ∙ replicate_table limits.nogoods 0)
  where
    filled : List ℕ → List ℕ → List ℕ → Lists
    filled z x n = record { sizes = z; members = x; count = 0; nogoods = n; depth = 0 }

-- the lists of stage 0 are those that the start gives
pub start_is : (A M : ℕ) (J : List Justification) → lists_of 0 (stage_at A (A + M) J 0) ≡ lists_of 0 (first_stage A)
unfolding first_stage alone
start_is A M J =
    lists_same 0 (stage_at A (A + M) J 0) (first_stage A) (stage_nogoods A (A + M) J 0 ∙ nogoods_zero A J)
    (λ i. elim (dec_lt i A) [
      | yes p ↦ stage_label A (A + M) J 0 i (omega arith) ∙ label_zero A J i p ∙ sym (first_label i p)
      | no p ↦ elim (dec_lt i (A + M)) [
        | yes q ↦ stage_label A (A + M) J 0 i q ∙ label_zero_above A J i (omega arith) ∙ sym (no_label i (omega arith))
        | no q ↦ stage_label_none A (A + M) J 0 i (omega arith) ∙ sym (no_label i (omega arith))
      ]
    ])
  where
    first_label : (i : ℕ) → i < A → get_or (alones A) i [] ≡ alone (suc i) ∷ []
    first_label i p = get_d_table A (λ i. alone (suc i) ∷ []) i [] p

    no_label : (i : ℕ) → A ≤ i → get_or (alones A) i [] ≡ []
    no_label i p = get_or-eq_default (alones A) [] {n = i} (omega (arith, length_table A (λ i. alone (suc i) ∷ [])))
