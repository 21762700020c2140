-- The fields of a line, found one after the other, are all its fields. Assumes nothing.
use mathlib.Core.Bool.{Bool, true}
use mathlib.Core.List.{List, [], ◌∷◌}
use mathlib.Core.Logic.{⊎_elim}
use mathlib.Core.Path.{◌∙◌, ◌≡◌, ap, ap₂, refl, sym}
use Prim.Native.Nat.{◌*◌, ◌+◌, ◌-◌, ◌/◌, ◌<◌, ◌≤◌, suc, zero, ℕ}
use native.Mathlib.Decide.{dec_lt}
use native.Mathlib.Omega.{arith}
use lib.Dec.{eqb, ltb}
use lib.ListN.{drop, length, length-drop, take}
use lib.Seq.{length-take-le}
use borrow.Author.Tests.{le-ltb, lt-ltb}
use Rattle.script.proofs.Places.{leading_few, past_on, past_rest, past_within}
use Rattle.script.specs.Promised.{IsField}
use Rattle.script.specs.Script.{field_at, fields_of, leading, longer, other, parts_of, past}
use Rattle.script.specs.declared.Span.{Span}
use Rattle.theory.proofs.Lists.{either}
use Rattle.theory.specs.Lists.{choose, keep, those}

-- ---- lists

-- a field or another part that is not empty
abbrev some_byte : List ℕ → Bool
some_byte part = ltb 0 (length part)

-- the parts after the separator that the rest begins with
unfoldable pub later : ℕ → List ℕ → List (List ℕ)
later s [] = []
later s (b ∷ l) = parts_of s l

module _ (s : ℕ) where
  -- the first part and the others
  pub parts_first : (l : List ℕ) → parts_of s l ≡ take (leading (other s) l) l ∷ later s (drop (leading (other s) l) l)
  unfolding parts_of leading later
  parts_first [] = refl
  parts_first (b ∷ l) = ⊎_elim
      (λ e. rw e)
      (λ e. rw e (ap (longer b) (parts_first l)))
      (either (eqb s b))

  -- an empty part more or less is no field more or less
  later_same : (l : List ℕ) → those some_byte (later s (drop (leading (other s) l) l)) ≡ those some_byte (parts_of s (drop (leading (other s) l) l))
  unfolding parts_of leading later those
  later_same [] = refl
  later_same (b ∷ l) = ⊎_elim
      (λ e. rw e (rw e))
      (λ e. rw e (later_same l))
      (either (eqb s b))

-- leading spaces do not matter
fields_start : (l : List ℕ) → fields_of l ≡ fields_of (drop (leading (eqb 32) l) l)
unfolding fields_of parts_of leading those
fields_start [] = refl
fields_start (b ∷ l) = ⊎_elim
    (λ e. rw e (fields_start l))
    (λ e. rw e (rw e))
    (either (eqb 32 b))

-- after them either a field begins or the line ends
nothing_left : (l : List ℕ) → leading (other 32) (drop (leading (eqb 32) l) l) ≡ 0 → drop (leading (eqb 32) l) l ≡ []
unfolding leading
nothing_left [] h = refl
nothing_left (b ∷ l) h = ⊎_elim
    (λ e. let k = rw e at h in rw e (nothing_left l k))
    (λ e. let k = rw e at (rw e at h) in absurd (omega arith))
    (either (eqb 32 b))

-- the first field and the others
fields_first : (l : List ℕ) → fields_of l ≡ keep (some_byte (take (leading (other 32) l) l)) (take (leading (other 32) l) l) (fields_of (drop (leading (other 32) l) l))
unfolding fields_of those
fields_first l = ap (those some_byte) (parts_first 32 l) ∙ ap (keep (some_byte (take (leading (other 32) l) l)) (take (leading (other 32) l) l)) (later_same 32 l)

-- ---- there are few fields: after the first, each has a space before it

-- the first part's bytes, and two for each later field
weight : List (List ℕ) → ℕ
weight [] = 0
weight (part ∷ parts) = 2 * length (those some_byte parts) + length part

weight_fields : (parts : List (List ℕ)) → 2 * length (those some_byte parts) ≤ suc (weight parts)
unfolding weight those
weight_fields [] = omega arith
weight_fields ([] ∷ parts) = omega arith
weight_fields ((b ∷ part) ∷ parts) = rw (lt-ltb 0 (suc (length part)) (omega arith)) (omega arith)

weight_longer : (b : ℕ) (parts : List (List ℕ)) → weight (longer b parts) ≤ suc (weight parts)
unfolding weight
weight_longer b [] = omega arith
weight_longer b (part ∷ parts) = omega arith

weight_parts : (s : ℕ) (l : List ℕ) → weight (parts_of s l) ≤ length l
unfolding weight parts_of those
weight_parts s [] = omega arith
weight_parts s (b ∷ l) = ⊎_elim
    (λ e. rw e (omega (arith, weight_fields (parts_of s l), weight_parts s l)))
    (λ e. rw e (omega (arith, weight_longer b (parts_of s l), weight_parts s l)))
    (either (eqb s b))

pub fields_few : (l : List ℕ) → 2 * length (fields_of l) ≤ suc (length l)
unfolding fields_of
fields_few l = omega (arith, weight_fields (parts_of 32 l), weight_parts 32 l)

-- more than half as many places as the line has bytes are room for its fields
pub fields_room : (l : List ℕ) (at room : ℕ) → length l / 2 < room → length (fields_of (drop at l)) ≤ room
fields_room l at room h = omega (arith, fields_few (drop at l), length-drop at l)

-- ---- places

module _ (l : List ℕ) (at : ℕ) where
  abbrev from : ℕ
  from = past (eqb 32) l at

  abbrev to : ℕ
  to = past (other 32) l from

  abbrev size : ℕ
  size = leading (other 32) (drop from l)

  from_rest : drop from l ≡ drop (leading (eqb 32) (drop at l)) (drop at l)
  from_rest = past_rest (eqb 32) l at

  to_size : to ≡ from + size
  unfolding past
  to_size = omega (arith, past_within (eqb 32) l at)

  from_fields : fields_of (drop at l) ≡ fields_of (drop from l)
  from_fields = fields_start (drop at l) ∙ ap fields_of (sym from_rest)

  order_at : (field_at l at).from ≤ (field_at l at).to
  unfolding field_at
  order_at = omega (arith, to_size)

  within_at : (field_at l at).to ≤ length l
  unfolding field_at
  within_at = past_within (other 32) l from

  on_at : (field_at l at).from < (field_at l at).to → at ≤ (field_at l at).from
  unfolding field_at
  on_at h = omega (arith, past_on (eqb 32) l at, past_within (other 32) l from)

  none_at : (field_at l at).from ≡ (field_at l at).to → fields_of (drop at l) ≡ []
  unfolding field_at fields_of parts_of those
  none_at h =
      let n : size ≡ 0 = omega (arith, to_size) in
      fields_start (drop at l) ∙ ap fields_of (nothing_left (drop at l) (ap (leading (other 32)) (sym from_rest) ∙ n))

  last_at : (field_at l at).from ≡ (field_at l at).to → (field_at l at).from ≡ length l
  unfolding field_at
  last_at h =
      let n : size ≡ 0 = omega (arith, to_size) in
      let e : drop from l ≡ [] = from_rest ∙ nothing_left (drop at l) (ap (leading (other 32)) (sym from_rest) ∙ n) in
      omega (arith, past_within (eqb 32) l at, length-drop from l, ap length e)

  some_at : (field_at l at).from < (field_at l at).to → fields_of (drop at l) ≡ take ((field_at l at).to - (field_at l at).from) (drop (field_at l at).from l) ∷ fields_of (drop (field_at l at).to l)
  unfolding field_at
  some_at h =
      let n : size ≡ to - from = omega (arith, to_size) in
      let k : size ≤ length (drop from l) = leading_few (other 32) (drop from l) in
      let b : some_byte (take size (drop from l)) ≡ true = lt-ltb 0 (length (take size (drop from l))) (omega (arith, length-take-le size (drop from l) k, to_size)) in
      from_fields
      ∙ fields_first (drop from l)
      ∙ ap (λ (t : Bool). keep t (take size (drop from l)) (fields_of (drop size (drop from l)))) b
      ∙ ap₂ (λ (i : ℕ) (rest : List ℕ). take i (drop from l) ∷ fields_of rest) n (sym (past_rest (other 32) l from))

-- ---- the field s that is found from a place on

-- a field from a place on, within the line
pub record Inside (l : List ℕ) (at : ℕ) (s : Span) : Type 0 where
  pub on : at ≤ s.from
  pub filled : s.from < s.to
  pub within : s.to ≤ length l

module _ (l : List ℕ) (at : ℕ) (s : Span) (found : IsField l at s) where
  -- its places stand in order within the line
  pub field_order : s.from ≤ s.to
  field_order = rw found (order_at l at)

  pub field_within : s.to ≤ length l
  field_within = rw found (within_at l at)

  -- where there is one it stands past the place that was looked from
  pub field_inside : (s.from ≡ s.to → ⊥) → Inside l at s
  field_inside h =
      let k : s.from < s.to = omega (arith, field_order) in
      record { on = rw found (on_at l at (rw found at k)); filled = k; within = field_within }

  -- where there is none both places are the length
  pub field_last : s.from ≡ s.to → s.from ≡ length l
  field_last h = rw found (last_at l at (rw found at h))

  -- where it is empty there is none
  pub field_none : s.from ≡ s.to → fields_of (drop at l) ≡ []
  field_none h = none_at l at (rw found at h)

  -- else it is the first, and the others are those from the place after it on
  pub field_some : (s.from ≡ s.to → ⊥) → fields_of (drop at l) ≡ take (s.to - s.from) (drop s.from l) ∷ fields_of (drop s.to l)
  field_some h = let k : s.from < s.to = omega (arith, field_order) in rw found (some_at l at (rw found at k))

-- ---- walking from field to field

-- the fields that a walk finds from a place on: each from the place after the one before; n at most
unfoldable pub found_fields : ℕ → List ℕ → ℕ → List (List ℕ)
found_fields zero l at = []
found_fields (suc n) l at =
    let s : Span = field_at l at in
    let after : List (List ℕ) = found_fields n l s.to in
    choose (ltb s.from s.to) (take (s.to - s.from) (drop s.from l) ∷ after) []

-- a walk finds exactly the fields from its place on
pub fields_found : (n : ℕ) (l : List ℕ) (at : ℕ) → length l - at < n → found_fields n l at ≡ fields_of (drop at l)
unfolding found_fields
fields_found zero l at h = absurd (omega arith)
fields_found (suc n) l at h = elim (dec_lt (field_at l at).from (field_at l at).to) [
  | yes p ↦ rw (lt-ltb (field_at l at).from (field_at l at).to p) (
      ap (λ (fs : List (List ℕ)). take ((field_at l at).to - (field_at l at).from) (drop (field_at l at).from l) ∷ fs)
      (fields_found n l (field_at l at).to (omega (arith, on_at l at p, within_at l at)))
      ∙ sym (some_at l at p))
  | no p ↦ rw (le-ltb (field_at l at).from (field_at l at).to (omega arith)) (sym (none_at l at (omega (arith, order_at l at))))
]

-- from place 0 on it finds the fields of the line
pub fields_all : (l : List ℕ) → found_fields (suc (length l)) l 0 ≡ fields_of l
fields_all l = fields_found (suc (length l)) l 0 (omega arith)
