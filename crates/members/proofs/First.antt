-- The first member within a set: the place that is found is in the list and its member lies within the set, and where none is found no member does. Assumes nothing.
use Rattle.std.specs.Prelude.{Bool, Option, ◌||◌, false, true, List, [], ◌∷◌, ◌≡◌, cond, ◌<◌, ◌≤◌, ltb, suc, zero, ℕ, Some, None, is_some, get_or, length, refl}
use Rattle.std.proofs.Common.{◌-◌, ◌^◌, add-one, ap, ◌∙◌, arith}
use Rattle.std.proofs.Common.{◌+◌, sym}
use Rattle.std.proofs.lemmas.Iterator.Adapters.{position_from-zero}
use Rattle.std.proofs.lemmas.List.Folds.{find_at}
use Rattle.std.proofs.lemmas.List.Quantifiers.{position-Some}
use Rattle.std.proofs.lemmas.List.Sums.{position_or_len_is}
use Rattle.std.proofs.lemmas.Option.{slice_get-get_or}
use Rattle.std.specs.List.{find, position, position_from, slice_get}
use native.Mathlib.Nat.{mod-eq_of_lt}
use lib.ListN.{drop, length-drop}
use lib.Seq.{drop-cons}
use lib.Bits.{and_comm, and_le_l, and_mask, or_add_and}
use borrow.Author.Tests.{le-ltb, lt-ltb}
use Rattle.sets.proofs.Operations.{and_not}
use Rattle.sets.specs.Promised.{meet}
use Rattle.theory.proofs.Lists.{not_so}
use Rattle.theory.proofs.Sets.{or_within, within_or}
use mathlib.Core.List.{Memᴰ as Mem}
use mathlib.Core.List.Memᴰ.{head as here}
use mathlib.Core.List.Memᴰ.{tail as there}
use Rattle.members.specs.Promised.{first_within}
use Rattle.theory.specs.Lists.{some_of}
use Rattle.theory.specs.Sets.{contains, within, without}

-- E contains a set of the list exactly when the first is found
some_from : (l : List ℕ) (E n : ℕ) → contains l E ≡ is_some (position_from (λ F. within F E) n l)
unfolding contains some_of
some_from [] E n = refl
some_from (F ∷ l) E n = go (within F E) (some_from l E (n + 1))
  where
    go : (b : Bool) → contains l E ≡ is_some (position_from (λ F. within F E) (n + 1) l) → b || contains l E ≡ is_some (cond b (Some n) (position_from (λ F. within F E) (n + 1) l))
    go true h = refl
    go false h = h

pub contains_first : (l : List ℕ) (E : ℕ) → contains l E ≡ is_some (first_within l E)
contains_first l E = some_from l E 0 ∙ ap (λ (o : Option ℕ). is_some o) (sym (position_from-zero (λ F. within F E) l))

-- the place that is found: in the list, and its member lies within E
pub first_at : (l : List ℕ) (E i : ℕ) → first_within l E ≡ Some i → (i < length l) × (within (get_or l i 0) E ≡ true)
first_at l E i e = let h = position-Some (λ F. within F E) l i 0 e in (h.0, h.1)

-- ---- the search, place by place
-- what is left of a list from a place on begins with the member at that place
pub left_at : (l : List ℕ) (i : ℕ) {rest left : List ℕ} {x : ℕ} → rest ≡ drop i l → rest ≡ x ∷ left → (i < length l) × (x ≡ get_or l i 0) × (left ≡ drop (i + 1) l)
left_at l i {rest} {left} {x} p q =
    let h : i < length l = omega (arith, ap length p, ap length q, length-drop i l) in
    let e : x ∷ left ≡ get_or l i 0 ∷ drop (suc i) l = sym q ∙ p ∙ drop-cons l i 0 h in
    (h, ap (λ (m : List ℕ). get_or m 0 0) e, ap (drop 1) e ∙ ap (λ (n : ℕ). drop n l) (sym (add-one i)))

-- .. or is nothing at the end
pub left_none : (l : List ℕ) (i : ℕ) {rest : List ℕ} → rest ≡ drop i l → length rest ≡ 0 → i ≤ length l → i ≡ length l
left_none l i p q h = omega (arith, ap length p, length-drop i l)

-- no member before this place lies within E
module _ (l : List ℕ) (E i : ℕ) (passed : (k : ℕ) → k < i → within (get_or l k 0) E ≡ false) where
  placed : i ≤ length l → (i < length l → within (get_or l i 0) E ≡ true) → first_within l E ≡ cond (ltb i (length l)) (Some i) None
  placed h w = ap (λ (n : ℕ). cond (ltb n (length l)) (Some n) None) (position_or_len_is (λ F. within F E) l i 0 h passed w)

  pub first_here : i < length l → within (get_or l i 0) E ≡ true → Some i ≡ first_within l E
  first_here h w = sym (placed (omega arith) (λ q. w) ∙ ap (λ (b : Bool). cond b (Some i) None) (lt-ltb i (length l) h))

  pub first_nowhere : i ≡ length l → None ≡ first_within l E
  first_nowhere h = sym (placed (omega arith) (λ q. absurd (omega arith)) ∙ ap (λ (b : Bool). cond b (Some i) None) (le-ltb i (length l) (omega arith)))

-- ---- the test of a member: nothing of a is among what E has not
module _ (a E : ℕ) (p : a < 2 ^ 32) (q : E < 2 ^ 32) where
  out_is : meet a (without (2 ^ 32 - 1) E) ≡ a - meet a E
  unfolding without
  out_is = ap (λ (x : ℕ). meet a ((2 ^ 32 - 1) - x)) (and_comm (2 ^ 32 - 1) E ∙ and_mask E 32 ∙ mod-eq_of_lt q) ∙ and_not 32 a E p q

  pub none_out : meet a (without (2 ^ 32 - 1) E) ≡ 0 → within a E ≡ true
  none_out z = or_within a E (omega (arith, out_is, z, or_add_and a E, and_le_l a E))

  pub some_out : (meet a (without (2 ^ 32 - 1) E) ≡ 0 → ⊥) → within a E ≡ false
  some_out z = not_so (within a E) (λ t. z (omega (arith, out_is, within_or a E t, or_add_and a E, and_le_l a E)))

-- ---- the first that passes, by its place
pub placed_find : (p : ℕ → Bool) (l : List ℕ) (i : ℕ) → position p l ≡ Some i → find p l ≡ Some (get_or l i 0)
placed_find p l i e =
    let h = position-Some p l i 0 e in
    find_at p l ∙ ap (slice_get l) (position_or_len_is p l i 0 (omega (arith, h.0)) h.2 (λ q. h.1)) ∙ slice_get-get_or l i 0 h.0

none_from : (p : ℕ → Bool) (n : ℕ) (l : List ℕ) → position_from p n l ≡ None → find p l ≡ None
none_from p n [] e = refl
none_from p n (x ∷ l) e = go (p x) e (none_from p (n + 1) l)
  where
    go : (b : Bool) → cond b (Some n) (position_from p (n + 1) l) ≡ None → (position_from p (n + 1) l ≡ None → find p l ≡ None) → cond b (Some x) (find p l) ≡ None
    go true q h = cc
    go false q h = h q

pub placed_none : (p : ℕ → Bool) (l : List ℕ) → position p l ≡ None → find p l ≡ None
placed_none p l e = none_from p 0 l (sym (position_from-zero p l) ∙ e)

-- ---- by place
pub at_mem : (l : List ℕ) (i : ℕ) → i < length l → Mem (get_or l i 0) l
at_mem [] i h = absurd (omega arith)
at_mem (x ∷ l) zero h = here refl
at_mem (x ∷ l) (suc i) h = there (at_mem l i (omega arith))
