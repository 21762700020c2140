-- A label is built in listing order: its next member is the first candidate that contains no member found before. Assumes nothing.
use mathlib.Core.Bool.{Bool, false, true}
use mathlib.Core.List.Memᴰ
use mathlib.Core.List.Memᴰ.{head as here}
use mathlib.Core.List.{List, Memᴰ as Mem, [], ◌++◌, ◌∷◌}
use mathlib.Core.Logic.{◌⊎◌, inl, inr, ⊎_elim}
use mathlib.Core.Path.{◌∙◌, ◌≡◌, ap, refl, subst, sym}
use Prim.Native.Nat.{◌%◌, ◌/◌, ◌<◌, zero, ℕ}
use native.Mathlib.Omega.{arith}
use lib.Arith.{bin_ind}
use lib.Bits.{or_shr, or_step, or_zero_r}
use lib.Count.{ones, ones_step}
use lib.Dec.{eqb, ltb}
use denote.Struct.Rest.{rest}
use borrow.Author.Tests.{eqb-false, eqb-true, ltb-false, ltb-true}
use Rattle.theory.proofs.Label.{contains_elim, contains_intro}
use Rattle.theory.proofs.Lists.{clash, either, not_so}
use Rattle.theory.proofs.Order.{before_fewer, before_irrefl, before_less, before_trans, sorted_head, sorted_tail, sorted_unique}
use Rattle.theory.proofs.Sets.{or_within, within_antisym, within_or, within_trans}
use Rattle.theory.proofs.Step.{Inside}
use Rattle.theory.specs.Lists.{sorted_by}
use Rattle.theory.specs.Sets.{before, contains, union, within}

half_within : (F E : ℕ) → within F E ≡ true → within (F / 2) (E / 2) ≡ true
half_within F E w = or_within (F / 2) (E / 2) (sym (or_shr F E 1) ∙ ap (λ (x : ℕ). x / 2) (within_or F E w))

-- a part of a set is the set, or has fewer members
pub within_ones : (E F : ℕ) → within F E ≡ true → (F ≡ E) ⊎ (ones F < ones E)
within_ones =
    bin_ind (λ (E : ℕ). (F : ℕ) → within F E ≡ true → (F ≡ E) ⊎ (ones F < ones E)) (λ F w. inl (sym (or_zero_r F) ∙ within_or F zero w))
    (λ E ih F w.
    let odd : E % 2 ≡ union F E % 2 = ap (λ (x : ℕ). x % 2) (sym (within_or F E w)) in
    let m = or_step F E in
    let sF = ones_step F in
    let sE = ones_step E in
    ⊎_elim (λ (q : F / 2 ≡ E / 2).
    ⊎_elim (λ e. inl (omega (arith, eqb-true (F % 2) (E % 2) e))) (λ e. let ne = eqb-false (F % 2) (E % 2) e in inr (omega (arith, ap ones q)))
    (either (eqb (F % 2) (E % 2))))
    (λ (l : ones (F / 2) < ones (E / 2)). inr (omega arith)) (ih (F / 2) (half_within F E w)))

pub within_before : (F E : ℕ) → within F E ≡ true → (F ≡ E) ⊎ (before F E ≡ true)
within_before F E w = ⊎_elim inl (λ l. inr (before_fewer F E l)) (within_ones E F w)

pub before_total : (F E : ℕ) → before F E ≡ false → (F ≡ E) ⊎ (before E F ≡ true)
before_total F E h =
    ⊎_elim (λ a. inr (before_fewer E F (ltb-true (ones E) (ones F) a)))
    (λ a. ⊎_elim (λ b. clash (before_fewer F E (ltb-true (ones F) (ones E) b)) h)
    (λ b.
    let e : ones F ≡ ones E = omega (arith, ltb-false (ones E) (ones F) a, ltb-false (ones F) (ones E) b) in
    ⊎_elim (λ c. inr (before_less E F (sym e) (ltb-true E F c)))
    (λ c. ⊎_elim (λ d. clash (before_less F E e (ltb-true F E d)) h) (λ d. inl (omega (arith, ltb-false E F c, ltb-false F E d))) (either (ltb F E)))
    (either (ltb E F)))
    (either (ltb (ones F) (ones E))))
    (either (ltb (ones E) (ones F)))

upto_before : (F E D : ℕ) → (F ≡ E) ⊎ (before F E ≡ true) → before E D ≡ true → before F D ≡ true
upto_before F E D a h = ⊎_elim (λ (q : F ≡ E). subst (λ (v : ℕ). before v D ≡ true) (sym q) h) (λ b. before_trans F E D b h) a

-- X is sorted, no member lies within another, its members are candidates of l that pass p, and it has a member within each such candidate
pub record Selection (X l : List ℕ) (p : ℕ → Bool) : Type 0 where
  pub sorted : sorted_by before X ≡ true
  pub apart : (F E : ℕ) → Mem F X → Mem E X → within F E ≡ true → F ≡ E
  pub from : (E : ℕ) → Mem E X → Mem E l × (p E ≡ true)
  pub inner : (H : ℕ) → Mem H l → p H ≡ true → Inside X H

sorted_split : (out : List ℕ) (G : ℕ) (rest : List ℕ) → sorted_by before (out ++ G ∷ rest) ≡ true → (F : ℕ) → Mem F out → before F G ≡ true
sorted_split [] G rest h F m = elim m [ ]
sorted_split (x ∷ out) G rest h F m =
    ⊎_elim (λ (q : F ≡ x). subst (λ (v : ℕ). before v G ≡ true) (sym q) (sorted_head before x h G (Memᴰ.append_right out (here refl))))
    (λ n. sorted_split out G rest (sorted_tail before x (out ++ G ∷ rest) h) F n) (Memᴰ.cases_cons m)

sorted_rest : (out rest : List ℕ) → sorted_by before (out ++ rest) ≡ true → sorted_by before rest ≡ true
sorted_rest [] rest h = h
sorted_rest (x ∷ out) rest h = sorted_rest out rest (sorted_tail before x (out ++ rest) h)

module _ (out : List ℕ) (l : List ℕ) (p : ℕ → Bool) where
  -- a candidate that is still to be told of
  pub record Open (H : ℕ) : Type 0 where
    pub cand : Mem H l
    pub pass : p H ≡ true
    pub free : contains out H ≡ false

  -- the first member not yet found is open
  rest_open : (G : ℕ) (rest : List ℕ) → Selection (out ++ G ∷ rest) l p → Open G
  rest_open G rest s =
      let g : Mem G (out ++ G ∷ rest) = Memᴰ.append_right out (here refl) in
      record {
        cand = (s.from G g).0;
        pass = (s.from G g).1;
        free = not_so (contains out G) (λ c.
            let f = contains_elim out G c in
            let e : f.0 ≡ G = s.apart f.0 G (Memᴰ.append_left (G ∷ rest) f.1) g f.2 in
            before_irrefl G (subst (λ (v : ℕ). before v G ≡ true) e (sorted_split out G rest s.sorted f.0 f.1)));
      }

  -- nothing open: all is found
  pub done : (rest : List ℕ) → Selection (out ++ rest) l p → ((H : ℕ) → Open H → ⊥) → rest ≡ []
  done [] s f = refl
  done (G ∷ rest) s f = absurd (f G (rest_open G rest s))

  -- the first open candidate is the next member
  pub next : (rest : List ℕ) → Selection (out ++ rest) l p → (H : ℕ) → Open H → ((H' : ℕ) → Open H' → before H' H ≡ false) → (rest' : List ℕ) × (rest ≡ H ∷ rest')
  next [] s H o f =
      let i = s.inner H o.cand o.pass in
      ⊎_elim (λ m. clash (contains_intro H m i.2) o.free) (λ m. elim m [ ]) (Memᴰ.append_cases out i.1)
  next (G ∷ rest) s H o f =
      let i = s.inner H o.cand o.pass in
      let F : ℕ = i.0 in
      let first : (G ≡ F) ⊎ (before G F ≡ true) = ⊎_elim (λ m. clash (contains_intro H m i.2) o.free)
      (λ m. ⊎_elim (λ q. inl (sym q)) (λ n. inr (sorted_head before G (sorted_rest out (G ∷ rest) s.sorted) F n)) (Memᴰ.cases_cons m))
      (Memᴰ.append_cases out i.1) in
      ⊎_elim (λ (q : G ≡ H). (rest, ap (λ (x : ℕ). x ∷ rest) q))
      (λ b. absurd (before_irrefl G (upto_before G F G first (upto_before F H G (within_before F H i.2) b))))
      (before_total G H (f G (rest_open G rest s)))

-- any two selections are the same list: whatever way a list was made, if it is a selection it is the label
selection_in : (X Y l : List ℕ) (p : ℕ → Bool) → Selection X l p → Selection Y l p → (E : ℕ) → Mem E X → Mem E Y
selection_in X Y l p s r E m =
    let e = s.from E m in
    let i = r.inner E e.0 e.1 in
    let f = r.from i.0 i.1 in
    let j = s.inner i.0 f.0 f.1 in
    let q : j.0 ≡ E = s.apart j.0 E j.1 m (within_trans j.0 i.0 E j.2 i.2) in
    Memᴰ.cast (within_antisym E i.0 (subst (λ (G : ℕ). within G i.0 ≡ true) q j.2) i.2) i.1

pub selection_unique : (X Y l : List ℕ) (p : ℕ → Bool) → Selection X l p → Selection Y l p → X ≡ Y
selection_unique X Y l p s r = sorted_unique X Y s.sorted r.sorted (selection_in X Y l p s r) (selection_in Y X l p r s)
