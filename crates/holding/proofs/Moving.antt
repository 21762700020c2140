-- Places moved up by one, and one put in among them. Assumes nothing.
use mathlib.Core.List.{List, ◌++◌, ◌∷◌}
use mathlib.Core.Logic.{⊎_elim}
use mathlib.Core.Path.{◌∙◌, ◌≡◌, ap, refl, sym}
use Prim.Native.Nat.{◌+◌, ◌-◌, ◌<◌, ◌≤◌, suc, ℕ}
use native.Mathlib.Decide.{dec_lt}
use native.Mathlib.Nat.{eq-or-lt_of_le}
use native.Mathlib.Omega.{arith}
use lib.ListN.{get_or-append, drop, get_or, length, length-append, length-drop, length-set, set, take}
use lib.Seq.{ext_get_or, get_or-append-add, get_or-drop, get_or-set_other, get_or-set_same, get_or-take, length-take-le}
use Rattle.holding.specs.Placing.{insert_at}
use Rattle.rules.proofs.Steps.{beyond}
use Rattle.rules.specs.declared.Entry.{Entry}

-- ---- places moved up by one, down to place i
pub record Shifting (l m : List Entry) (i n : ℕ) : Type 0 where
  pub long : length m ≡ length l
  pub low : (k : ℕ) → k ≤ i → get_or m k beyond ≡ get_or l k beyond
  pub moved : (k : ℕ) → i ≤ k → k < n → get_or m (k + 1) beyond ≡ get_or l k beyond
  pub high : (k : ℕ) → n < k → get_or m k beyond ≡ get_or l k beyond

pub shift_none : (l : List Entry) (n : ℕ) → Shifting l l n n
shift_none l n = record { long = refl; low = λ k h. refl; moved = λ k p q. absurd (omega arith); high = λ k h. refl }

pub shift_more : (l m : List Entry) (i n : ℕ) → 0 < i → i ≤ n → n < length l → Shifting l m i n → Shifting l (set m i (get_or m (i - 1) beyond)) (i - 1) n
shift_more l m i n p q r s = record {
  long = length-set m i (get_or m (i - 1) beyond) ∙ s.long;
  low = λ k h. get_or-set_other m i k (get_or m (i - 1) beyond) beyond (λ e. omega arith) ∙ s.low k (omega arith);
  moved = λ k h j. ⊎_elim
      (λ (e : i - 1 ≡ k).
      let f : k + 1 ≡ i = omega arith in
      ap (λ (x : ℕ). get_or (set m i (get_or m (i - 1) beyond)) x beyond) f ∙ get_or-set_same m i (get_or m (i - 1) beyond) beyond (omega (arith, s.long)) ∙ s.low (i - 1) (omega arith) ∙ ap (λ (x : ℕ). get_or l x beyond) e)
      (λ (o : i - 1 < k). get_or-set_other m i (k + 1) (get_or m (i - 1) beyond) beyond (λ e. omega arith) ∙ s.moved k (omega arith) j)
      (eq-or-lt_of_le h);
  high = λ k h. get_or-set_other m i k (get_or m (i - 1) beyond) beyond (λ e. omega arith) ∙ s.high k h;
}

-- what stands where after an insertion
module _ (l : List Entry) (at n : ℕ) (j : Entry) (q : at ≤ n) (o : n < length l) where
  front : length (take at l) ≡ at
  front = length-take-le at l (omega arith)

  middle : length (take (n - at) (drop at l)) ≡ n - at
  middle = length-take-le (n - at) (drop at l) (omega (arith, length-drop at l))

  pub insert_length : length (insert_at l at n j) ≡ length l
  unfolding insert_at
  insert_length =
      let e : length (take at l ++ (j ∷ (take (n - at) (drop at l) ++ drop (suc n) l))) ≡ length (take at l) + suc (length (take (n - at) (drop at l) ++ drop (suc n) l)) = length-append (take at l) (j ∷ (take (n - at) (drop at l) ++ drop (suc n) l)) in
      omega (arith, e, front, middle, length-append (take (n - at) (drop at l)) (drop (suc n) l), length-drop (suc n) l)

  pub insert_low : (k : ℕ) → k < at → get_or (insert_at l at n j) k beyond ≡ get_or l k beyond
  unfolding insert_at
  insert_low k h = get_or-append (take at l) (j ∷ (take (n - at) (drop at l) ++ drop (suc n) l)) beyond k (omega (arith, front)) ∙ get_or-take at l k beyond h

  -- the place at + i of the whole
  past : (i : ℕ) → get_or (insert_at l at n j) (at + i) beyond ≡ get_or (j ∷ (take (n - at) (drop at l) ++ drop (suc n) l)) i beyond
  unfolding insert_at
  past i = ap (λ (m : ℕ). get_or (insert_at l at n j) (m + i) beyond) (sym front) ∙ get_or-append-add (take at l) (j ∷ (take (n - at) (drop at l) ++ drop (suc n) l)) i beyond

  pub insert_here : get_or (insert_at l at n j) at beyond ≡ j
  insert_here = ap (λ (m : ℕ). get_or (insert_at l at n j) m beyond) (omega_zero at) ∙ past 0
    where
      omega_zero : (x : ℕ) → x ≡ x + 0
      omega_zero x = omega arith

  pub insert_moved : (k : ℕ) → at ≤ k → k < n → get_or (insert_at l at n j) (k + 1) beyond ≡ get_or l k beyond
  insert_moved k h g =
      let e : k + 1 ≡ at + suc (k - at) = omega arith in
      let f : at + (k - at) ≡ k = omega arith in
      ap (λ (m : ℕ). get_or (insert_at l at n j) m beyond) e ∙ past (suc (k - at))
      ∙ get_or-append (take (n - at) (drop at l)) (drop (suc n) l) beyond (k - at) (omega (arith, middle))
      ∙ get_or-take (n - at) (drop at l) (k - at) beyond (omega arith) ∙ get_or-drop at l (k - at) beyond ∙ ap (λ (m : ℕ). get_or l m beyond) f

  pub insert_high : (k : ℕ) → n < k → get_or (insert_at l at n j) k beyond ≡ get_or l k beyond
  insert_high k h =
      let m : ℕ = length (take (n - at) (drop at l)) in
      let e : k ≡ at + suc (m + (k - suc n)) = omega (arith, middle) in
      let f : suc n + (k - suc n) ≡ k = omega arith in
      ap (λ (x : ℕ). get_or (insert_at l at n j) x beyond) e ∙ past (suc (m + (k - suc n)))
      ∙ get_or-append-add (take (n - at) (drop at l)) (drop (suc n) l) (k - suc n) beyond ∙ get_or-drop (suc n) l (k - suc n) beyond ∙ ap (λ (x : ℕ). get_or l x beyond) f

  pub shift_put : (m : List Entry) → Shifting l m at n → set m at j ≡ insert_at l at n j
  shift_put m s =
      ext_get_or beyond (set m at j) (insert_at l at n j) (length-set m at j ∙ s.long ∙ sym insert_length)
      (λ k h. elim (dec_lt k at) [
        | yes a ↦ get_or-set_other m at k j beyond (λ e. omega arith) ∙ s.low k (omega arith) ∙ sym (insert_low k a)
        | no a ↦ ⊎_elim
            (λ (e : at ≡ k). ap (λ (x : ℕ). get_or (set m at j) x beyond) (sym e) ∙ get_or-set_same m at j beyond (omega (arith, s.long)) ∙ sym insert_here ∙ ap (λ (x : ℕ). get_or (insert_at l at n j) x beyond) e)
            (λ (b : at < k). get_or-set_other m at k j beyond (λ e. omega arith) ∙ elim (dec_lt n k) [
              | yes g ↦ s.high k g ∙ sym (insert_high k g)
              | no g ↦ (let e : k - 1 + 1 ≡ k = omega arith in
                  ap (λ (x : ℕ). get_or m x beyond) (sym e) ∙ s.moved (k - 1) (omega arith) (omega arith) ∙ sym (insert_moved (k - 1) (omega arith) (omega arith)) ∙ ap (λ (x : ℕ). get_or (insert_at l at n j) x beyond) e)
            ])
            (eq-or-lt_of_le (not_lt at k a))
      ])
    where
      not_lt : (a k : ℕ) → (k < a → ⊥) → a ≤ k
      not_lt a k f = omega arith
