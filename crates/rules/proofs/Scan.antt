-- What is held, one justification after the other, as the loops go over it. Assumes nothing.
use mathlib.Core.Bool.{Bool, ◌&&◌, false, true}
use mathlib.Core.List.{List, ◌∷◌, map}
use mathlib.Core.Path.{◌∙◌, ◌≡◌, ap, ap₂, sym}
use Prim.Native.Nat.{◌+◌, ◌-◌, ◌<◌, ◌≤◌, suc, ℕ}
use native.Mathlib.Decide.{dec_lt}
use native.Mathlib.Omega.{arith}
use lib.Dec.{eqb, leb}
use lib.ListN.{get_or-map, drop, drop_of_length-le, get_or, length, length-map, take}
use lib.Seq.{drop-cons, get_or-take, length-take-le}
use borrow.Author.Tests.{eq-eqb, eqb-true, le-leb, leb-true, lt-leb}
use Rattle.rules.proofs.Steps.{and_first, beyond}
use Rattle.rules.specs.Held.{fitting, held_right, meaning, ordered, said_by, unused_entry}
use Rattle.rules.specs.declared.Entry.{Entry}
use Rattle.rules.specs.declared.Held.{Held}
use Rattle.theory.proofs.Lists.{and_left, and_right}
use Rattle.theory.specs.Limits.{limits}
use Rattle.theory.specs.Lists.{all_of}
use Rattle.theory.specs.Stages.{Justification, ahead}

-- ---- justifications in order
module _ (l : List Justification) (j : ℕ) where
  ordered_step : (z : Justification) → suc j < length l → ordered (drop j l) ≡ ahead (get_or l j z) (get_or l (suc j) z) && ordered (drop (suc j) l)
  unfolding ordered
  ordered_step z h =
      let q : j < length l = omega arith in
      ap ordered (drop-cons l j z q ∙ ap (λ (m : List Justification). get_or l j z ∷ m) (drop-cons l (suc j) z h))
      ∙ ap (λ (m : List Justification). ahead (get_or l j z) (get_or l (suc j) z) && ordered m) (sym (drop-cons l (suc j) z h))

  pub ordered_end : length l ≤ suc j → ordered (drop j l) ≡ true
  unfolding ordered
  ordered_end h = elim (dec_lt j (length l)) [
    | yes q ↦ let e : length l ≤ suc j = h in ap ordered (drop-cons l j no_justification q ∙ ap (λ (m : List Justification). get_or l j no_justification ∷ m) (drop_of_length-le l {i = suc j} e))
    | no q ↦ ap ordered (drop_of_length-le l {i = j} (omega arith))
  ]
    where
      no_justification : Justification
      no_justification = meaning beyond

-- ---- the justifications of the first n places, one by one
module _ (entries : List Entry) (n : ℕ) (fits : n ≤ length entries) where
  abbrev from : ℕ → List Justification
  from i = drop i (map meaning (take n entries))

  pub said_length : length (map meaning (take n entries)) ≡ n
  said_length = length-map (take n entries) meaning ∙ length-take-le n entries fits

  pub said_at : (i : ℕ) → i < n → get_or (map meaning (take n entries)) i (meaning beyond) ≡ meaning (get_or entries i beyond)
  said_at i h = get_or-map meaning (take n entries) i beyond ∙ ap meaning (get_or-take n entries i beyond h)

  module _ (j : ℕ) (low : 1 ≤ j) where
    order_step : j < n → ordered (from (j - 1)) ≡ ahead (meaning (get_or entries (j - 1) beyond)) (meaning (get_or entries j beyond)) && ordered (from j)
    order_step h =
        let s : suc (j - 1) ≡ j = omega arith in
        let k : suc (j - 1) < length (map meaning (take n entries)) = omega (arith, said_length) in
        ordered_step (map meaning (take n entries)) (j - 1) (meaning beyond) k
        ∙ ap (λ (i : ℕ). ahead (get_or (map meaning (take n entries)) (j - 1) (meaning beyond)) (get_or (map meaning (take n entries)) i (meaning beyond)) && ordered (from i)) s
        ∙ ap₂ (λ (r t : Justification). ahead r t && ordered (from j)) (said_at (j - 1) (omega arith)) (said_at j h)

    pub order_hit : j < n → ahead (meaning (get_or entries (j - 1) beyond)) (meaning (get_or entries j beyond)) ≡ true → ordered (from (j - 1)) ≡ ordered (from j)
    order_hit h t = order_step h ∙ ap (λ (b : Bool). b && ordered (from j)) t

    pub order_miss : j < n → ahead (meaning (get_or entries (j - 1) beyond)) (meaning (get_or entries j beyond)) ≡ false → ordered (from (j - 1)) ≡ false
    order_miss h t = order_step h ∙ ap (λ (b : Bool). b && ordered (from j)) t

    pub order_end : n ≤ j → ordered (from (j - 1)) ≡ true
    order_end h = ordered_end (map meaning (take n entries)) (j - 1) (omega (arith, said_length))

-- ---- the right shape
module _ (h : Held) where
  pub right_many : limits.held < h.count → false ≡ held_right h
  unfolding held_right
  right_many p = rw (lt-leb h.count limits.held p)

  module _ (few : h.count ≤ limits.held) (long : length h.entries ≡ limits.held) where
    abbrev N : ℕ
    N = h.assumptions + h.claims

    -- in range and in order
    abbrev placed : Bool
    placed = all_of (fitting N) (take h.count h.entries) && ordered (said_by h)

    pub right_out : placed ≡ false → false ≡ held_right h
    unfolding held_right
    right_out p = rw (le-leb h.count limits.held few, eq-eqb (length h.entries) limits.held long) (sym (and_first (all_of (fitting N) (take h.count h.entries)) (ordered (said_by h)) _ p))

    pub right_rest : placed ≡ true → (r : Bool) → r ≡ all_of unused_entry (drop h.count h.entries) → r ≡ held_right h
    unfolding held_right
    right_rest p r e =
        let F : Bool = all_of (fitting N) (take h.count h.entries) in
        rw (le-leb h.count limits.held few, eq-eqb (length h.entries) limits.held long, and_left F (ordered (said_by h)) p, and_right F (ordered (said_by h)) p) e

-- what a right shape says
pub record Right (h : Held) : Type 0 where
  pub few : h.count ≤ limits.held
  pub long : length h.entries ≡ limits.held
  pub fits : all_of (fitting (h.assumptions + h.claims)) (take h.count h.entries) ≡ true
  pub order : ordered (said_by h) ≡ true
  pub spare : all_of unused_entry (drop h.count h.entries) ≡ true

pub right_elim : (h : Held) → held_right h ≡ true → Right h
unfolding held_right
right_elim h r =
    let r₁ = and_right (leb h.count limits.held) _ r in
    let r₂ = and_right (eqb (length h.entries) limits.held) _ r₁ in
    let F : Bool = all_of (fitting (h.assumptions + h.claims)) (take h.count h.entries) in
    let r₃ = and_right F _ r₂ in
    record {
      few = leb-true h.count limits.held (and_left (leb h.count limits.held) _ r);
      long = eqb-true (length h.entries) limits.held (and_left (eqb (length h.entries) limits.held) _ r₁);
      fits = and_left F _ r₂;
      order = and_left (ordered (said_by h)) _ r₃;
      spare = and_right (ordered (said_by h)) _ r₃;
    }

pub right_intro : (h : Held) → Right h → held_right h ≡ true
unfolding held_right
right_intro h r = rw (le-leb h.count limits.held r.few, eq-eqb (length h.entries) limits.held r.long, r.fits, r.order) r.spare

pub right_inside : (h : Held) → held_right h ≡ true → h.count ≤ length h.entries
right_inside h r = let k = right_elim h r in omega (arith, k.few, k.long)
