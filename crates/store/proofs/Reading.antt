-- Whether a label is empty, by its size; when a call that reads is refused, and what is known when it is not. Assumes nothing.
use mathlib.Core.Bool.{Bool, ◌||◌, false, not, true}
use mathlib.Core.Path.{◌∙◌, ◌≡◌, ap, refl, subst, sym}
use Prim.Native.Nat.{◌*◌, ◌-◌, ◌<◌, ◌^◌, ◌≤◌, suc, ℕ}
use native.Mathlib.Omega.{arith}
use lib.Dec.{ltb}
use lib.ListN.{drop, get_or, length, length-drop, length-take}
use lib.Pow.{pow_pos}
use borrow.Author.Tests.{eq-eqb, le-ltb, lt-ltb, ltb-false, ne_eqb}
use Rattle.replies.specs.Replies.{checked}
use Rattle.std.specs.Prelude.{Err, Ok, ⊤}
use Rattle.replies.specs.declared.Reply.{Reply}
use Rattle.replies.specs.declared.Reply.TheVariants.{Done, Number, Shape}
use Rattle.stages.specs.declared.Lists.{Lists}
use Rattle.store.proofs.Shapes.{Fitting, shape_elim}
use Rattle.store.specs.Reading.{label_held, refusal_of, unlabelled}
use Rattle.store.specs.Shape.{right_shape, top}
use Rattle.store.specs.declared.Store.{Store}
use Rattle.theory.proofs.Lists.{clash}
use Rattle.theory.specs.Limits.{limits}
use Rattle.theory.specs.Lists.{choose}
use Rattle.theory.specs.Sets.{in_range}

module _ (l : Lists) (n : ℕ) (from : n ≡ 0 → ⊥) where
  abbrev size : ℕ
  size = get_or l.sizes (n - 1) 0

  number : suc (n - 1) ≡ n
  number = omega arith

  pub unlabelled_yes : size ≤ 0 → unlabelled l n ≡ true
  unlabelled_yes h =
      subst (λ (k : ℕ). unlabelled l k ≡ true) number
      (eq-eqb (length (label_held l (suc (n - 1)))) 0 (omega (arith, length-take size (drop (limits.label * (n - 1)) l.members))))

  pub unlabelled_no : limits.label * (n - 1) < length l.members → 0 < size → unlabelled l n ≡ false
  unlabelled_no room h =
      subst (λ (k : ℕ). unlabelled l k ≡ false) number
      (ne_eqb (length (label_held l (suc (n - 1)))) 0
      (λ e. absurd (omega (arith, length-take size (drop (limits.label * (n - 1)) l.members), length-drop (limits.label * (n - 1)) l.members))))

-- ---- refusals 2 and 4 of a call that reads

-- the reply of two tests: the shape, then a fault
abbrev tested : Bool → Bool → Reply
tested right fault = choose (not right) Shape (choose fault Number Done)

-- .. decides what a call answers, as long as that goes by the same tests
tested_refused : {X : Type 0} (f : Reply → X) (x : X) (r : Reply) (p q : Bool) → Err r ≡ checked (tested p q) → f r ≡ choose (not p) (f Shape) (choose q (f Number) x)
unfolding checked
tested_refused f x r false q e = cc
tested_refused f x r true true e = cc
tested_refused f x r true false e = cc

tested_done : (u : ⊤) (p q : Bool) → Ok u ≡ checked (tested p q) → (p ≡ true) × (q ≡ false)
unfolding checked
tested_done u false q e = cc
tested_done u true true e = cc
tested_done u true false e = (refl, refl)

or_false : (p q : Bool) → p || not q ≡ false → (p ≡ false) × (q ≡ true)
or_false false true e = (refl, refl)
or_false false false e = clash refl e
or_false true q e = clash refl e

-- the empty set has no assumption above any
none_low : (A : ℕ) → in_range A 0 ≡ true
unfolding in_range
none_low A = lt-ltb 0 (2 ^ A) (pow_pos A)

-- what is known of a store, a number and a set when a call that reads them is not refused
pub record Readable (s : Store) (n E : ℕ) : Type 0 where
  pub right : right_shape s ≡ true
  pub number : n ≤ top s.held
  pub set : in_range s.held.assumptions E ≡ true
  pub fit : Fitting s.held

module _ (s : Store) (n E : ℕ) where
  pub refusal_shape : right_shape s ≡ false → Err Shape ≡ checked (refusal_of s n E)
  unfolding checked refusal_of
  refusal_shape h = rw h

  pub refusal_number : right_shape s ≡ true → top s.held < n → Err Number ≡ checked (refusal_of s n E)
  unfolding checked refusal_of
  refusal_number h k = rw (h, lt-ltb (top s.held) n k)

  pub refusal_set : right_shape s ≡ true → n ≤ top s.held → in_range s.held.assumptions E ≡ false → Err Number ≡ checked (refusal_of s n E)
  unfolding checked refusal_of
  refusal_set h k r = rw (h, le-ltb (top s.held) n k, r)

  pub refusal_none : right_shape s ≡ true → n ≤ top s.held → in_range s.held.assumptions E ≡ true → Ok tt ≡ checked (refusal_of s n E)
  unfolding checked refusal_of
  refusal_none h k r = rw (h, le-ltb (top s.held) n k, r)

  pub readable : (u : ⊤) → Ok u ≡ checked (refusal_of s n E) → Readable s n E
  unfolding refusal_of
  readable u e =
      let p = tested_done u (right_shape s) (ltb (top s.held) n || not (in_range s.held.assumptions E)) e in
      let q = or_false (ltb (top s.held) n) (in_range s.held.assumptions E) p.1 in
      record { right = p.0; number = ltb-false (top s.held) n q.0; set = q.1; fit = (shape_elim s p.0).0 }

  -- a call that goes by both
  pub refused : (r : Reply) → Err r ≡ checked (refusal_of s n E) → {X : Type 0} (f : Reply → X) (x : X)
      → f r ≡ choose (not (right_shape s)) (f Shape) (choose (ltb (top s.held) n || not (in_range s.held.assumptions E)) (f Number) x)
  unfolding refusal_of
  refused r e f x = tested_refused f x r (right_shape s) (ltb (top s.held) n || not (in_range s.held.assumptions E)) e

-- a call that goes by the number alone
pub refused_number : (s : Store) (n : ℕ) (r : Reply) → Err r ≡ checked (refusal_of s n 0) → {X : Type 0} (f : Reply → X) (x : X)
    → f r ≡ choose (not (right_shape s)) (f Shape) (choose (ltb (top s.held) n) (f Number) x)
refused_number s n r e f x =
    refused s n 0 r e f x
    ∙ ap (λ (b : Bool). choose (not (right_shape s)) (f Shape) (choose b (f Number) x)) (go (ltb (top s.held) n) (in_range s.held.assumptions 0) (none_low s.held.assumptions))
  where
    go : (p q : Bool) → q ≡ true → p || not q ≡ p
    go true q h = refl
    go false q h = ap not h

-- a call that goes by the set alone
pub refused_set : (s : Store) (E : ℕ) (r : Reply) → Err r ≡ checked (refusal_of s 0 E) → {X : Type 0} (f : Reply → X) (x : X)
    → f r ≡ choose (not (right_shape s)) (f Shape) (choose (not (in_range s.held.assumptions E)) (f Number) x)
refused_set s E r e f x =
    refused s 0 E r e f x
    ∙ ap (λ (b : Bool). choose (not (right_shape s)) (f Shape) (choose (b || not (in_range s.held.assumptions E)) (f Number) x)) (le-ltb (top s.held) 0 (omega arith))
