-- All fields of a line read into lent places, one after the other as the code reads them. Assumes nothing.
use mathlib.Core.Bool.{Bool, ◌&&◌, false, true}
use mathlib.Core.List.{List, [], ◌++◌, ◌∷◌}
use Rattle.std.specs.Prelude.{None, Option, Some}
use mathlib.Core.Path.{◌∙◌, ◌≡◌, ap, ap₂, refl, sym}
use Prim.Native.Nat.{◌+◌, ◌-◌, ◌<◌, ◌≤◌, suc, zero, ℕ}
use native.Mathlib.Nat.{add-zero, le_of_suc-le-suc, not-suc-le-zero, zero-add}
use native.Mathlib.Numerals.{add-one}
use native.Mathlib.Omega.{arith}
use lib.Dec.{eqb, eqb-suc-suc, eqb-zero-suc, leb}
use lib.ListN.{drop, drop_of_length-le, length, length-set, set, take, take-append-drop}
use lib.Seq.{drop-nil, take_all, take-nil}
use borrow.Author.Tests.{eq-eqb, eqb-true, le-leb, leb-true, lt-leb}
use Rattle.script.proofs.Fields.{field_none, field_some}
use Rattle.script.proofs.Numerals.{never}
use Rattle.script.specs.Promised.{IsField}
use Rattle.script.specs.Script.{fields_of, read_into, values_of, written}
use Rattle.script.specs.declared.Span.{Span}
use Rattle.theory.proofs.Lists.{and_left, and_right}
use Rattle.theory.specs.Lists.{choose}

-- ---- writing from place k on

module _ {X : Type 0} where
  -- the list over the places from k on
  written_from : ℕ → List X → List X → List X
  written_from k l out = take k out ++ written l (drop k out)

  nothing_written : (k : ℕ) (out : List X) → written_from k [] out ≡ out
  unfolding written_from written
  nothing_written k out = ap (λ (m : List X). take k out ++ (m ++ drop k out)) (take-nil (length (drop k out))) ∙ take-append-drop k out

  no_room : (k : ℕ) (l out : List X) → length out ≤ k → written_from k l out ≡ out
  unfolding written_from written
  no_room k l out h =
      ap (λ (m : List X). take k out ++ (take (length m) l ++ drop (length l) m)) (drop_of_length-le out {i = k} h)
      ∙ ap (λ (m : List X). take k out ++ m) (drop-nil (length l) ∙ sym (drop_of_length-le out {i = k} h))
      ∙ take-append-drop k out

  one_written : (k : ℕ) (x : X) (l out : List X) → k < length out → written_from k (x ∷ l) out ≡ written_from (suc k) l (set out k x)
  unfolding written_from written
  one_written k x l [] h = absurd (not-suc-le-zero h)
  one_written zero x l (y ∷ out) h = refl
  one_written (suc k) x l (y ∷ out) h = ap (λ (m : List X). y ∷ m) (one_written k x l out (le_of_suc-le-suc h))

-- ---- what is left to read, after k fields
module _ {X : Type 0} (reading : List ℕ → Option X) where
  -- n fields with these values, after k others
  abbrev answer : ℕ → ℕ → List X → ℕ → Option ℕ
  answer k n values room = choose (eqb (length values) n && leb (k + n) room) (Some (k + n)) None

  pub read_from : ℕ → List (List ℕ) → List X → Option ℕ × List X
  read_from k fs out = (answer k (length fs) (values_of reading fs) (length out), written_from k (values_of reading fs) out)

  read_start : (fs : List (List ℕ)) (out : List X) → read_into reading fs out ≡ read_from 0 fs out
  unfolding read_into read_from written_from
  read_start fs out = ap (λ (n : ℕ). (choose (eqb (length (values_of reading fs)) (length fs) && leb n (length out)) (Some n) None, written (values_of reading fs) out)) (sym (zero-add (length fs)))

  read_none : (k : ℕ) (out : List X) → k ≤ length out → read_from k [] out ≡ (Some k, out)
  unfolding read_from values_of
  read_none k out h =
      ap₂ (λ (r : Option ℕ) (o : List X). (r, o))
      (ap (λ (n : ℕ). choose (leb n (length out)) (Some n) None) (add-zero k) ∙ rw (le-leb k (length out) h))
      (nothing_written k out)

  module _ (f : List ℕ) (fs : List (List ℕ)) (k : ℕ) (out : List X) where
    read_bad : reading f ≡ None → read_from k (f ∷ fs) out ≡ (None, out)
    unfolding read_from values_of
    read_bad e = rw (e, eqb-zero-suc (length fs)) (ap (λ (o : List X). (None, o)) (nothing_written k out))

    read_full : (x : X) → reading f ≡ Some x → length out ≤ k → read_from k (f ∷ fs) out ≡ (None, out)
    unfolding read_from values_of
    read_full x e h =
        let l : List X = x ∷ values_of reading fs in
        rw e (ap₂ (λ (r : Option ℕ) (o : List X). (r, o))
        (rw (lt-leb (k + suc (length fs)) (length out) (omega arith)) (never (eqb (length l) (suc (length fs))) (Some (k + suc (length fs))) None))
        (no_room k l out h))

    read_one : (x : X) → reading f ≡ Some x → k < length out → read_from k (f ∷ fs) out ≡ read_from (k + 1) fs (set out k x)
    unfolding read_from values_of
    read_one x e h =
        let sum : k + suc (length fs) ≡ k + 1 + length fs = omega arith in
        rw e (ap₂ (λ (r : Option ℕ) (o : List X). (r, o))
        (rw (eqb-suc-suc (length (values_of reading fs)) (length fs), sum, length-set out k x) refl)
        (one_written k x (values_of reading fs) out h ∙ ap (λ (j : ℕ). written_from j (values_of reading fs) (set out k x)) (sym (add-one k))))

-- ---- the fields of a line from a place on, read as far as another place
pub record Midway {X : Type 0} (reading : List ℕ → Option X) (line : List ℕ) (from : ℕ) (entry : List X) (at : ℕ) (out : List X) (count : ℕ) : Type 0 where
  pub same : read_into reading (fields_of (drop from line)) entry ≡ read_from reading count (fields_of (drop at line)) out
  pub few : count ≤ length out
  pub kept : length out ≡ length entry

pub mid_start : {X : Type 0} (reading : List ℕ → Option X) (line : List ℕ) (from : ℕ) (entry : List X) → Midway reading line from entry from entry 0
mid_start reading line from entry = record { same = read_start reading (fields_of (drop from line)) entry; few = omega arith; kept = refl }

module _ {X : Type 0} {reading : List ℕ → Option X} {line : List ℕ} {from : ℕ} {entry : List X} {at : ℕ} {out : List X} {count : ℕ} (mid : Midway reading line from entry at out count) {s : Span} (found : IsField line at s) where
  pub mid_end : s.from ≡ s.to → (Some count, out) ≡ read_into reading (fields_of (drop from line)) entry
  mid_end h = sym (mid.same ∙ ap (λ (fs : List (List ℕ)). read_from reading count fs out) (field_none line at s found h) ∙ read_none reading count out mid.few)

  abbrev field : List ℕ
  field = take (s.to - s.from) (drop s.from line)

  abbrev others : List (List ℕ)
  others = fields_of (drop s.to line)

  module _ (filled : s.from ≡ s.to → ⊥) where
    next : read_into reading (fields_of (drop from line)) entry ≡ read_from reading count (field ∷ others) out
    next = mid.same ∙ ap (λ (fs : List (List ℕ)). read_from reading count fs out) (field_some line at s found filled)

    pub mid_bad : None ≡ reading field → (None, out) ≡ read_into reading (fields_of (drop from line)) entry
    mid_bad h = sym (next ∙ read_bad reading field others count out (sym h))

    module _ {x : X} (value : Some x ≡ reading field) where
      pub mid_full : count ≡ length out → (None, out) ≡ read_into reading (fields_of (drop from line)) entry
      mid_full h = sym (next ∙ read_full reading field others count out x (sym value) (omega arith))

      pub mid_more : (count ≡ length out → ⊥) → Midway reading line from entry s.to (set out count x) (count + 1)
      mid_more h =
          let room : count < length out = omega (arith, mid.few) in
          record {
            same = next ∙ read_one reading field others count out x (sym value) room;
            few = omega (arith, length-set out count x);
            kept = length-set out count x ∙ mid.kept;
          }

-- ---- what a count tells

-- n fields, all good, stand in the first n places, and later places are kept
pub record Filled {X : Type 0} (reading : List ℕ → Option X) (fs : List (List ℕ)) (entry exit : List X) (n : ℕ) : Type 0 where
  pub fields : n ≡ length fs
  pub values : length (values_of reading fs) ≡ n
  pub room : n ≤ length entry
  pub out : exit ≡ values_of reading fs ++ drop n entry

counted : (t : Bool) (m n : ℕ) → Some n ≡ choose t (Some m) None → (t ≡ true) × (n ≡ m)
counted true m n e = (refl, cc)
counted false m n e = let z : ◌≡◌ {A = ℕ} 0 1 = cc in absurd (omega arith)

pub read_count : {X : Type 0} (reading : List ℕ → Option X) (fs : List (List ℕ)) (entry exit : List X) (n : ℕ) → (Some n, exit) ≡ read_into reading fs entry → Filled reading fs entry exit n
unfolding read_into written
read_count {X} reading fs entry exit n e =
    let values : List X = values_of reading fs in
    let good : Bool = eqb (length values) (length fs) in
    let fits : Bool = leb (length fs) (length entry) in
    let told = counted (good && fits) (length fs) n (ap (λ (p : Option ℕ × List X). p.0) e) in
    let all : length values ≡ length fs = eqb-true (length values) (length fs) (and_left good fits told.0) in
    let few : length fs ≤ length entry = leb-true (length fs) (length entry) (and_right good fits told.0) in
    record {
      fields = told.1;
      values = omega (arith, all, told.1);
      room = omega (arith, few, told.1);
      out = ap (λ (p : Option ℕ × List X). p.1) e ∙ ap₂ (λ (a b : List X). a ++ b) (take_all (length entry) values (omega (arith, all, few))) (ap (λ (k : ℕ). drop k entry) (all ∙ sym told.1));
    }

-- where all fields are good and there is room for them, they are counted
pub read_refused : {X : Type 0} (reading : List ℕ → Option X) (fs : List (List ℕ)) (entry exit : List X) → (None, exit) ≡ read_into reading fs entry → length (values_of reading fs) ≡ length fs → length fs ≤ length entry → ⊥
unfolding read_into
read_refused {X} reading fs entry exit e good few =
    let told = ap (λ (p : Option ℕ × List X). p.0) e in
    let same : eqb (length (values_of reading fs)) (length fs) ≡ true = eq-eqb (length (values_of reading fs)) (length fs) good in
    let never : None ≡ Some (length fs) = told ∙ ap₂ (λ (a b : Bool). choose (a && b) (Some (length fs)) None) same (le-leb (length fs) (length entry) few) in
    cc
