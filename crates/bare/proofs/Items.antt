-- The items of a list, one after the other: their faults, and a pass over them. Assumes nothing.
use mathlib.Core.Bool.{Bool, false, true}
use mathlib.Core.List.Memᴰ
use mathlib.Core.List.{List, Memᴰ as Mem, [], ◌∷◌}
use mathlib.Core.Logic.{⊎_elim}
use mathlib.Core.Path.{◌∙◌, ◌≡◌, ap, ap₂, refl, subst, sym}
use Prim.Native.Nat.{◌<◌, ◌≤◌, suc, zero, ℕ}
use native.Mathlib.Nat.{le_of_suc-le-suc, not-suc-le-zero}
use native.Mathlib.Omega.{arith}
use lib.ListN.{length, take}
use borrow.Author.Tests.{eqb-true}
use Rattle.bare.specs.Bare.{barely, fault_of_item, faults_of, just_of}
use Rattle.following.proofs.Staging.{Placed}
use Rattle.following.specs.Marks.{given_by, pass_over}
use Rattle.handed.proofs.Supplied.{item_at}
use Rattle.handed.specs.Supplied.{supplied_by}
use Rattle.handed.specs.declared.Handed.{Handed}
use Rattle.replies.proofs.Laws.{zero_done}
use Rattle.replies.specs.Replies.{number_of}
use Rattle.replies.specs.declared.Reply.{Reply}
use Rattle.replies.specs.declared.Reply.TheVariants.{Done}
use Rattle.rules.proofs.Laws.{Ranged, faultless_ranged}
use Rattle.store.specs.Calls.{is_done}
use Rattle.theory.proofs.Lists.{clash}
use Rattle.theory.specs.Limits.{limits}
use Rattle.theory.specs.Lists.{choose}
use Rattle.theory.specs.Stages.{Justification}

-- ---- faults

pub is_zero : (f : Reply) → number_of f ≡ 0 → f ≡ Done
is_zero f e = zero_done f e

pub is_done_lem : (f : Reply) → is_done f ≡ true → f ≡ Done
is_done_lem f t = zero_done f (eqb-true (number_of f) 0 t)

done_cases : (f g : Reply) → choose (is_done f) g f ≡ Done → (f ≡ Done) × (g ≡ Done)
done_cases f g e = go (is_done f) refl e
  where
    go : (b : Bool) → is_done f ≡ b → choose b g f ≡ Done → (f ≡ Done) × (g ≡ Done)
    go true t p = (is_done_lem f t, p)
    go false t p = clash (ap is_done p) t

module _ (N : ℕ) where
  pub faults_next : (l : List Handed) (i : ℕ) → i < length l → faults_of N (take i l) ≡ Done → fault_of_item N (item_at l i) ≡ Done → faults_of N (take (suc i) l) ≡ Done
  unfolding faults_of
  faults_next [] i h p q = absurd (not-suc-le-zero h)
  faults_next (x ∷ l) zero h p q = ap (λ (r : Reply). choose (is_done r) Done r) q
  faults_next (x ∷ l) (suc i) h p q =
      let c = done_cases (fault_of_item N x) (faults_of N (take i l)) p in
      ap₂ (λ (r t : Reply). choose (is_done r) t r) c.0 (faults_next l i (le_of_suc-le-suc h) c.1 q)

  -- the first item with a fault decides
  pub faults_at : (l : List Handed) (i : ℕ) → i < length l → faults_of N (take i l) ≡ Done → is_done (fault_of_item N (item_at l i)) ≡ false → faults_of N l ≡ fault_of_item N (item_at l i)
  unfolding faults_of
  faults_at [] i h p q = absurd (not-suc-le-zero h)
  faults_at (x ∷ l) zero h p q = ap (λ (b : Bool). choose b (faults_of N l) (fault_of_item N x)) q
  faults_at (x ∷ l) (suc i) h p q =
      let c = done_cases (fault_of_item N x) (faults_of N (take i l)) p in
      ap (λ (r : Reply). choose (is_done r) (faults_of N l) r) c.0 ∙ faults_at l i (le_of_suc-le-suc h) c.1 q

  -- an item of a list without fault has none
  pub faults_each : (l : List Handed) (i : ℕ) → i < length l → faults_of N l ≡ Done → fault_of_item N (item_at l i) ≡ Done
  unfolding faults_of
  faults_each [] i h d = absurd (not-suc-le-zero h)
  faults_each (x ∷ l) zero h d = (done_cases (fault_of_item N x) (faults_of N l) d).0
  faults_each (x ∷ l) (suc i) h d = faults_each l i (le_of_suc-le-suc h) (done_cases (fault_of_item N x) (faults_of N l) d).1

  -- a list without fault is in range
  pub faultless_all : (l : List Handed) → faults_of N l ≡ Done → (j : Justification) → Mem j (barely N l) → Ranged N j
  unfolding faults_of
  faultless_all [] d j m = elim m [ ]
  faultless_all (x ∷ l) d j m =
      let c = done_cases (fault_of_item N x) (faults_of N l) d in
      ⊎_elim (λ (e : j ≡ just_of N x). subst (Ranged N) (sym e) (faultless_ranged N x.consequent (supplied_by x) c.0)) (λ k. faultless_all l c.1 j k) (Memᴰ.cases_cons m)

  pub bare_placed : N ≤ limits.numbers → (l : List Handed) → faults_of N l ≡ Done → Placed (barely N l)
  bare_placed h l d = record {
    consequents = λ j m. omega (arith, h, (faultless_all l d j m).low);
    supports = λ j m s i. omega (arith, h, ((faultless_all l d j m).between s i).1);
  }

  -- ---- a pass

  pub pass_next : (t v : ℕ) (m : List ℕ) (l : List Handed) (i : ℕ) → i < length l
      → pass_over t v m (barely N (take (suc i) l)) ≡ given_by t v (pass_over t v m (barely N (take i l))) (just_of N (item_at l i))
  unfolding pass_over
  pass_next t v m [] i h = absurd (not-suc-le-zero h)
  pass_next t v m (x ∷ l) zero h = refl
  pass_next t v m (x ∷ l) (suc i) h = pass_next t v (given_by t v m (just_of N x)) l i (le_of_suc-le-suc h)
