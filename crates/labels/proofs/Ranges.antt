-- The entries held, and each part of them, have few supports, and each of them a label. Assumes nothing.
use mathlib.Core.Bool.{true}
use mathlib.Core.List.Memᴰ
use mathlib.Core.List.Memᴰ.{head as here}
use mathlib.Core.List.Memᴰ.{tail as there}
use mathlib.Core.List.{List, Memᴰ as Mem, [], ◌∷◌, map}
use mathlib.Core.Path.{◌∙◌, ◌≡◌, refl, subst, sym}
use Prim.Native.Nat.{◌+◌, ◌-◌, ◌<◌, ◌≤◌, suc, zero, ℕ}
use native.Mathlib.Omega.{arith}
use lib.ListN.{drop, get_or, length, length-drop, length-take, take}
use lib.Seq.{get_or-drop, get_or-take}
use Rattle.joining.specs.Layout.{Ranged}
use Rattle.joining.specs.Pool.{Filled}
use Rattle.labels.specs.Entries.{Few, Joinable, between}
use Rattle.labels.specs.Moved.{Hushed}
use Rattle.members.proofs.First.{at_mem}
use Rattle.rules.proofs.Entries.{Fits, fits_elim}
use Rattle.rules.proofs.Laws.{climbs_between}
use Rattle.rules.proofs.Scan.{right_elim}
use Rattle.rules.proofs.Steps.{all_first}
use Rattle.rules.specs.Held.{fitting, held_right, meaning}
use Rattle.rules.specs.declared.Entry.{Entry}
use Rattle.rules.specs.declared.Held.{Held}
use Rattle.theory.specs.Limits.{limits}
use Rattle.theory.specs.Stages.{Justification}

module _ (h : Held) (right : held_right h ≡ true) (wide : h.assumptions + h.claims ≤ limits.numbers) (j : ℕ) (z : Entry) (low : j < h.count) where
  fits : Fits (h.assumptions + h.claims) (get_or h.entries j z)
  fits =
      let r = right_elim h right in
      fits_elim (h.assumptions + h.claims) (get_or h.entries j z) (all_first (fitting (h.assumptions + h.claims)) h.entries h.count j z (omega (arith, r.few, r.long)) r.fits low)

  pub held_few : Few (get_or h.entries j z)
  held_few = fits.few

  pub held_ranged : Ranged (meaning (get_or h.entries j z)).supports
  held_ranged = record {
    range = λ i p.
        let l : List ℕ = (meaning (get_or h.entries j z)).supports in
        let w = climbs_between (h.assumptions + h.claims) 0 l fits.rising (get_or l i 0) (at_mem l i p) in
        (w.0, omega (arith, w.1, wide));
  }

  pub held_low : (get_or h.entries j z).consequent ≤ limits.numbers
  held_low = omega (arith, fits.low, wide)

-- the entry at place j is one that fits
joinable_at : (m : List Entry) → ((j : ℕ) (z : Entry) → j < length m → Few (get_or m j z) × Ranged (meaning (get_or m j z)).supports) → Joinable m
joinable_at m f = record { few = λ j z p. (f j z p).0; ranged = λ j z p. (f j z p).1 }

as_entry : (e f : Entry) → e ≡ f → Few f → Ranged (meaning f).supports → Few e × Ranged (meaning e).supports
as_entry e f q a b = (subst Few (sym q) a, subst (λ (x : Entry). Ranged (meaning x).supports) (sym q) b)

pub held_joinable : (h : Held) → held_right h ≡ true → h.assumptions + h.claims ≤ limits.numbers → Joinable (take h.count h.entries)
held_joinable h right wide = joinable_at (take h.count h.entries) (λ j z p.
    let low : j < h.count = omega (arith, length-take h.count h.entries) in
    as_entry (get_or (take h.count h.entries) j z) (get_or h.entries j z) (get_or-take h.count h.entries j z low) (held_few h right wide j z low) (held_ranged h right wide j z low))

-- a part of the first n
pub joinable_part : (l : List Entry) (n lo hi : ℕ) → hi ≤ n → Joinable (take n l) → Joinable (between l lo hi)
joinable_part l n lo hi h ok = joinable_at (between l lo hi) (λ j z p.
    let q : j < hi - lo = omega (arith, length-take (hi - lo) (drop lo l)) in
    let r : lo + j < n = omega arith in
    let k : lo + j < length (take n l) = omega (arith, length-take (hi - lo) (drop lo l), length-drop lo l, length-take n l) in
    as_entry (get_or (between l lo hi) j z) (get_or (take n l) (lo + j) z) (get_or-take (hi - lo) (drop lo l) j z q ∙ get_or-drop lo l j z ∙ sym (get_or-take n l (lo + j) z r)) (ok.few (lo + j) z k) (ok.ranged (lo + j) z k))

-- ---- each of them
mem_meant : (l : List Entry) (i : ℕ) (z : Entry) → i < length l → Mem (meaning (get_or l i z)) (map meaning l)
mem_meant [] i z h = absurd (omega arith)
mem_meant (e ∷ l) zero z h = here refl
mem_meant (e ∷ l) (suc i) z h = there (mem_meant l i z (omega arith))

pub one_hushed : (l : List Entry) (j : ℕ) (z : Entry) → j < length l → (L : ℕ → List ℕ) (n : ℕ) (struck moved : List ℕ) (f : Filled) → Hushed L (map meaning l) n struck moved f → Hushed L (meaning (get_or l j z) ∷ []) n struck moved f
one_hushed l j z low L n struck moved f h = record {
  refused = λ r m. h.refused r (subst (λ (i : Justification). Mem i (map meaning l)) (sym (Memᴰ.eq_of_singleton m)) (mem_meant l j z low));
}
