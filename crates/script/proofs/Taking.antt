-- The set that numbers make, number by number as a loop goes. Assumes nothing.
use mathlib.Core.List.{List}
use mathlib.Core.Path.{◌∙◌, ◌≡◌, ap, sym}
use Prim.Native.Nat.{◌+◌, ◌<◌, ◌≤◌, ℕ}
use native.Mathlib.Numerals.{add-one}
use lib.ListN.{drop, drop_of_length-le, get_or, length}
use lib.Seq.{drop-cons}
use borrow.Author.Tests.{le-leb, lt-leb}
use Rattle.script.specs.Script.{taken, taken_all}
use Rattle.theory.specs.Limits.{limits}
use Rattle.theory.specs.Sets.{alone, union}

module _ (E : ℕ) (l : List ℕ) (i : ℕ) where
  pub taken_more : i < length l → taken_all E (drop i l) ≡ taken_all (taken E (get_or l i 0)) (drop (i + 1) l)
  unfolding taken_all
  taken_more h = ap (taken_all E) (drop-cons l i 0 h) ∙ ap (λ (j : ℕ). taken_all (taken E (get_or l i 0)) (drop j l)) (sym (add-one i))

  pub taken_end : length l ≤ i → taken_all E (drop i l) ≡ E
  unfolding taken_all
  taken_end h = ap (taken_all E) (drop_of_length-le l {i = i} h)

-- ---- one number
module _ (E k : ℕ) where
  pub taken_zero : k < 1 → E ≡ taken E k
  taken_zero h = rw (lt-leb 1 k h)

  pub taken_above : limits.assumptions < k → 1 ≤ k → E ≡ taken E k
  taken_above h p = rw (le-leb 1 k p, lt-leb k limits.assumptions h)

  pub taken_so : 1 ≤ k → k ≤ limits.assumptions → union E (alone k) ≡ taken E k
  taken_so p q = rw (le-leb 1 k p, le-leb k limits.assumptions q)
