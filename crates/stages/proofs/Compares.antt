-- A label put where it differs from the old one. Assumes nothing.
use mathlib.Core.Bool.{Bool, ◌&&◌, false, not, true}
use mathlib.Core.List.{List, ◌++◌}
use mathlib.Core.Path.{◌∙◌, ◌≡◌, ap, sym}
use Prim.Native.Nat.{◌*◌, ◌+◌, ℕ}
use native.Mathlib.Omega.{arith}
use lib.Dec.{eqb}
use lib.ListN.{drop, length, set, take}
use lib.Seq.{length-take-le, paste, take-take}
use borrow.Author.Tests.{not-false, not-true}
use Rattle.labels.specs.declared.Built.{Built}
use Rattle.stages.specs.Steps.{Put}
use Rattle.theory.specs.Limits.{limits}
use Rattle.theory.specs.Lists.{all_of, choose}

-- ---- no news and no mark
module _ (news : Bool) (marks : List ℕ) where
  pub still_news : news ≡ true → not news ≡ not news && all_of (eqb 0) marks
  still_news e = rw e

  pub still_quiet : news ≡ false → (r : Bool) → r ≡ all_of (eqb 0) marks → r ≡ not news && all_of (eqb 0) marks
  still_quiet e r h = rw e h

paste_taken : (l : List ℕ) (at : ℕ) (s : List ℕ) (n : ℕ) → paste l at (take n s) n ≡ paste l at s n
paste_taken l at s n = ap (λ (m : List ℕ). take at l ++ m ++ drop (at + n) l) (take-take n n s (omega arith))

-- ---- a label put where it differs
module _ (same : Bool) (at : ℕ) (label : Built) (later counts marks : List ℕ) (r : Bool) (e : r ≡ not same) where
  pub put_none : r ≡ false → Put same at label later counts marks later counts marks
  put_none h =
      let q : same ≡ true = not-false same (sym e ∙ h) in
      (sym (ap (λ (b : Bool). choose b later (paste later (limits.label * at) label.sets limits.label)) q), sym (ap (λ (b : Bool). choose b counts (set counts at label.count)) q), sym (ap (λ (b : Bool). choose b marks (set marks (at + 1) 1)) q))

  pub put_all : r ≡ true → (later' : List ℕ) → length label.sets ≡ limits.nogoods → later' ≡ paste later (limits.label * at) (take limits.label label.sets) (length (take limits.label label.sets)) → Put same at label later counts marks later' (set counts at label.count) (set marks (at + 1) 1)
  put_all h later' long w' =
      let size : length (take limits.label label.sets) ≡ limits.label = length-take-le limits.label label.sets (omega arith) in
      let w : later' ≡ paste later (limits.label * at) label.sets limits.label =
      w' ∙ ap (paste later (limits.label * at) (take limits.label label.sets)) size ∙ paste_taken later (limits.label * at) label.sets limits.label in
      let q : same ≡ false = not-true same (sym e ∙ h) in
      (w ∙ sym (ap (λ (b : Bool). choose b later (paste later (limits.label * at) label.sets limits.label)) q), sym (ap (λ (b : Bool). choose b counts (set counts at label.count)) q), sym (ap (λ (b : Bool). choose b marks (set marks (at + 1) 1)) q))
