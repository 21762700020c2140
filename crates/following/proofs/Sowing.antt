-- The marks of stage 0 of all assumptions together: as many zeros after falsity's mark. Assumes nothing.
use mathlib.Core.List.{List, ◌++◌, ◌∷◌}
use mathlib.Core.Bool.{Bool, false, true}
use mathlib.Core.Path.{◌∙◌, ◌≡◌, ap, ap₂, refl, sym}
use Prim.Native.Nat.{◌+◌, ◌-◌, ◌<◌, ◌≤◌, suc, zero, ℕ}
use native.Mathlib.Decide.{dec_lt}
use native.Mathlib.Omega.{arith}
use lib.Dec.{ltb}
use lib.ListN.{get_or, get_or-append, get_or-replicate, length, length-append, length-replicate, replicate}
use borrow.Author.Tests.{le-ltb, lt-ltb}
use borrow.Rule.Slice.PartMut.{put_mid}
use Rattle.std.proofs.lemmas.List.{drop-replicate, get_or-append_right}
use Rattle.following.specs.Marks.{marks_of, sown}
use Rattle.theory.proofs.Demands.{among_together}
use Rattle.theory.proofs.Places.{is_table, length_table}
use Rattle.theory.specs.Limits.{limits}
use Rattle.theory.specs.Lists.{choose}
use Rattle.theory.specs.Sets.{among, together}

pub marks_long : (p : ℕ → Bool) → length (marks_of p) ≡ limits.numbers + 1
unfolding marks_of
marks_long p = length_table (limits.numbers + 1) (λ n. choose (p n) 0 255)

module _ (a : ℕ) (low : a ≤ limits.numbers) where
  abbrev parts : List ℕ
  parts = replicate a 0 ++ replicate (limits.numbers - a) 255

  long : length (255 ∷ parts) ≡ limits.numbers + 1
  long = omega (arith, length-append {A = ℕ} (replicate a 0) (replicate (limits.numbers - a) 255), length-replicate {A = ℕ} a 0, length-replicate {A = ℕ} (limits.numbers - a) 255)

  at : (n : ℕ) → n < limits.numbers + 1 → get_or (255 ∷ parts) n 255 ≡ choose (among (together a) n) 0 255
  unfolding among
  at zero p = refl
  at (suc i) p =
      elim (dec_lt i a) [
        | yes q ↦ get_or-append {A = ℕ} (replicate a 0) (replicate (limits.numbers - a) 255) 255 i (omega (arith, length-replicate {A = ℕ} a 0)) ∙ get_or-replicate {A = ℕ} a i 0 255 q ∙ tested true (lt-ltb i a q)
        | no q ↦ get_or-append_right {X = ℕ} (replicate a 0) (replicate (limits.numbers - a) 255) a i 255 (length-replicate {A = ℕ} a 0) (omega arith) ∙ get_or-replicate {A = ℕ} (limits.numbers - a) (i - a) 255 255 (omega arith) ∙ tested false (le-ltb i a (omega arith))
      ]
    where
      tested : (b : Bool) → ltb i a ≡ b → ◌≡◌ {A = ℕ} (choose b 0 255) (choose (among (together a) (suc i)) 0 255)
      tested b e = ap (λ (t : Bool). choose t 0 255) (sym (among_together a i ∙ e))

  -- the marks with that part of them filled
  pub sown_filled : (zeros : List ℕ) → zeros ≡ replicate a 0 → put_mid 1 (a + 1 - 1) (replicate (limits.numbers + 1) 255) zeros ≡ sown (together a)
  unfolding marks_of
  sown_filled zeros e =
      ap₂ (λ (l m : List ℕ). 255 ∷ (l ++ m)) e (drop-replicate (a + 1 - 1) limits.numbers 255 ∙ ap (λ (k : ℕ). replicate (limits.numbers - k) 255) same)
      ∙ is_table (255 ∷ parts) (limits.numbers + 1) (λ n. choose (among (together a) n) 0 255) 255 long at
    where
      same : a + 1 - 1 ≡ a
      same = omega arith
