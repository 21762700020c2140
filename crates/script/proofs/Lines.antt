-- The lines of a script, found one after the other, are all its lines. Assumes nothing.
use mathlib.Core.List.{List, [], ◌∷◌}
use mathlib.Core.Path.{◌∙◌, ◌≡◌, ap, ap₂, sym}
use Prim.Native.Nat.{◌-◌, ◌<◌, ◌≤◌, suc, zero, ℕ}
use native.Mathlib.Decide.{dec_lt}
use native.Mathlib.Omega.{arith}
use lib.Dec.{ltb}
use lib.ListN.{drop, drop_of_length-le, length, take}
use lib.Seq.{drop-cons}
use borrow.Author.Tests.{le-ltb, lt-ltb}
use Rattle.script.proofs.Fields.{later, parts_first}
use Rattle.script.proofs.Places.{past_on, past_rest, past_within}
use Rattle.script.specs.Script.{leading, line_end, lines_of, other, past}
use Rattle.theory.specs.Lists.{choose}

module _ (l : List ℕ) (at : ℕ) where
  pub line_within : line_end l at ≤ length l
  unfolding line_end
  line_within = past_within (other 10) l at

  pub line_on : at ≤ length l → at ≤ line_end l at
  unfolding line_end
  line_on h = omega (arith, past_on (other 10) l at)

  line_first : at ≤ length l → lines_of (drop at l) ≡ take (line_end l at - at) (drop at l) ∷ later 10 (drop (line_end l at) l)
  unfolding lines_of line_end past
  line_first h =
      let n : leading (other 10) (drop at l) ≡ past (other 10) l at - at = omega arith in
      parts_first 10 (drop at l)
      ∙ ap₂ (λ (i : ℕ) (rest : List ℕ). take i (drop at l) ∷ later 10 rest) n (sym (past_rest (other 10) l at))

  -- a line that the script's end ends is the last
  pub line_last : at ≤ length l → length l ≤ line_end l at → lines_of (drop at l) ≡ take (line_end l at - at) (drop at l) ∷ []
  unfolding later
  line_last h e =
      line_first h ∙ ap (λ (rest : List ℕ). take (line_end l at - at) (drop at l) ∷ later 10 rest) (drop_of_length-le l {i = line_end l at} e)

  -- after a line that a newline ends, the others are those from the place after the newline on
  pub line_next : at ≤ length l → line_end l at < length l → lines_of (drop at l) ≡ take (line_end l at - at) (drop at l) ∷ lines_of (drop (suc (line_end l at)) l)
  unfolding later lines_of
  line_next h e =
      line_first h ∙ ap (λ (rest : List ℕ). take (line_end l at - at) (drop at l) ∷ later 10 rest) (drop-cons l (line_end l at) 0 e)

-- the lines that a walk finds from a place on: each from the place after a newline; n at most
unfoldable pub found_lines : ℕ → List ℕ → ℕ → List (List ℕ)
found_lines zero l at = []
found_lines (suc n) l at =
    let after : List (List ℕ) = found_lines n l (suc (line_end l at)) in
    take (line_end l at - at) (drop at l) ∷ choose (ltb (line_end l at) (length l)) after []

-- a walk finds exactly the lines from its place on
pub lines_found : (n : ℕ) (l : List ℕ) (at : ℕ) → at ≤ length l → length l - at < n → found_lines n l at ≡ lines_of (drop at l)
unfolding found_lines
lines_found zero l at k h = absurd (omega arith)
lines_found (suc n) l at k h = elim (dec_lt (line_end l at) (length l)) [
  | yes p ↦ rw (lt-ltb (line_end l at) (length l) p) (
      ap (λ (ls : List (List ℕ)). take (line_end l at - at) (drop at l) ∷ ls)
      (lines_found n l (suc (line_end l at)) p (omega (arith, line_on l at k)))
      ∙ sym (line_next l at k p))
  | no p ↦ rw (le-ltb (line_end l at) (length l) (omega arith)) (sym (line_last l at k (omega arith)))
]

-- from place 0 on it finds the lines of the script
pub lines_all : (l : List ℕ) → found_lines (suc (length l)) l 0 ≡ lines_of l
lines_all l = lines_found (suc (length l)) l 0 (omega arith) (omega arith)
