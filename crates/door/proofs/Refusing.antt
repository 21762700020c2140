-- No line of a refusal is longer than 30 bytes, whatever its number. Assumes nothing.
use mathlib.Core.List.{List, [], ◌++◌, ◌∷◌}
use mathlib.Core.Path.{◌≡◌}
use Prim.Native.Nat.{◌+◌, ◌<◌, ◌^◌, ◌≤◌, ℕ}
use native.Mathlib.Omega.{arith}
use lib.ListN.{length, length-append}
use Rattle.text.proofs.Digits.{digits_most}
use Rattle.text.specs.Texts.{digits, field, refusal, word}

field_length : (n : ℕ) → length (field n) ≡ 1 + length (digits n)
unfolding field word
field_length n = omega arith

pub refusal_most : (r k : ℕ) → r < 2 ^ 32 → k < 2 ^ 32 → length (refusal r k) ≤ 30
unfolding refusal word
refusal_most r k h i =
    let t : List ℕ = field k ++ (10 ∷ []) in
    let j : r < 10 ^ 10 = omega arith in
    let l : k < 10 ^ 10 = omega arith in
    omega (arith, length-append (field r) t, length-append (field k) (10 ∷ []), field_length r, field_length k, digits_most 9 r j, digits_most 9 k l)
