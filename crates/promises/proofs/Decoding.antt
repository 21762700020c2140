-- Where the decoder goes on after a number: one byte on where it is below 128, else two. Assumes nothing.
use mathlib.Core.Bool.{Bool, ◌&&◌, false, true}
use mathlib.Core.List.{List, [], ◌∷◌}
use mathlib.Core.Logic.{inl, inr}
use mathlib.Core.Path.{◌≡◌, ap, refl}
use Prim.Native.Nat.{◌+◌, ◌-◌, ◌*◌, ◌<◌, ◌≤◌, suc, ℕ}
use native.Mathlib.Omega.{arith}
use lib.Dec.{leb, ltb}
use lib.ListN.{drop, length, length-drop}
use borrow.Author.Tests.{leb-true, ltb-false, ltb-true}
use Rattle.numbers.specs.Numbers.{bad, got, number_at, number_from, past_of, placed, replied, second_from}
use Rattle.numbers.specs.declared.Number.{Number}
use Rattle.replies.specs.declared.Reply.{Reply}
use Rattle.std.specs.Prelude.{Result, Ok, Err}
use Rattle.promises.specs.Table.{Onward}
use Rattle.replies.specs.declared.Reply.TheVariants.{Form}
use Rattle.theory.proofs.Lists.{and_left}
use Rattle.theory.specs.Lists.{choose}

abbrev value : Result Number Reply → ℕ
value (Ok x) = x.value
value (Err f) = 0

-- r is what stands after the first byte b
after_first : (l r : List ℕ) (b at n next : ℕ) → 128 ≤ b → suc (length r) ≡ length l - at → placed l (second_from b r) ≡ Ok (record { value = n; next = next }) → Onward at n next
unfolding second_from
after_first l [] b at n next k h e = let z : ◌≡◌ {A = ℕ} 11 0 = ap replied e in absurd (omega arith)
after_first l (c ∷ r) b at n next k h e = go (leb 1 c && ltb c 128) refl e
  where
    go : (t : Bool) → leb 1 c && ltb c 128 ≡ t → placed l (choose t (got (b - 128 + 128 * c) r) (bad Form)) ≡ Ok (record { value = n; next = next }) → Onward at n next
    go true q e =
        let v : b - 128 + 128 * c ≡ n = ap value e in
        let w : length l - length r ≡ next = ap (λ (x : Result Number Reply). past_of x 0) e in
        let one : 1 ≤ c = leb-true 1 c (and_left (leb 1 c) (ltb c 128) q) in
        inr (omega arith, omega arith)
    go false q e = let z : ◌≡◌ {A = ℕ} 12 0 = ap replied e in absurd (omega arith)

from_there : (l d : List ℕ) (at n next : ℕ) → length d ≡ length l - at → placed l (number_from d) ≡ Ok (record { value = n; next = next }) → Onward at n next
unfolding number_from
from_there l [] at n next h e = let z : ◌≡◌ {A = ℕ} 11 0 = ap replied e in absurd (omega arith)
from_there l (b ∷ r) at n next h e = go (ltb b 128) refl e
  where
    go : (t : Bool) → ltb b 128 ≡ t → placed l (choose t (got b r) (second_from b r)) ≡ Ok (record { value = n; next = next }) → Onward at n next
    go true q e =
        let v : b ≡ n = ap value e in
        let w : length l - length r ≡ next = ap (λ (x : Result Number Reply). past_of x 0) e in
        let low : b < 128 = ltb-true b 128 q in
        inl (omega arith, omega arith)
    go false q e = after_first l r b at n next (ltb-false b 128 q) h e

pub decode_onward : (bytes : List ℕ) (at n next : ℕ) → number_at bytes at ≡ Ok (record { value = n; next = next }) → Onward at n next
unfolding number_at
decode_onward bytes at n next e = from_there bytes (drop at bytes) at n next (length-drop at bytes) e
