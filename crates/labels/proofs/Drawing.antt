-- A list written at the head of an array of zeros lies in its places; or its first sets do, where it is longer than the limit. Assumes nothing.
use Rattle.std.proofs.Common.{◌≡◌, ℕ, ◌-◌, ◌<◌, ◌≤◌, Bool, List, ◌++◌, drop, get_or, length, replicate, take, zero, Ok, Err, sym, ap, ap₂, ◌∙◌, arith}
use Rattle.std.proofs.Math.ListN.{get_or-append, get_or-eq_default, get_or-replicate, length-append, length-drop, length-replicate, length-take}
use Rattle.std.proofs.Math.Seq.{get_or-append_right, get_or-drop}
use native.Mathlib.Decide.{dec_lt}
use borrow.Author.Tests.{le-ltb, lt-ltb}
use Rattle.labels.specs.Promised.{built_of, placed_first, placed_list}
use Rattle.labels.specs.declared.Built.{Built}
use Rattle.labels.specs.declared.Full.{Full}
use Rattle.theory.proofs.Places.{is_table}
use Rattle.theory.specs.Limits.{limits}
use Rattle.theory.specs.Lists.{choose}
use Rattle.theory.specs.Places.{padded}

zeros_at : (n k : ℕ) → get_or (replicate n zero) k zero ≡ zero
zeros_at n k = elim (dec_lt k n) [
  | yes p ↦ get_or-replicate n k zero zero p
  | no p ↦ get_or-eq_default (replicate n zero) zero {n = k} (omega (arith, length-replicate n zero))
]

pub padded_is : (n : ℕ) (l : List ℕ) → length l ≤ n → l ++ drop (length l) (replicate n 0) ≡ padded 0 n l
unfolding padded
padded_is n l h =
    is_table (l ++ drop (length l) (replicate n 0)) n (λ k. get_or l k 0) 0 (omega (arith, length-append l (drop (length l) (replicate n zero)), length-drop (length l) (replicate n zero), length-replicate n zero)) (λ k p.
    elim (dec_lt k (length l)) [
      | yes q ↦ get_or-append l (drop (length l) (replicate n 0)) 0 k q
      | no q ↦ get_or-append_right l (drop (length l) (replicate n 0)) k 0 (omega arith) ∙ get_or-drop (length l) (replicate n 0) (k - length l) 0 ∙ zeros_at n _ ∙ sym (get_or-eq_default l 0 {n = k} (omega arith))
    ])

module _ (limit : ℕ) (l : List ℕ) (room : limit ≤ limits.nogoods) (m : List ℕ) where
  pub drawn_full : limit < length l → m ≡ take limit l → Err (record { first = m ++ drop limit (replicate limits.nogoods 0) }) ≡ built_of limit l
  unfolding built_of placed_first
  drawn_full h e =
      let n : length (take limit l) ≡ limit = omega (arith, length-take limit l) in
      ap (λ (s : List ℕ). Err (made s)) (ap₂ (λ (k : List ℕ) (n : ℕ). k ++ drop n (replicate limits.nogoods 0)) e (sym n) ∙ padded_is limits.nogoods (take limit l) (omega arith))
      ∙ ap (λ (b : Bool). choose b (Err (placed_first limit l)) (Ok (placed_list l))) (sym (lt-ltb limit (length l) h))
    where
      made : List ℕ → Full
      made s = record { first = s }

  pub drawn_fits : length l ≤ limit → m ≡ l → Ok (record { count = length l; sets = m ++ drop (length l) (replicate limits.nogoods 0) }) ≡ built_of limit l
  unfolding built_of placed_list
  drawn_fits h e =
      ap (λ (s : List ℕ). Ok (made (length l) s)) (ap (λ (k : List ℕ). k ++ drop (length l) (replicate limits.nogoods 0)) e ∙ padded_is limits.nogoods l (omega arith))
      ∙ ap (λ (b : Bool). choose b (Err (placed_first limit l)) (Ok (placed_list l))) (sym (le-ltb limit (length l) h))
    where
      made : ℕ → List ℕ → Built
      made n s = record { count = n; sets = s }
