-- `calls::hands::item` meets its contract: an item shows its first four supports, and zeros after them. Assumes nothing.
use Rattle.std.proofs.Common.{◌≡◌, ◌∙◌, ap, arith, refl, ℕ, List, [], ◌∷◌, ◌++◌, length, take, drop}
use Rattle.std.specs.Prelude.{min}
use Rattle.calls.proofs.hands.item.Goals as goal

abbrev zeros : List ℕ
zeros = 0 ∷ 0 ∷ 0 ∷ 0 ∷ []

padded : (s : List ℕ) (n : ℕ) → n ≡ min (length s) 4 → take n s ++ drop n zeros ≡ take 4 (s ++ zeros)
padded [] n e = let k : n ≡ 0 = omega (arith, e) in rw k refl
padded (a ∷ []) n e = let k : n ≡ 1 = omega (arith, e) in rw k refl
padded (a ∷ b ∷ []) n e = let k : n ≡ 2 = omega (arith, e) in rw k refl
padded (a ∷ b ∷ d ∷ []) n e = let k : n ≡ 3 = omega (arith, e) in rw k refl
padded (a ∷ b ∷ d ∷ f ∷ s) n e = let k : n ≡ 4 = omega (arith, e) in rw k refl

pub returns : goal.returns
returns c =
    let shown = ap (λ (l : List ℕ). l ++ drop c.min-shown.result zeros) c.copy_from_slice.ensures.after ∙ padded c.args.supports.now c.min-shown.result c.min-shown.ensures in
    ap (λ (l : List ℕ). record { consequent = c.args.consequent; count = length c.args.supports.now; supports = l }) shown
