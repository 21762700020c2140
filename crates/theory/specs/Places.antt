-- A list in its places: what stands at each of n places, and zero after the list's end. Assumes nothing.
use Rattle.std.specs.Prelude.{List, [], ◌∷◌, suc, zero, ℕ, get_or}

-- f i at each place i of n
unfoldable pub table : {X : Type 0} → ℕ → (ℕ → X) → List X
table zero f = []
table (suc n) f = f zero ∷ table n (λ i. f (suc i))

-- the list in n places, z after its end
unfoldable pub padded : {X : Type 0} → X → ℕ → List X → List X
padded z n l = table n (λ i. get_or l i z)
