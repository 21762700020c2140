-- Lists and tests: some pass, all pass, those that pass, and what is made of each. Assumes nothing.
use Rattle.std.specs.Prelude.{Bool, ◌&&◌, ◌||◌, false, true, List, [], ◌++◌, ◌∷◌, map, suc, zero, ℕ}

-- the one where the test holds, else the other
abbrev pub choose : {X : Type 0} → Bool → X → X → X
choose true x y = x
choose false x y = y

abbrev pub keep : {X : Type 0} → Bool → X → List X → List X
keep true x l = x ∷ l
keep false x l = l

module _ {X : Type 0} where
  -- some member passes
  unfoldable pub some_of : (X → Bool) → List X → Bool
  some_of p [] = false
  some_of p (x ∷ l) = p x || some_of p l

  -- all members pass
  unfoldable pub all_of : (X → Bool) → List X → Bool
  all_of p [] = true
  all_of p (x ∷ l) = p x && all_of p l

  -- the members that pass, in their order
  unfoldable pub those : (X → Bool) → List X → List X
  those p [] = []
  those p (x ∷ l) = keep (p x) x (those p l)

  -- two lists are alike, member by member
  unfoldable pub alike : (X → X → Bool) → List X → List X → Bool
  alike same [] [] = true
  alike same [] (y ∷ m) = false
  alike same (x ∷ l) [] = false
  alike same (x ∷ l) (y ∷ m) = same x y && alike same l m

-- the lists that f makes of each member, one after the other
unfoldable pub each : {X Y : Type 0} → (X → List Y) → List X → List Y
each f [] = []
each f (x ∷ l) = f x ++ each f l

-- each member stands before all later ones
unfoldable pub sorted_by : {X : Type 0} → (X → X → Bool) → List X → Bool
sorted_by R [] = true
sorted_by R (x ∷ l) = all_of (R x) l && sorted_by R l

-- the numbers below n, rising
unfoldable pub numbers_below : ℕ → List ℕ
numbers_below zero = []
numbers_below (suc n) = numbers_below n ++ (n ∷ [])

-- the numbers 1 to N
unfoldable pub numbers_to : ℕ → List ℕ
numbers_to N = map suc (numbers_below N)
