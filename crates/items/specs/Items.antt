-- The header and the records of a case file, taken from the bytes one after another. Assumes nothing.
use Rattle.std.specs.Prelude.{List, [], ◌∷◌, ℕ, zero, suc, eqb, ltb}
use Rattle.numbers.specs.Numbers.{Taken, got, bad, and_then, number_from}
use Rattle.replies.specs.Replies.{number_of}
use Rattle.replies.specs.declared.Reply.TheVariants.{Counts, Supports, Full}
use Rattle.replies.specs.declared.Reply.{Reply}
use Rattle.rules.specs.Items.{fault_of}
use Rattle.theory.specs.Limits.{limits, over_counts}
use Rattle.theory.specs.Lists.{choose}

-- A, M, count J
pub record Header : Type 0 where
  pub assumptions : ℕ
  pub claims : ℕ
  pub records : ℕ

-- a record: consequent and supports, as they are handed over
pub record Item : Type 0 where
  pub consequent : ℕ
  pub supports : List ℕ

-- A, M, count J; after the header: 3, then 7
unfoldable pub header_from : List ℕ → Taken Header
header_from l =
    and_then (number_from l) (λ A l₁.
    and_then (number_from l₁) (λ M l₂.
    and_then (number_from l₂) (λ J l₃.
    choose (over_counts A M) (bad Counts)
    (choose (ltb limits.held J) (bad Full)
    (got (record { assumptions = A; claims = M; records = J }) l₃)))))

-- n numbers one after another
unfoldable pub numbers_from : ℕ → List ℕ → Taken (List ℕ)
numbers_from zero l = got [] l
numbers_from (suc n) l = and_then (number_from l) (λ x l₁. and_then (numbers_from n l₁) (λ xs l₂. got (x ∷ xs) l₂))

-- the item, unless it has a fault
unfoldable pub unless : Reply → Item → List ℕ → Taken Item
unless f i l = choose (eqb (number_of f) 0) (got i l) (bad f)

-- consequent, number of supports, supports; after the number of supports: 6; after the supports: 4, then 5, then 17; N is A + M
unfoldable pub record_from : ℕ → List ℕ → Taken Item
record_from N l =
    and_then (number_from l) (λ c l₁.
    and_then (number_from l₁) (λ k l₂.
    choose (ltb limits.supports k) (bad Supports)
    (and_then (numbers_from k l₂) (λ s l₃. unless (fault_of N c s) (record { consequent = c; supports = s }) l₃))))
