-- The case file of a store, and the call that writes it into lent bytes. Assumes nothing.
use Rattle.std.specs.Prelude.{not, List, [], ◌∷◌, ◌%◌, ◌+◌, ◌/◌, ℕ, ltb, length}
use Rattle.lent.specs.Lent.{Hands, Wrote, fitted, kept}
use Rattle.lent.specs.declared.Listed.{Listed}
use Rattle.replies.specs.declared.Reply.TheVariants.{Shape}
use Rattle.rules.specs.Held.{said_by}
use Rattle.rules.specs.declared.Held.{Held}
use Rattle.store.specs.Shape.{right_shape}
use Rattle.store.specs.declared.Store.{Store}
use Rattle.theory.specs.Lists.{choose, each}
use Rattle.theory.specs.Stages.{Justification}

-- ---- the file

-- a number below 16,384 in its shortest form: one byte below 128, else two of seven bits each, the low ones first
unfoldable pub bytes_of : ℕ → List ℕ
bytes_of n = choose (ltb n 128) (n ∷ []) ((128 + n % 128) ∷ n / 128 ∷ [])

-- a record: consequent, number of supports, supports
unfoldable pub record_for : Justification → List ℕ
record_for j = j.consequent ∷ length j.supports ∷ j.supports

-- A, M, the count of those held, then a record for each in its order
unfoldable pub numbers_for : Held → List ℕ
numbers_for h = h.assumptions ∷ h.claims ∷ h.count ∷ each record_for (said_by h)

-- each number in its shortest form
unfoldable pub file_of : Held → List ℕ
file_of h = each bytes_of (numbers_for h)

-- ---- the call

-- refusals 2, 15; only what is held is written
unfoldable pub write_of : Store → List ℕ → Wrote
write_of s out =
    choose (not (right_shape s)) (kept Shape out)
    (fitted (file_of s.held) out)

-- what the call promises
abbrev pub Writes : Store → List ℕ → Listed → List ℕ → Type 0
Writes s out r after = Hands s (write_of s out) r after
