-- What is left of a text that fits, and of one that does not; and the store handed back. Assumes nothing.
use mathlib.Core.List.{List, ◌++◌}
use mathlib.Core.Path.{◌≡◌, ap}
use Prim.Native.Nat.{◌<◌, ◌≤◌, ℕ}
use lib.ListN.{drop, length}
use borrow.Author.Tests.{le-ltb, lt-ltb}
use Rattle.lent.specs.Lent.{Hands, Leaves, Wrote, fitted}
use Rattle.std.proofs.Common.{Result, Ok, Err}
use Rattle.replies.specs.declared.Reply.TheVariants.{Short}
use Rattle.store.specs.declared.Store.{Store}
use Rattle.replies.specs.declared.Reply.{Reply}

module _ (t out : List ℕ) where
  pub fitted_short : length out < length t → Leaves (fitted t out) (Err Short) out
  unfolding fitted
  fitted_short h = rw (lt-ltb (length out) (length t) h)

  pub fitted_long : length t ≤ length out → {after : List ℕ} → after ≡ t ++ drop (length t) out → Leaves (fitted t out) (Ok (length t)) after
  unfolding fitted
  fitted_long h e = rw (le-ltb (length out) (length t) h, e)

-- one equation of what is left, and the store handed back
pub hands : (s : Store) {w : Wrote} {r : Result ℕ Reply} {after : List ℕ} → Leaves w r after → Hands s w (record { answer = r; store = s }) after
hands s e = (ap (λ (v : Wrote). record { answer = v.answer; store = s }) e, ap (λ (v : Wrote). v.bytes) e)
