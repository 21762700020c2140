-- `key` meets its contract. Assumes nothing.
use mathlib.Core.Path.{◌≡◌}
use Prim.Native.Nat.{◌<◌, ℕ}
use native.Mathlib.Omega.{arith}
use lib.ListN.{get_or, length}
use Rattle.rules.proofs.Keys.{bytes_entry, key_entry}
use borrow.Author.Rules.{rules}
use Rattle.theory.specs.Limits.{limits}
use Rattle.rules.proofs.Entry.key.Goals as goal

pub returns : goal.returns
returns c =
    let s = c.args.self in
    let e : length s.supports ≡ limits.supports = search rules in
    let b : (i : ℕ) → get_or s.supports i 0 < 256 = search rules in
    (key_entry s e _ c.from_be_bytes.ensures, bytes_entry s e (omega arith) (omega arith) (b 0) (b 1) (b 2) (b 3))
