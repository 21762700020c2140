-- The supports of an item, and a list that is handed over by value. Assumes nothing.
use mathlib.Core.List.{List, []}
use mathlib.Core.Path.{◌∙◌, ◌≡◌, sym}
use Prim.Native.Nat.{◌<◌, ◌≤◌, ℕ}
use native.Mathlib.Omega.{arith}
use lib.ListN.{get_or, length, take}
use lib.Seq.{take_all}
use borrow.Author.Tests.{le-ltb}
use Rattle.handed.specs.Supplied.{supplied_by}
use Rattle.handed.specs.declared.Handed.{Handed}
use Rattle.theory.specs.Limits.{limits}

-- no item
abbrev pub no_item : Handed
no_item = record { consequent = 0; count = 0; supports = [] }

abbrev pub item_at : List Handed → ℕ → Handed
item_at l i = get_or l i no_item

-- an item of no more supports than the limit
pub supplied_few : (h : Handed) → h.count ≤ limits.supports → take h.count h.supports ≡ supplied_by h
unfolding supplied_by
supplied_few h p = rw (le-ltb limits.supports h.count p)

-- the first n of a list of m are all, where n is more
pub taken_all_lem : (l : List Handed) (m n : ℕ) → length l ≡ m → m < n → take m l ≡ take n l
taken_all_lem l m n e h = take_all m l (omega (arith, e)) ∙ sym (take_all n l (omega (arith, e, h)))
