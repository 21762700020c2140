-- A list of justifications added in one call: the end store and all bytes equal those of adding them one by one in that order, each refused item passed over. Assumes nothing.
use Rattle.std.specs.Prelude.{true, List, [], ◌++◌, ◌∷◌, ◌≡◌, ◌<◌, ◌≤◌, ℕ, drop, length, take}
use Rattle.asking.specs.Asking.{left}
use Rattle.handed.specs.Supplied.{supplied_by}
use Rattle.handed.specs.declared.Handed.{Handed}
use Rattle.promises.specs.Calls.{Calls}
use Rattle.replies.specs.Replies.{number_of}
use Rattle.replies.specs.declared.Reply.TheVariants.{Done, Supports}
use Rattle.store.specs.Calls.{answer, is_done}
use Rattle.store.specs.Shape.{right_shape}
use Rattle.store.specs.declared.Outcome.{Outcome}
use Rattle.store.specs.declared.Store.{Store}
use Rattle.theory.specs.Limits.{limits}
use Rattle.theory.specs.Lists.{choose}

-- a way to add one justification
abbrev pub Adds : Type 0
Adds = Store → ℕ → List ℕ → Outcome

-- an item handed to it
abbrev pub giving : Adds → Store → Handed → Outcome
giving add s h = add s h.consequent (supplied_by h)

-- the store after one item: that of the answer 0, else the one before
abbrev pub passing : Store → Outcome → Store
passing s o = choose (is_done o.reply) o.store s

-- the store after the items, one by one
unfoldable pub after_each : Adds → Store → List Handed → Store
after_each add s [] = s
after_each add s (h ∷ l) = after_each add (passing s (giving add s h)) l

-- the reply numbers of the items, one by one
unfoldable pub numbers_each : Adds → Store → List Handed → List ℕ
numbers_each add s [] = []
numbers_each add s (h ∷ l) = number_of (giving add s h).reply ∷ numbers_each add (passing s (giving add s h)) l

pub record OneByOne (C : Calls) : Type 0 where
  -- of every store of right shape, forged or not, with as many bytes as items or more: later bytes are kept
  pub one_by_one : (s : Store) (l : List Handed) (out : List ℕ) → right_shape s ≡ true → length l ≤ length out
      → C.adding_all s l out ≡ left (answer Done (after_each C.adding s l)) (numbers_each C.adding s l ++ drop (length l) out)
  -- the supports of an item are as many as its count says
  pub few : (h : Handed) → h.count ≤ limits.supports → supplied_by h ≡ take h.count h.supports
  -- .. and a count above four is 6, whatever stands there
  pub many : (s : Store) (h : Handed) → right_shape s ≡ true → limits.supports < h.count → giving C.adding s h ≡ answer Supports s
