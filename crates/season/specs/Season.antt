-- A list of justifications added in one call, as document 02 has it. Assumes nothing.
use Rattle.std.specs.Prelude.{not, List, [], ◌++◌, ◌∷◌, ℕ, ltb, drop, length}
use Rattle.handed.specs.Supplied.{supplied_by}
use Rattle.handed.specs.declared.Handed.{Handed}
use Rattle.replies.specs.Replies.{number_of}
use Rattle.replies.specs.declared.Reply.TheVariants.{Done, Shape, Short}
use Rattle.store.specs.Calls.{add_of, answer}
use Rattle.store.specs.Shape.{right_shape}
use Rattle.store.specs.declared.Outcome.{Outcome}
use Rattle.store.specs.declared.Store.{Store}
use Rattle.theory.specs.Lists.{choose}

-- one item is added
abbrev pub give_of : Store → Handed → Outcome
give_of s h = add_of s h.consequent (supplied_by h)

-- the store after all the items, one after another; a refused one hands back the store that it was given
unfoldable pub added_all : Store → List Handed → Store
added_all s [] = s
added_all s (h ∷ l) = added_all (give_of s h).store l

-- the reply number of each
unfoldable pub replies_of : Store → List Handed → List ℕ
replies_of s [] = []
replies_of s (h ∷ l) = number_of (give_of s h).reply ∷ replies_of (give_of s h).store l

-- the whole call: 2; 15 where there are fewer bytes than items; else done, and the store after all the items
unfoldable pub add_all_of : Store → List Handed → List ℕ → Outcome
add_all_of s l out =
    choose (not (right_shape s)) (answer Shape s)
    (choose (ltb (length out) (length l)) (answer Short s)
    (answer Done (added_all s l)))

-- the bytes: the reply number of each item, and the later ones as they were
unfoldable pub bytes_after : Store → List Handed → List ℕ → List ℕ
bytes_after s l out =
    choose (not (right_shape s)) out
    (choose (ltb (length out) (length l)) out
    (replies_of s l ++ drop (length l) out))
