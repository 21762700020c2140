-- Loading a case file: the store of the file's whole set, judged once. Assumes nothing.
use Rattle.std.specs.Prelude.{List, ◌≡◌, ℕ}
use Rattle.casefile.specs.Case.{Case, Reading, case_of, held_by, refused, whole}
use Rattle.casefile.specs.declared.Loaded.{Loaded}
use Rattle.store.specs.Calls.{no_store, store_of}
use Rattle.store.specs.declared.Outcome.{Outcome}

-- an answer of the stages, with its record
abbrev pub recorded : ℕ → Outcome → Loaded
recorded r o = record { reply = o.reply; «record» = r; store = o.store }

-- a fault of the file with its record; else the stages of all that it holds, with the announced count
abbrev pub loaded_of : Reading Case → Loaded
loaded_of (whole s) = recorded s.header.records (store_of no_store s.header.assumptions s.header.claims (held_by s))
loaded_of (refused f r) = record { reply = f; «record» = r; store = no_store }

-- what loading a case file answers
unfoldable pub load_of : List ℕ → Loaded
load_of l = loaded_of (case_of l)

abbrev pub Loads : List ℕ → Loaded → Type 0
Loads l r = r ≡ load_of l
