-- What the loop over the records answers. Assumes nothing.
use Rattle.std.specs.Prelude.{List, [], ℕ, ◌+◌, Result, Ok, Err}
use Rattle.casefile.specs.Case.{Reading, whole, refused, gathered, records_from}
use Rattle.casefile.specs.declared.Fault.{Fault}
use Rattle.items.specs.Items.{Item}
use Rattle.rules.specs.Held.{held_of}
use Rattle.rules.specs.declared.Held.{Held}
use Rattle.theory.specs.Stages.{Justification}

-- what is held of a file whose items come after those that H has
abbrev pub finished : ℕ → ℕ → List Justification → Reading (List Item) → Result Held Fault
finished A M H (whole l) = Ok (held_of A M (gathered (A + M) H l))
finished A M H (refused f r) = Err (record { reply = f; «record» = r })

-- J records, taken from the bytes l
unfoldable pub records_of : ℕ → ℕ → ℕ → List ℕ → Result Held Fault
records_of A M J l = finished A M [] (records_from (A + M) 0 J l)
