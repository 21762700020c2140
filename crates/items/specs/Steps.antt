-- The header and the records as the code hands them on. Assumes nothing.
use Rattle.std.specs.Prelude.{List, ℕ, ltb, Result, Ok, Err, ⊤}
use Rattle.items.specs.Items.{Header, header_from, record_from}
use Rattle.items.specs.declared.Counts.{Counts}
use Rattle.numbers.specs.Numbers.{Taken, got, and_then}
use Rattle.replies.specs.declared.Reply.TheVariants.{Counts as Over, Full}
use Rattle.replies.specs.declared.Reply.{Reply}
use Rattle.rules.specs.Held.{entry_of}
use Rattle.rules.specs.Items.{justification_of}
use Rattle.rules.specs.declared.Entry.{Entry}
use Rattle.theory.specs.Limits.{limits, over_counts}
use Rattle.theory.specs.Lists.{choose}

-- ---- the header

abbrev pub counts_of : Header → Counts
counts_of h = record { assumptions = h.assumptions; claims = h.claims; records = h.records }

-- counts within the limits
unfoldable pub within_of : ℕ → ℕ → ℕ → Result Counts Reply
within_of A M J =
    choose (over_counts A M) (Err Over) (choose (ltb limits.held J) (Err Full) (Ok (record { assumptions = A; claims = M; records = J })))

-- the counts of the header
abbrev pub counts_from : List ℕ → Taken Counts
counts_from l = and_then (header_from l) (λ h rest. got (counts_of h) rest)

-- ---- a record

-- the places that were filled, or the fault
abbrev pub filled : Result ⊤ Reply → List ℕ → Result (List ℕ) Reply
filled (Ok u) places = Ok places
filled (Err f) places = Err f

-- the record as it is held; N is A + M
abbrev pub entry_from : ℕ → List ℕ → Taken Entry
entry_from N l = and_then (record_from N l) (λ i rest. got (entry_of (justification_of N i.consequent i.supports)) rest)
