-- What each public function of this crate promises of its answer r. Assumes nothing.
use Rattle.std.specs.Prelude.{Bool, ◌≡◌}
use Rattle.rules.specs.Held.{dropped, held_of, meaning, put, said_by}
use Rattle.rules.specs.Items.{same_justification}
use Rattle.rules.specs.declared.Entry.{Entry}
use Rattle.rules.specs.declared.Held.{Held}
use Rattle.theory.specs.Lists.{some_of}

-- whether h holds what e says
abbrev pub IsHeld : Held → Entry → Bool → Type 0
IsHeld h e r = r ≡ some_of (same_justification (meaning e)) (said_by h)

-- h with what e says put in its place
abbrev pub Inserted : Held → Entry → Held → Type 0
Inserted h e r = r ≡ held_of h.assumptions h.claims (put (meaning e) (said_by h))

-- h without what e says
abbrev pub Removed : Held → Entry → Held → Type 0
Removed h e r = r ≡ held_of h.assumptions h.claims (dropped (meaning e) (said_by h))
