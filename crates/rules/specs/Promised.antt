-- What each public function of this crate promises of its answer r. Assumes nothing.
use Rattle.std.specs.Prelude.{Bool, List, [], ◌≡◌, ℕ, Result, ⊤}
use Rattle.replies.specs.Replies.{checked}
use Rattle.replies.specs.declared.Reply.{Reply}
use Rattle.rules.specs.Held.{entry_of, held_of, held_right}
use Rattle.rules.specs.Items.{fault_of, justification_of}
use Rattle.rules.specs.declared.Entry.{Entry}
use Rattle.rules.specs.declared.Held.{Held}

-- the first fault of consequent c and supports l, N being A + M
abbrev pub Faulted : ℕ → ℕ → List ℕ → Result ⊤ Reply → Type 0
Faulted N c l r = r ≡ checked (fault_of N c l)

-- c and l in their canonical form
abbrev pub Canonical : ℕ → ℕ → List ℕ → Entry → Type 0
Canonical N c l r = r ≡ entry_of (justification_of N c l)

-- A assumptions, M claims, nothing held
abbrev pub HoldingNothing : ℕ → ℕ → Held → Type 0
HoldingNothing A M r = r ≡ held_of A M []

-- whether h has the right shape
abbrev pub IsRight : Held → Bool → Type 0
IsRight h r = r ≡ held_right h
