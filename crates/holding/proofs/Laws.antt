-- What is held with one more, or with one less, has the right shape again. Assumes nothing.
use mathlib.Core.Bool.{false, true}
use mathlib.Core.Logic.{⊎_elim}
use mathlib.Core.Path.{◌≡◌, subst, sym}
use Prim.Native.Nat.{◌+◌, ◌<◌, ℕ}
use native.Mathlib.Omega.{arith}
use Rattle.holding.proofs.Dropping.{dropped_few, dropped_from, dropped_ordered}
use Rattle.holding.proofs.Putting.{put_cases, put_length, put_ordered}
use Rattle.rules.proofs.Entries.{said_many}
use Rattle.rules.proofs.Laws.{Ranged, fitting_ranged, held_right_lem, right_range}
use Rattle.rules.proofs.Scan.{right_elim}
use Rattle.rules.specs.Held.{dropped, fitting, held_of, held_right, meaning, put, said_by}
use Rattle.rules.specs.Items.{same_justification}
use Rattle.rules.specs.declared.Entry.{Entry}
use Rattle.rules.specs.declared.Held.{Held}
use Rattle.theory.specs.Limits.{limits}
use Rattle.theory.specs.Lists.{some_of}
use Rattle.theory.specs.Stages.{Justification}

-- one more, not yet held
pub put_right : (h : Held) (e : Entry) → held_right h ≡ true → h.count < limits.held → fitting (h.assumptions + h.claims) e ≡ true → some_of (same_justification (meaning e)) (said_by h) ≡ false
    → held_right (held_of h.assumptions h.claims (put (meaning e) (said_by h))) ≡ true
put_right h e r room fits new =
    let N : ℕ = h.assumptions + h.claims in
    held_right_lem h.assumptions h.claims (put (meaning e) (said_by h)) (omega (arith, put_length (meaning e) (said_by h), said_many h r))
    (λ j m. ⊎_elim (λ (q : j ≡ meaning e). subst (Ranged N) (sym q) (fitting_ranged N e fits)) (λ n. right_range h r j n) (put_cases (meaning e) (said_by h) m))
    (put_ordered (meaning e) (said_by h) (right_elim h r).order new)

-- one less
pub dropped_right : (h : Held) (r : Justification) → held_right h ≡ true → held_right (held_of h.assumptions h.claims (dropped r (said_by h))) ≡ true
dropped_right h r k =
    held_right_lem h.assumptions h.claims (dropped r (said_by h)) (omega (arith, dropped_few r (said_by h), said_many h k, (right_elim h k).few))
    (λ j m. right_range h k j (dropped_from r (said_by h) m)) (dropped_ordered r (said_by h) (right_elim h k).order)
