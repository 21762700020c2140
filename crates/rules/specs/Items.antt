-- One justification as it is handed over: its faults in their order, and its canonical form. Assumes nothing.
use Rattle.std.specs.Prelude.{Bool, ◌&&◌, ◌||◌, List, suc, ℕ, eqb, ltb, length}
use Rattle.replies.specs.declared.Reply.{Reply}
use Rattle.replies.specs.declared.Reply.TheVariants.{Done, Falsity, Itself, Number, Supports}
use Rattle.theory.specs.Judge.{same_sets}
use Rattle.theory.specs.Limits.{limits}
use Rattle.theory.specs.Lists.{choose, numbers_below, some_of, those}
use Rattle.theory.specs.Stages.{Justification}

-- the faults of an item, N being A + M: more supports than the limit; a number above N; falsity as a support; its own consequent as a support; else done
unfoldable pub fault_of : ℕ → ℕ → List ℕ → Reply
fault_of N c l =
    choose (ltb limits.supports (length l)) Supports
    (choose (ltb N c || some_of (ltb N) l) Number
    (choose (some_of (eqb 0) l) Falsity
    (choose (some_of (eqb c) l) Itself
    Done)))

-- the numbers up to N that the list has, rising: order and repetition are gone
unfoldable pub set_of : ℕ → List ℕ → List ℕ
set_of N l = those (λ n. some_of (eqb n) l) (numbers_below (suc N))

-- consequent c, supported by the set that the list makes
abbrev pub justification_of : ℕ → ℕ → List ℕ → Justification
justification_of N c l = record { consequent = c; supports = set_of N l }

-- one justification
unfoldable pub same_justification : Justification → Justification → Bool
same_justification i j = eqb i.consequent j.consequent && same_sets i.supports j.supports
