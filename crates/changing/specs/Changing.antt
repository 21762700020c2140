-- What is held with one justification more, or one less. Assumes nothing.
use Rattle.std.specs.Prelude.{not, List, ◌+◌, ℕ, eqb, leb, Result, Ok, Err}
use Rattle.replies.specs.Replies.{number_of}
use Rattle.replies.specs.declared.Reply.{Reply}
use Rattle.replies.specs.declared.Reply.TheVariants.{Already, Full, Unheld}
use Rattle.rules.specs.Held.{dropped, entry_of, held_of, put, said_by}
use Rattle.rules.specs.Items.{fault_of, justification_of, same_justification}
use Rattle.rules.specs.declared.Entry.{Entry}
use Rattle.rules.specs.declared.Held.{Held}
use Rattle.theory.specs.Limits.{limits}
use Rattle.theory.specs.Lists.{choose, some_of}
use Rattle.theory.specs.Stages.{Justification}

-- the first fault of the item, N being A + M, then what is done with the justification that it makes
abbrev pub sifted : {X : Type 0} → ℕ → ℕ → List ℕ → (Justification → Result X Reply) → Result X Reply
sifted N c l go =
    choose (not (eqb (number_of (fault_of N c l)) 0)) (Err (fault_of N c l))
    (go (justification_of N c l))

-- the item in its place
unfoldable pub placed_of : ℕ → ℕ → List ℕ → Result Entry Reply
placed_of N c l = sifted N c l (λ j. Ok (entry_of j))

-- j put in: held already; no place left; done
unfoldable pub included : Held → Justification → Result Held Reply
included h j =
    choose (some_of (same_justification j) (said_by h)) (Err Already)
    (choose (leb limits.held h.count) (Err Full)
    (Ok (held_of h.assumptions h.claims (put j (said_by h)))))

-- j taken out: not held; done
unfoldable pub excluded : Held → Justification → Result Held Reply
excluded h j =
    choose (not (some_of (same_justification j) (said_by h))) (Err Unheld)
    (Ok (held_of h.assumptions h.claims (dropped j (said_by h))))

unfoldable pub more_of : Held → ℕ → List ℕ → Result Held Reply
more_of h c l = sifted (h.assumptions + h.claims) c l (included h)

unfoldable pub less_of : Held → ℕ → List ℕ → Result Held Reply
less_of h c l = sifted (h.assumptions + h.claims) c l (excluded h)
