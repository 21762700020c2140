-- Justifications in their places, and the right shape of what is held. Assumes nothing.
use Rattle.std.specs.Prelude.{Bool, ◌&&◌, not, true, List, [], ◌∷◌, map, ◌+◌, ℕ, eqb, leb, ltb, drop, length, take}
use Rattle.rules.specs.Items.{same_justification}
use Rattle.rules.specs.declared.Entry.{Entry}
use Rattle.rules.specs.declared.Held.{Held}
use Rattle.theory.specs.Limits.{limits}
use Rattle.theory.specs.Lists.{all_of, choose, some_of, those}
use Rattle.theory.specs.Places.{padded}
use Rattle.theory.specs.Stages.{Justification, ahead}

-- a place that holds no justification
abbrev pub vacant : Entry
vacant = record { consequent = 0; count = 0; supports = 0 ∷ 0 ∷ 0 ∷ 0 ∷ [] }

-- how a justification stands in its place
abbrev pub entry_of : Justification → Entry
entry_of j = record { consequent = j.consequent; count = length j.supports; supports = padded 0 limits.supports j.supports }

-- what a place says
abbrev pub meaning : Entry → Justification
meaning e = record { consequent = e.consequent; supports = take e.count e.supports }

-- the justifications held
abbrev pub said_by : Held → List Justification
said_by h = map meaning (take h.count h.entries)

-- the highest number, A + M
abbrev pub top : Held → ℕ
top h = h.assumptions + h.claims

-- J as it is held, with A assumptions and M claims
unfoldable pub held_of : ℕ → ℕ → List Justification → Held
held_of A M J = record { assumptions = A; claims = M; count = length J; entries = padded vacant limits.held (map entry_of J) }

-- r in its place among those in order
unfoldable pub put : Justification → List Justification → List Justification
put r [] = r ∷ []
put r (t ∷ l) = choose (ahead t r) (t ∷ put r l) (r ∷ t ∷ l)

-- those other than r, in their order
unfoldable pub dropped : Justification → List Justification → List Justification
dropped r J = those (λ i. not (same_justification r i)) J

-- ---- the right shape

-- strictly rising, above p, at most N
unfoldable pub climbs : ℕ → ℕ → List ℕ → Bool
climbs N p [] = true
climbs N p (x ∷ l) = ltb p x && (leb x N && climbs N x l)

-- in range: the consequent and the supports at most N; the supports strictly rising, never 0 and never the consequent; unused places zero
unfoldable pub fitting : ℕ → Entry → Bool
fitting N e =
    leb e.consequent N
    && (leb e.count limits.supports
    && (climbs N 0 (take e.count e.supports)
    && (not (some_of (eqb e.consequent) (take e.count e.supports))
    && (eqb (length e.supports) limits.supports && all_of (eqb 0) (drop e.count e.supports)))))

-- every field zero
unfoldable pub unused_entry : Entry → Bool
unused_entry e = eqb e.consequent 0 && (eqb e.count 0 && (eqb (length e.supports) limits.supports && all_of (eqb 0) e.supports))

-- each stands strictly before the next
unfoldable pub ordered : List Justification → Bool
ordered [] = true
ordered (r ∷ []) = true
ordered (r ∷ t ∷ l) = ahead r t && ordered (t ∷ l)

-- at most the limit held, in as many places, each in range, strictly in order, unused places zero
unfoldable pub held_right : Held → Bool
held_right h =
    leb h.count limits.held
    && (eqb (length h.entries) limits.held
    && (all_of (fitting (top h)) (take h.count h.entries)
    && (ordered (said_by h) && all_of unused_entry (drop h.count h.entries))))
