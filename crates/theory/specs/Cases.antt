-- Cases of the judgement: listing order, the depth, and both sides of each limit at a small size, in one table under one theorem. (Document 01's P cases stand in crate refuted, over the calls.) Assumes nothing.
use Rattle.std.specs.Prelude.{List, [], ◌∷◌, ◌≡◌, ℕ}
use Rattle.std.specs.Int.Count.{ones}
use Rattle.theory.specs.Judge.{Verdict, agree, consequents, course, judge, label_long, label_over, lowest_long, nogoods_long, nogoods_over, same_sets, settled, stage_at, stage_of}
use Rattle.theory.specs.Limits.{Limits, limits}
use Rattle.theory.specs.Lists.{alike, all_of, numbers_below, numbers_to, some_of, those}
use Rattle.theory.specs.Sets.{among, by_size, digit, listing, within}
use Rattle.theory.specs.Stages.{Justification, follows, gives, label_of, minimal, nogoods_of}

-- c from the supports s
abbrev pub from : ℕ → List ℕ → Justification
from c s = record { consequent = c; supports = s }

abbrev pub at : ℕ → List ℕ → List (List ℕ) → Verdict
at d nogoods labels = settled d (record { nogoods = nogoods; labels = labels })

-- the judgement under a name that opens all its definitions
unfoldable pub verdict : Limits → ℕ → ℕ → List Justification → Verdict
unfolding listing by_size numbers_below numbers_to those ones label_of nogoods_of minimal follows among digit within gives some_of all_of alike same_sets agree stage_of stage_at nogoods_long lowest_long label_long consequents course judge
verdict L A N J = judge L A N J

-- room for n members of a label and m nogoods
abbrev pub room : ℕ → ℕ → Limits
room n m =
    record { assumptions = limits.assumptions; claims = limits.claims; numbers = limits.numbers; held = limits.held; supports = limits.supports; label = n; nogoods = m }

-- document 01's listed case
abbrev pub worked : List Justification
worked = from 4 (1 ∷ []) ∷ from 4 (2 ∷ 3 ∷ []) ∷ from 5 (2 ∷ 4 ∷ []) ∷ from 0 (1 ∷ 2 ∷ []) ∷ []

pub record Cases : Type 0 where
  -- {3} is 4, {1,2} is 3; {3} comes first
  pub order : verdict limits 3 4 (from 4 (1 ∷ 2 ∷ []) ∷ from 4 (3 ∷ []) ∷ []) ≡ at 1 [] ((1 ∷ []) ∷ (2 ∷ []) ∷ (4 ∷ []) ∷ (4 ∷ 3 ∷ []) ∷ [])
  -- the nogoods alone change: depth 1
  pub nogoods_alone : verdict limits 2 2 (from 0 (1 ∷ 2 ∷ []) ∷ []) ≡ at 1 (3 ∷ []) ((1 ∷ []) ∷ (2 ∷ []) ∷ [])
  -- the depth speaks of lists: 3 follows from {1} at stage 2 only, but {1} is a nogood at stage 1
  pub lists_alone : verdict limits 1 3 (from 0 (1 ∷ []) ∷ from 2 (1 ∷ []) ∷ from 3 (2 ∷ []) ∷ []) ≡ at 1 (1 ∷ []) ([] ∷ [] ∷ [] ∷ [])
  -- nogoods over, and just not
  pub nogoods_over_lem : verdict (room 9 1) 2 2 (from 0 (1 ∷ []) ∷ from 0 (2 ∷ []) ∷ []) ≡ nogoods_over
  pub nogoods_fit : verdict (room 9 2) 2 2 (from 0 (1 ∷ []) ∷ from 0 (2 ∷ []) ∷ []) ≡ at 1 (1 ∷ 2 ∷ []) ([] ∷ [] ∷ [])
  -- two labels over: the lowest number is named; and just not
  pub label_over_lem : verdict (room 1 9) 2 4 (from 3 (1 ∷ []) ∷ from 3 (2 ∷ []) ∷ from 4 (1 ∷ []) ∷ from 4 (2 ∷ []) ∷ []) ≡ label_over 3
  pub label_fits : verdict (room 2 9) 2 3 (from 3 (1 ∷ []) ∷ from 3 (2 ∷ []) ∷ []) ≡ at 1 [] ((1 ∷ []) ∷ (2 ∷ []) ∷ (1 ∷ 2 ∷ []) ∷ [])
  -- stage 1 needs one member too many, though the last label would be {} alone
  pub early_over : verdict (room 1 9) 2 4 (from 3 (1 ∷ []) ∷ from 3 (2 ∷ []) ∷ from 4 [] ∷ from 3 (4 ∷ []) ∷ []) ≡ label_over 3
  -- with the premise at once it is not
  pub premise_first : verdict (room 1 9) 2 3 (from 3 (1 ∷ []) ∷ from 3 (2 ∷ []) ∷ from 3 [] ∷ []) ≡ at 1 [] ((1 ∷ []) ∷ (2 ∷ []) ∷ (0 ∷ []) ∷ [])
  -- one candidate too many, of which one becomes a nogood at that stage: not over
  pub one_struck : verdict (room 1 9) 2 3 (from 3 (1 ∷ []) ∷ from 3 (2 ∷ []) ∷ from 0 (2 ∷ []) ∷ []) ≡ at 1 (2 ∷ []) ((1 ∷ []) ∷ [] ∷ (1 ∷ []) ∷ [])
  -- at one stage the nogoods come before the labels; at an earlier stage a label comes before them
  pub both_over : verdict (room 1 0) 3 4 (from 4 (1 ∷ []) ∷ from 4 (2 ∷ []) ∷ from 0 (3 ∷ []) ∷ []) ≡ nogoods_over
  pub label_earlier : verdict (room 1 0) 3 5 (from 4 (1 ∷ []) ∷ from 4 (2 ∷ []) ∷ from 5 (3 ∷ []) ∷ from 0 (5 ∷ []) ∷ []) ≡ label_over 4
  -- as deep as there are different consequents
  pub deepest : verdict limits 1 3 (from 2 (1 ∷ []) ∷ from 3 (2 ∷ []) ∷ []) ≡ at 2 [] ((1 ∷ []) ∷ (1 ∷ []) ∷ (1 ∷ []) ∷ [])
