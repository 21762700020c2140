-- A stage's lists in their places. Assumes nothing.
use Rattle.std.specs.Prelude.{[], ◌∷◌, ◌%◌, ◌*◌, ◌/◌, suc, ℕ, get_or, length}
use Rattle.stages.specs.declared.Lists.{Lists}
use Rattle.theory.specs.Judge.{Stage}
use Rattle.theory.specs.Limits.{limits}
use Rattle.theory.specs.Places.{padded, table}
use Rattle.theory.specs.Sets.{alone}

-- the lists of a stage, and the depth
unfoldable pub lists_of : ℕ → Stage → Lists
lists_of d s = record {
  sizes = table limits.numbers (λ i. length (get_or s.labels i []));
  members = table (limits.numbers * limits.label) (λ i. get_or (get_or s.labels (i / limits.label) []) (i % limits.label) 0);
  count = length s.nogoods;
  nogoods = padded 0 limits.nogoods s.nogoods;
  depth = d;
}

-- stage 0: no nogoods, and each assumption alone in its label
unfoldable pub first_stage : ℕ → Stage
first_stage A = record { nogoods = []; labels = table A (λ i. alone (suc i) ∷ []) }
