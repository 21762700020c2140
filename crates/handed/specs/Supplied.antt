-- The supports that an item of a list hands over. Assumes nothing.
use Rattle.std.specs.Prelude.{List, [], ◌∷◌, ℕ, ltb, take}
use Rattle.handed.specs.declared.Handed.{Handed}
use Rattle.theory.specs.Limits.{limits}
use Rattle.theory.specs.Lists.{choose}

-- as many as the count says; a count above the limit hands over one more, whatever stands there
unfoldable pub supplied_by : Handed → List ℕ
supplied_by h = choose (ltb limits.supports h.count) (0 ∷ 0 ∷ 0 ∷ 0 ∷ 0 ∷ []) (take h.count h.supports)
