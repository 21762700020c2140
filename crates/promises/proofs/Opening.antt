-- Nothing held: the stages settle at 0. Assumes nothing.
use mathlib.Core.Bool.{false}
use mathlib.Core.List.{List, []}
use mathlib.Core.Path.{◌∙◌, ◌≡◌, ap, refl}
use Prim.Native.Nat.{◌<◌, ◌≤◌, suc, zero, ℕ}
use native.Mathlib.Decide.{dec_lt}
use native.Mathlib.Omega.{arith}
use lib.Dec.{ltb}
use lib.ListN.{get_or, length}
use Rattle.theory.proofs.Judgement.{long_some, stage_label, stage_length, stage_nogoods}
use Rattle.theory.proofs.Start.{label_zero, label_zero_above, nogoods_zero}
use Rattle.theory.specs.Judge.{Stage, consequents, course, judge, label_long, nogoods_long, settled, stage_at}
use Rattle.theory.specs.Limits.{limits}

module _ (A N : ℕ) where
  none_few : nogoods_long limits (stage_at A N [] 0) ≡ false
  unfolding nogoods_long
  none_few = ap (λ (l : List ℕ). ltb limits.nogoods (length l)) (stage_nogoods A N [] 0 ∙ nogoods_zero A [])

  one_at_most : (i : ℕ) → i < N → length (get_or (stage_at A N [] 0).labels i []) ≤ 1
  one_at_most i h = elim (dec_lt i A) [
    | yes p ↦ omega (arith, ap length (stage_label A N [] 0 i h ∙ label_zero A [] i p))
    | no p ↦ omega (arith, ap length (stage_label A N [] 0 i h ∙ label_zero_above A [] i (omega arith)))
  ]

  none_long : (n : ℕ) → label_long limits (stage_at A N [] 0) ≡ n → n ≡ 0
  unfolding label_long
  none_long zero e = refl
  none_long (suc m) e =
      let r = long_some 12 0 (stage_at A N [] 0).labels m e in
      absurd (omega (arith, r.2.over, one_at_most r.0 (omega (arith, r.2.there_is, stage_length A N [] 0))))

  turn : (T : ℕ → Stage) → nogoods_long limits (T 0) ≡ false → label_long limits (T 0) ≡ 0 → course limits T 0 0 ≡ settled 0 (T 0)
  unfolding course
  turn T p q = rw (p, q)

  pub judge_none : judge limits A N [] ≡ settled 0 (stage_at A N [] 0)
  unfolding judge consequents
  judge_none = turn (stage_at A N []) none_few (none_long (label_long limits (stage_at A N [] 0)) refl)
