-- The label of a support as it lies, and the supports left after the first. Assumes nothing.
use Rattle.std.proofs.Common.{◌≡◌, ℕ, ◌*◌, ◌+◌, ◌-◌, ◌≤◌, suc, zero, List, ◌∷◌, drop, get_or, length, length-take, take, ap, ◌∙◌, arith}
use Rattle.joining.specs.Layout.{Layout, Ranged, lying}
use Rattle.theory.specs.Limits.{limits}

-- the label of a number as a part of the members
pub lying_part : (members sizes : List ℕ) (n : ℕ) → 1 ≤ n → take (limits.label * (n - 1) + get_or sizes (n - 1) 0 - limits.label * (n - 1)) (drop (limits.label * (n - 1)) members) ≡ lying members sizes n
unfolding lying
lying_part members sizes zero h = absurd (omega arith)
lying_part members sizes (suc i) h =
    let e : suc i - 1 ≡ i = omega arith in
    let size : limits.label * i + get_or sizes i 0 - limits.label * i ≡ get_or sizes i 0 = omega arith in
    ap (λ (j : ℕ). take (limits.label * j + get_or sizes j 0 - limits.label * j) (drop (limits.label * j) members)) e ∙ ap (λ (k : ℕ). take k (drop (limits.label * i) members)) size

-- a label is no longer than its limit
pub lying_few : (members sizes : List ℕ) → Layout members sizes → (n : ℕ) → length (lying members sizes n) ≤ limits.label
unfolding lying
lying_few members sizes lay zero = omega arith
lying_few members sizes lay (suc i) = omega (arith, length-take (get_or sizes i 0) (drop (limits.label * i) members), lay.sizes_small i)

-- the supports left have labels too
pub left_ranged : {supports rest : List ℕ} {s : ℕ} → supports ≡ s ∷ rest → Ranged supports → Ranged rest
left_ranged {supports} {rest} {s} e r = record {
  range = λ i p.
      let w = r.range (suc i) (omega (arith, ap length e)) in
      let q : get_or supports (suc i) 0 ≡ get_or rest i 0 = ap (λ (l : List ℕ). get_or l (suc i) 0) e in
      (omega (arith, q, w.0), omega (arith, q, w.1));
}
