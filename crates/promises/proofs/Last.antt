-- After the last stage nothing new follows, and at it something does. Assumes nothing.
use mathlib.Core.Bool.{Bool, ◌&&◌, false, true}
use mathlib.Core.List.{List, [], ◌∷◌}
use mathlib.Core.Logic.{◌⊎◌, inl, inr, ⊎_elim}
use mathlib.Core.Path.{◌∙◌, ◌≡◌, refl, sym}
use Prim.Native.Nat.{◌+◌, ◌<◌, ◌≤◌, suc, zero, ℕ}
use native.Mathlib.Decide.{dec_lt}
use native.Mathlib.Nat.{le_of_suc-le-suc, not-suc-le-zero}
use native.Mathlib.Omega.{arith}
use lib.Dec.{ltb}
use lib.ListN.{get_or, length}
use borrow.Author.Tests.{le-leb, leb-true, lt-leb, ltb-false, ltb-true}
use Rattle.following.proofs.Staging.{Placed, ended_129}
use Rattle.following.specs.First.{since_of}
use Rattle.plain.proofs.Since.{since_by}
use Rattle.promises.specs.Meaning.{Placeable}
use Rattle.stagetext.proofs.Laws.{latest_low}
use Rattle.stagetext.specs.Stagetext.{last_stage, latest}
use Rattle.theory.proofs.Following.{follows_cases, follows_later}
use Rattle.theory.proofs.Places.{get_d_table, length_table}
use Rattle.theory.specs.Limits.{limits}
use Rattle.theory.specs.Lists.{choose}
use Rattle.theory.specs.Places.{table}
use Rattle.theory.specs.Stages.{Justification, follows}

-- ---- the greatest below 255

latest_from : (l : List ℕ) (a : ℕ) → a ≤ latest a l
unfolding latest
latest_from [] a = omega arith
latest_from (x ∷ l) a = omega (arith, latest_from l (choose (ltb x 255 && ltb a x) x a), go (ltb x 255) (ltb a x) refl)
  where
    go : (b c : Bool) → ltb a x ≡ c → a ≤ choose (b && c) x a
    go true true e = omega (arith, ltb-true a x e)
    go true false e = omega arith
    go false c e = omega arith

latest_above : (l : List ℕ) (a i : ℕ) → i < length l → get_or l i 0 < 255 → get_or l i 0 ≤ latest a l
unfolding latest
latest_above [] a i h k = absurd (not-suc-le-zero h)
latest_above (x ∷ l) a zero h k = omega (arith, latest_from l (choose (ltb x 255 && ltb a x) x a), go (ltb x 255) (ltb a x) refl refl)
  where
    go : (b c : Bool) → ltb x 255 ≡ b → ltb a x ≡ c → x ≤ choose (b && c) x a
    go true true d e = omega arith
    go true false d e = ltb-false a x e
    go false c d e = absurd (omega (arith, k, ltb-false x 255 d))
latest_above (x ∷ l) a (suc i) h k = latest_above l (choose (ltb x 255 && ltb a x) x a) i (le_of_suc-le-suc h) k

-- it is one of the list, or where it began
latest_one : (l : List ℕ) (a : ℕ) → (latest a l ≡ a) ⊎ ((i : ℕ) × (i < length l) × (latest a l ≡ get_or l i 0))
unfolding latest
latest_one [] a = inl refl
latest_one (x ∷ l) a =
    let b : ℕ = choose (ltb x 255 && ltb a x) x a in
    ⊎_elim (λ (e : latest b l ≡ b). ⊎_elim (λ (d : b ≡ x). inr (0, omega arith, e ∙ d)) (λ (d : b ≡ a). inl (e ∙ d)) (go (ltb x 255 && ltb a x)))
    (λ w. inr (suc w.0, omega (arith, w.1), w.2)) (latest_one l b)
  where
    go : (c : Bool) → (choose c x a ≡ x) ⊎ (choose c x a ≡ a)
    go true = inl refl
    go false = inr refl

-- ---- the last stage
module _ (J : List Justification) (E : ℕ) (p : Placeable J) where
  abbrev w : Placed J
  w = record { consequents = p.consequents; supports = p.supports }

  abbrev T : List ℕ
  T = table (limits.numbers + 1) (since_of J E)

  last_under : last_stage J E < 255
  unfolding last_stage
  last_under = latest_low T 0 (omega arith)

  since_under : (n : ℕ) → n < limits.numbers + 1 → since_of J E n < 255 → since_of J E n ≤ last_stage J E
  unfolding last_stage
  since_under n low h =
      let e : get_or T n 0 ≡ since_of J E n = get_d_table (limits.numbers + 1) (since_of J E) n 0 low in
      omega (arith, e, latest_above T 0 n (omega (arith, low, length_table (limits.numbers + 1) (since_of J E))) (omega (arith, e, h)))

  -- a number without a place follows at stage 0 or never
  high : (k n : ℕ) → limits.numbers + 1 ≤ n → follows J k E n ≡ true → follows J zero E n ≡ true
  high zero n h f = f
  high (suc k) n h f = ⊎_elim (high k n h) (λ g. absurd (omega (arith, h, g.2.of, p.consequents g.0 g.1))) (follows_cases J k E n f)

  -- after it nothing new follows
  pub last_ends : (k n : ℕ) → follows J k E n ≡ true → follows J (last_stage J E) E n ≡ true
  last_ends k n f = elim (dec_lt n (limits.numbers + 1)) [
    | yes low ↦
        let g : follows J (limits.numbers + 1) E n ≡ true = ended_129 J E w (limits.numbers + 1) (omega arith) (k + (limits.numbers + 1)) (omega arith) n (follows_later J k (k + (limits.numbers + 1)) E n (omega arith) f) in
        let m : since_of J E n ≤ limits.numbers + 1 = leb-true (since_of J E n) (limits.numbers + 1) (since_by J E n w (limits.numbers + 1) (omega arith) ∙ g) in
        sym (since_by J E n w (last_stage J E) last_under) ∙ le-leb (since_of J E n) (last_stage J E) (since_under n low (omega (arith, m)))
    | no o ↦ follows_later J zero (last_stage J E) E n (omega arith) (high k n (omega arith) f)
  ]

  -- at it something is new, unless it is stage 0
  pub last_new : (k : ℕ) → last_stage J E ≡ suc k → (n : ℕ) × (follows J (suc k) E n ≡ true) × (follows J k E n ≡ false)
  unfolding last_stage
  last_new k e =
      ⊎_elim (λ (z : latest 0 T ≡ 0). absurd (omega (arith, z, e)))
      (λ v.
      let n : ℕ = v.0 in
      let q : since_of J E n ≡ suc k = sym (get_d_table (limits.numbers + 1) (since_of J E) n 0 (omega (arith, v.1, length_table (limits.numbers + 1) (since_of J E)))) ∙ sym v.2 ∙ e in
      let u : suc k < 255 = omega (arith, e, last_under) in
      (n, sym (since_by J E n w (suc k) u) ∙ le-leb (since_of J E n) (suc k) (omega (arith, q)), sym (since_by J E n w k (omega arith)) ∙ lt-leb (since_of J E n) k (omega (arith, q))))
      (latest_one T 0)
