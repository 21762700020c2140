-- Laws of a number's digits. Assumes nothing.
use mathlib.Core.Bool.{Bool, false, true}
use mathlib.Core.List.{List, [], ◌++◌, ◌∷◌}
use mathlib.Core.Logic.{⊎_elim}
use mathlib.Core.Path.{◌∙◌, ◌≡◌, ap, refl}
use Prim.Native.Nat.{◌%◌, ◌+◌, ◌/◌, ◌<◌, ◌^◌, ◌≤◌, suc, zero, ℕ}
use native.Mathlib.Nat.{not-suc-le-zero, pow-suc}
use native.Mathlib.Omega.{arith}
use lib.Dec.{ltb}
use lib.ListN.{length, length-append}
use borrow.Author.Tests.{le-ltb, lt-ltb, ltb-false, ltb-true}
use Rattle.text.specs.Texts.{digits, digits_in}
use Rattle.theory.proofs.Lists.{either}
use Rattle.theory.specs.Lists.{choose}

pub digits_one : (n : ℕ) → n < 10 → digits n ≡ (48 + n) ∷ []
unfolding digits digits_in
digits_one n h = ap (λ (b : Bool). choose b ((48 + n) ∷ []) (digits_in n (n / 10) ++ ((48 + n % 10) ∷ []))) (lt-ltb n 10 h)

turn : (n : ℕ) (s t : List ℕ) (b : Bool) → ltb n 10 ≡ b → (10 ≤ n → s ≡ t) → choose b ((48 + n) ∷ []) (s ++ ((48 + n % 10) ∷ [])) ≡ choose b ((48 + n) ∷ []) (t ++ ((48 + n % 10) ∷ []))
turn n s t true e f = refl
turn n s t false e f = ap (λ (l : List ℕ). l ++ ((48 + n % 10) ∷ [])) (f (ltb-false n 10 e))

enough : (f g n : ℕ) → n < f → n < g → digits_in f n ≡ digits_in g n
unfolding digits_in
enough zero g n h k = absurd (not-suc-le-zero h)
enough (suc f) zero n h k = absurd (not-suc-le-zero k)
enough (suc f) (suc g) n h k =
    turn n (digits_in f (n / 10)) (digits_in g (n / 10)) (ltb n 10) refl (λ l. enough f g (n / 10) (omega arith) (omega arith))

pub digits_more : (n : ℕ) → 10 ≤ n → digits n ≡ digits (n / 10) ++ ((48 + n % 10) ∷ [])
unfolding digits digits_in
digits_more n h =
    ap (λ (b : Bool). choose b ((48 + n) ∷ []) (digits_in n (n / 10) ++ ((48 + n % 10) ∷ []))) (le-ltb n 10 h)
    ∙ ap (λ (t : List ℕ). t ++ ((48 + n % 10) ∷ [])) (enough n (suc (n / 10)) (n / 10) (omega arith) (omega arith))

-- ---- how many there are

pub digits_most : (f n : ℕ) → n < 10 ^ suc f → length (digits n) ≤ suc f
digits_most zero n h = omega (arith, ap length (digits_one n h))
digits_most (suc f) n h =
    ⊎_elim (λ k. omega (arith, ap length (digits_one n (ltb-true n 10 k))))
    (λ k. let l : n / 10 < 10 ^ suc f = omega (arith, pow-suc 10 (suc f)) in
    omega (arith, ap length (digits_more n (ltb-false n 10 k)), length-append (digits (n / 10)) ((48 + n % 10) ∷ []), digits_most f (n / 10) l)) (either (ltb n 10))

pub ruleset steps = (digits_one, digits_more)
