-- Byte 3 and the word `contradicted` of lists as they stand, forged or not. Assumes nothing.
use Rattle.std.specs.Prelude.{Option, Some, None}
use mathlib.Core.Bool.{Bool, ◌&&◌, false, true}
use mathlib.Core.List.{List, [], ◌∷◌}
use mathlib.Core.Logic.{◌↔◌}
use mathlib.Core.Path.{◌∙◌, ◌≡◌, ap, refl, sym}
use Prim.Native.Nat.{suc, ℕ}
use native.Mathlib.Omega.{arith}
use lib.Dec.{eqb}
use lib.ListN.{length}
use borrow.Author.Tests.{ne_eqb}
use Rattle.asking.specs.Asking.{byte_of, first_in, reasoned}
use Rattle.text.specs.Texts.{word}
use Rattle.theory.proofs.Lists.{clash}
use Rattle.wording.specs.Wording.{word_of}

-- the word of a label l, c telling whether the number follows from all assumptions together
pub third_word : (i : ℕ) (l : List ℕ) (c : Bool) → (word_of (suc i) l c ≡ word " contradicted") ↔ ((l ≡ []) × (c ≡ true))
unfolding word_of word
third_word i [] true = (λ e. (refl, refl), λ p. refl)
third_word i [] false = (λ e. absurd (differ (ap length e)), λ p. clash p.1 refl)
  where
    differ : ◌≡◌ {A = ℕ} 12 13 → ⊥
    differ e = omega arith
third_word i (F ∷ l) c = (λ e. absurd (differ (ap length e)), λ p. absurd (filled (ap length p.0)))
  where
    differ : ◌≡◌ {A = ℕ} 10 13 → ⊥
    differ e = omega arith

    filled : ◌≡◌ {A = ℕ} (suc (length l)) 0 → ⊥
    filled e = omega arith

abbrev many : Option ℕ → ℕ
many None = 0
many (Some n) = 1

-- the byte of it, g the nogood found within the set
pub third_byte : (i E : ℕ) (g : Option ℕ) (l : List ℕ) (c : Bool)
    → (byte_of (eqb (length l) 0 && c) (reasoned g (first_in l E)) ≡ 3) ↔ ((g ≡ None) × (word_of (suc i) l c ≡ word " contradicted"))
unfolding first_in
third_byte i E (Some G) l c = (λ e. absurd (two e), λ p. absurd (found p.0))
  where
    two : ◌≡◌ {A = ℕ} 2 3 → ⊥
    two e = omega arith

    alone : ◌≡◌ {A = ℕ} 1 0 → ⊥
    alone e = omega arith

    found : ◌≡◌ {A = Option ℕ} (Some G) None → ⊥
    found e = alone (ap many e)
third_byte i E None [] true = (λ e. (refl, (third_word i [] true).1 (refl, refl)), λ p. three)
  where
    three : byte_of true (reasoned None (first_in [] E)) ≡ 3
    three = refl
third_byte i E None [] false = (λ e. absurd (none_such e), λ p. clash ((third_word i [] false).0 p.1).1 refl)
  where
    none_such : byte_of false (reasoned None (first_in [] E)) ≡ 3 → ⊥
    none_such e = omega arith
third_byte i E None (F ∷ l) c = (λ e. absurd (never (first_in (F ∷ l) E) (sym (ap (λ (b : Bool). byte_of (b && c) (reasoned None (first_in (F ∷ l) E))) (ne_eqb (length (F ∷ l)) 0 filled)) ∙ e)), λ p. absurd (filled (ap length ((third_word i (F ∷ l) c).0 p.1).0)))
  where
    filled : ◌≡◌ {A = ℕ} (suc (length l)) 0 → ⊥
    filled e = omega arith

    never : (o : Option ℕ) → byte_of false (reasoned None o) ≡ 3 → ⊥
    never (Some G) e = omega arith
    never None e = omega arith
