-- Laws of the text of a line: its word and its list, test by test. Assumes nothing.
use mathlib.Core.Bool.{Bool, ◌&&◌}
use mathlib.Core.List.{List, [], ◌∷◌}
use mathlib.Core.Path.{◌≡◌, refl}
use Prim.Native.Nat.{◌<◌, ◌≤◌, suc, zero, ℕ}
use native.Mathlib.Omega.{arith}
use lib.Dec.{eqb}
use lib.ListN.{length}
use Rattle.wording.specs.Wording.{word_of}
use Rattle.text.specs.Texts.{word}
use Rattle.theory.specs.Lists.{choose}

-- ---- the word

pub word_nogood : (n : ℕ) (l : List ℕ) (c : Bool) → n ≡ 0 → word_of n l c ≡ word " nogood"
unfolding word_of
word_nogood n l c e = rw e

pub word_none : (n : ℕ) (l : List ℕ) (c : Bool) → (n ≡ 0 → ⊥) → length l ≤ 0 → word_of n l c ≡ choose c (word " contradicted") (word " unsupported")
unfolding word_of
word_none zero l c h e = absurd (h refl)
word_none (suc i) [] c h e = refl
word_none (suc i) (E ∷ l) c h e = absurd (omega arith)

pub word_some : (n : ℕ) (l : List ℕ) (c : Bool) → (n ≡ 0 → ⊥) → 0 < length l → word_of n l c ≡ word " supported"
unfolding word_of
word_some zero l c h e = absurd (h refl)
word_some (suc i) [] c h e = absurd (omega arith)
word_some (suc i) (E ∷ l) c h e = refl

-- what a list that is not empty says of following changes no word
pub word_told : (n : ℕ) (l : List ℕ) (c : Bool) → (n ≡ 0 → ⊥) → word_of n l (eqb (length l) 0 && c) ≡ word_of n l c
unfolding word_of
word_told zero l c h = absurd (h refl)
word_told (suc i) [] c h = refl
word_told (suc i) (E ∷ l) c h = refl

pub ruleset words = (word_nogood, word_none, word_some)
