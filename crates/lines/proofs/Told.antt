-- The text of a line is that of the line's own word. Assumes nothing.
use mathlib.Core.Bool.{Bool}
use mathlib.Core.List.{List}
use mathlib.Core.Path.{◌∙◌, ◌≡◌, ap, refl}
use Prim.Native.Nat.{suc, zero, ℕ}
use native.Mathlib.Omega.{arith}
use Rattle.lines.specs.Lines.{line_text}
use Rattle.store.specs.Reading.{contradicted_in, held_from_all, label_held}
use Rattle.store.specs.declared.Store.{Store}
use Rattle.text.specs.Texts.{row}
use Rattle.wording.proofs.Rows.{word_told}
use Rattle.wording.specs.Wording.{line_with, word_of}
use Rattle.theory.specs.Limits.{limits}

pub text_told : (s : Store) (n : ℕ) (c : Bool) → c ≡ contradicted_in s n → line_with s.lists n c ≡ line_text s n
unfolding line_text line_with word_of
text_told s zero c e = refl
text_told s (suc i) c e =
    let l : List ℕ = label_held s.lists (suc i) in
    ap (λ (w : List ℕ). row limits.assumptions (suc i) w l) (ap (word_of (suc i) l) e ∙ word_told (suc i) l (held_from_all s (suc i)) (λ h. absurd (omega arith)))
