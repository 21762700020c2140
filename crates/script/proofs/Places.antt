-- The first place whose byte does not pass, as a loop looks for it. Assumes nothing.
use mathlib.Core.Bool.{Bool, false, true}
use mathlib.Core.List.{List, [], ◌∷◌}
use mathlib.Core.Path.{◌∙◌, ◌≡◌, ap, sym}
use Prim.Native.Nat.{◌+◌, ◌<◌, ◌≤◌, min, suc, ℕ}
use native.Mathlib.Decide.{dec_le}
use native.Mathlib.Numerals.{add-one}
use native.Mathlib.Omega.{arith}
use lib.ListN.{drop, drop_of_length-le, get_or, length, length-drop}
use lib.Seq.{drop-cons, drop-drop, drop-length, drop-nil}
use Rattle.script.specs.Script.{leading, past}
use Rattle.theory.specs.Lists.{choose}

module _ (p : ℕ → Bool) where
  chosen : (b : Bool) (n m : ℕ) → n ≤ m → choose b (suc n) 0 ≤ suc m
  chosen true n m h = omega arith
  chosen false n m h = omega arith

  -- as many as there are at most
  pub leading_few : (l : List ℕ) → leading p l ≤ length l
  unfolding leading
  leading_few [] = omega arith
  leading_few (b ∷ l) = chosen (p b) (leading p l) (length l) (leading_few l)

  module _ (l : List ℕ) (i : ℕ) where
    pub past_end : length l ≤ i → past p l i ≡ length l
    unfolding past leading
    past_end h = rw (drop_of_length-le l {i = i} h) (omega arith)

    leading_step : i < length l → leading p (drop i l) ≡ choose (p (get_or l i 0)) (suc (leading p (drop (i + 1) l))) 0
    unfolding leading
    leading_step h = ap (leading p) (drop-cons l i 0 h) ∙ ap (λ (j : ℕ). choose (p (get_or l i 0)) (suc (leading p (drop j l))) 0) (sym (add-one i))

    pub past_here : i < length l → p (get_or l i 0) ≡ false → past p l i ≡ i
    unfolding past
    past_here h e = omega (arith, leading_step h ∙ ap (λ (b : Bool). choose b (suc (leading p (drop (i + 1) l))) 0) e)

    pub past_more : i < length l → p (get_or l i 0) ≡ true → past p l i ≡ past p l (i + 1)
    unfolding past
    past_more h e = omega (arith, leading_step h ∙ ap (λ (b : Bool). choose b (suc (leading p (drop (i + 1) l))) 0) e)

    -- the place is not past the end, and not before the place that was looked from
    pub past_within : past p l i ≤ length l
    unfolding past
    past_within = omega (arith, leading_few (drop i l), length-drop i l)

    pub past_on : min i (length l) ≤ past p l i
    unfolding past
    past_on = omega arith

    -- what is left from there on
    pub past_rest : drop (past p l i) l ≡ drop (leading p (drop i l)) (drop i l)
    unfolding past
    past_rest = elim (dec_le i (length l)) [
      | yes h ↦ let e : min i (length l) ≡ i = omega arith in ap (λ (n : ℕ). drop (n + leading p (drop i l)) l) e ∙ sym (drop-drop (leading p (drop i l)) i l)
      | no h ↦ let e : length l ≤ i = omega arith in ap (λ (n : ℕ). drop n l) (past_end e) ∙ drop-length l ∙ sym (ap (λ (m : List ℕ). drop (leading p m) m) (drop_of_length-le l {i = i} e) ∙ drop-nil (leading p []))
    ]
