-- How long the lines of the stages can be. Assumes nothing.
use mathlib.Core.Bool.{Bool, ◌&&◌, false, true}
use mathlib.Core.List.{List, [], ◌∷◌}
use mathlib.Core.Logic.{⊎_elim}
use mathlib.Core.Path.{◌≡◌, ap, refl, subst}
use Prim.Native.Nat.{◌*◌, ◌+◌, ◌<◌, ◌≤◌, suc, zero, ℕ}
use native.Mathlib.Numerals.{add-one}
use native.Mathlib.Omega.{arith}
use lib.Dec.{ltb}
use lib.ListN.{get_or, length}
use borrow.Author.Tests.{ltb-true}
use Rattle.following.proofs.First.{since_129, up_to_no, up_to_yes}
use Rattle.following.proofs.Staging.{Placed}
use Rattle.following.specs.First.{since_of, up_to}
use Rattle.following.specs.Marks.{marked}
use Rattle.stagetext.proofs.Laws.{digits_few, row_length, text_is}
use Rattle.stagetext.proofs.Upto.{upto, upto_few, upto_le, upto_length, upto_none}
use Rattle.stagetext.specs.Stagetext.{body_of, latest, longest, part_of, row_of, rows_of, stage_text}
use Rattle.text.specs.Texts.{digits, digits_in, field, word}
use Rattle.theory.proofs.Lists.{either}
use Rattle.theory.proofs.Places.{get_d_table, length_table}
use Rattle.theory.specs.Limits.{limits}
use Rattle.theory.specs.Lists.{choose, each, numbers_below}
use Rattle.theory.specs.Places.{table}
use Rattle.theory.specs.Stages.{Justification, follows}

-- ---- the last stage is one more than the numbers at most

latest_most : (l : List ℕ) (a b : ℕ) → a ≤ b → ((i : ℕ) → i < length l → get_or l i 0 < 255 → get_or l i 0 ≤ b) → latest a l ≤ b
unfolding latest
latest_most [] a b h f = h
latest_most (x ∷ l) a b h f = latest_most l (choose (ltb x 255 && ltb a x) x a) b (go (ltb x 255) (ltb a x) refl) (λ i p q. f (suc i) (omega arith) q)
  where
    go : (c d : Bool) → ltb x 255 ≡ c → choose (c && d) x a ≤ b
    go true true e = f 0 (omega arith) (ltb-true x 255 e)
    go true false e = h
    go false d e = h

module _ (J : List Justification) (w : Placed J) (E : ℕ) where
  since_low : (n : ℕ) → since_of J E n < 255 → since_of J E n ≤ limits.numbers + 1
  since_low n h =
      let e : since_of J E n ≡ up_to J E (limits.numbers + 1) n = since_129 J E w n in
      ⊎_elim (λ (t : follows J (limits.numbers + 1) E n ≡ true). omega (arith, e, up_to_yes J E (limits.numbers + 1) n t)) (λ (t : follows J (limits.numbers + 1) E n ≡ false). absurd (omega (arith, h, e, up_to_no J E (limits.numbers + 1) n t))) (either (follows J (limits.numbers + 1) E n))

  pub last_low : latest 0 (table (limits.numbers + 1) (since_of J E)) ≤ limits.numbers + 1
  last_low =
      latest_most (table (limits.numbers + 1) (since_of J E)) 0 (limits.numbers + 1) (omega arith)
      (λ i p q.
      let at : get_or (table (limits.numbers + 1) (since_of J E)) i 0 ≡ since_of J E i = get_d_table (limits.numbers + 1) (since_of J E) i 0 (omega (arith, p, length_table (limits.numbers + 1) (since_of J E))) in
      omega (arith, at, since_low i (omega (arith, at, q))))

-- ---- a line has 0 and all numbers at most

upto_under : (f g : ℕ → List ℕ) → ((n : ℕ) → length (f n) ≤ length (g n)) → (n : ℕ) → length (upto f n) ≤ length (upto g n)
upto_under f g h zero = omega (arith, ap length (upto_none f))
upto_under f g h (suc n) =
    subst (λ (k : ℕ). length (upto f k) ≤ length (upto g k)) (add-one n) (omega (arith, upto_length f n, upto_length g n, h n, upto_under f g h n))

all_fields : length (each field (numbers_below (limits.numbers + 1))) ≡ 406
unfolding each field word digits digits_in numbers_below
all_fields = refl

body_most : (m : List ℕ) (k end : ℕ) → end ≤ limits.numbers + 1 → length (body_of end m k) ≤ 406
unfolding body_of part_of
body_most m k end h = omega (arith, all_fields, upto_under (part_of m k) field part_under end, upto_le field end (limits.numbers + 1) h)
  where
    part_under : (n : ℕ) → length (part_of m k n) ≤ length (field n)
    part_under n = under (marked k m n)
      where
        under : (b : Bool) → length (choose b (field n) []) ≤ length (field n)
        under true = omega arith
        under false = omega arith

pub row_most : (m : List ℕ) (end k : ℕ) → end ≤ limits.numbers + 1 → k < 1000 → length (row_of end m k) ≤ 3 + 406 + 1
row_most m end k h p = omega (arith, row_length m end k, body_most m k end h, digits_few k p)

pub rows_most : (m : List ℕ) (end c : ℕ) → end ≤ limits.numbers + 1 → c ≤ 1000 → length (rows_of end m c) ≤ (3 + 406 + 1) * c
unfolding rows_of
rows_most m end c h p = upto_few (row_of end m) (3 + 406 + 1) 1000 (λ k q. row_most m end k h q) c p

-- no text of stages is longer
pub stages_length : (J : List Justification) → Placed J → (E N : ℕ) → N ≤ limits.numbers → length (stage_text N J E) ≤ longest
stages_length J w E N h =
    let m : List ℕ = table (limits.numbers + 1) (since_of J E) in
    let last : latest 0 m ≤ limits.numbers + 1 = last_low J w E in
    subst (λ (t : List ℕ). length t ≤ longest) (text_is J w E N h) (omega (arith, last, rows_most m (N + 1) (latest 0 m + 1) (omega arith) (omega (arith, last))))
