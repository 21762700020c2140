-- The texts of a set and of a list of sets, as they are left to be written from a place on. Assumes nothing.
use Rattle.std.proofs.Common.{◌≡◌, ◌∙◌, Bool, false, true, ℕ, ◌+◌, ◌-◌, ◌<◌, ◌≤◌, suc, zero, List, [], ◌∷◌, ◌++◌, map, length, drop, get_or, refl, ap, sym, arith, append_assoc, add-one, drop-cons}
use Rattle.std.proofs.lemmas.List.{drop_all}
use Rattle.text.specs.Texts.{braced, digits, joined, spaced, word}
use Rattle.theory.specs.Lists.{choose, each, numbers_below, numbers_to, those}
use Rattle.theory.specs.Sets.{among}

-- ---- the text of a set

-- the numbers from k on, c of them
span : ℕ → ℕ → List ℕ
span zero k = []
span (suc c) k = k ∷ span c (suc k)

span_last : (c k : ℕ) → span (suc c) k ≡ span c k ++ ((k + c) ∷ [])
unfolding span
span_last zero k = let e : k ≡ k + 0 = omega arith in ap (λ (i : ℕ). i ∷ []) e
span_last (suc c) k = let e : suc k + c ≡ k + suc c = omega arith in ap (λ (l : List ℕ). k ∷ l) (span_last c (suc k) ∙ ap (λ (i : ℕ). span c (suc k) ++ (i ∷ [])) e)

below_span : (n : ℕ) → numbers_below n ≡ span n 0
unfolding numbers_below span
below_span zero = refl
below_span (suc n) = let e : n ≡ 0 + n = omega arith in ap (λ (l : List ℕ). l ++ (n ∷ [])) (below_span n) ∙ ap (λ (i : ℕ). span n 0 ++ (i ∷ [])) e ∙ sym (span_last n 0)

next_span : (c k : ℕ) → map suc (span c k) ≡ span c (suc k)
unfolding span
next_span zero k = refl
next_span (suc c) k = ap (λ (l : List ℕ). suc k ∷ l) (next_span c (suc k))

to_span : (n : ℕ) → numbers_to n ≡ span n 1
unfolding numbers_to
to_span n = ap (map suc) (below_span n) ∙ next_span n 0

-- the text of the numbers that follow, where some stand before them and where none do
follow : Bool → List ℕ → List ℕ
follow later l = choose later (each (λ j. word "," ++ digits j) l) (joined l)

-- from assumption k on, the rest of the text of E
pub rest : ℕ → ℕ → ℕ → Bool → List ℕ
rest w E k later = follow later (those (among E) (span (suc w - k) k)) ++ (125 ∷ [])

pub braced_rest : (w E : ℕ) → braced w E ≡ 123 ∷ rest w E 1 false
unfolding braced rest follow word
braced_rest w E =
    let e : w ≡ suc w - 1 = omega arith in
    ap (λ (l : List ℕ). 123 ∷ (joined (those (among E) l) ++ (125 ∷ []))) (to_span w ∙ ap (λ (c : ℕ). span c 1) e)

nothing : (b : Bool) → follow b [] ≡ []
unfolding follow each joined
nothing true = refl
nothing false = refl

pub rest_end : (w E k : ℕ) (b : Bool) → k ≡ suc w → rest w E k b ≡ 125 ∷ []
unfolding rest span those
rest_end w E k b h = let e : suc w - k ≡ 0 = omega arith in rw (e, nothing b)

span_step : (w k : ℕ) → k ≤ w → span (suc w - k) k ≡ k ∷ span (suc w - (k + 1)) (k + 1)
unfolding span
span_step w k h =
    let e : suc w - k ≡ suc (suc w - (k + 1)) = omega arith in
    let f : suc k ≡ k + 1 = omega arith in
    ap (λ (c : ℕ). span c k) e ∙ ap (λ (i : ℕ). k ∷ span (suc w - (k + 1)) i) f

module _ (w E k : ℕ) (h : k ≤ w) where
  -- an assumption that is not in E adds nothing
  pub rest_out : (b : Bool) → among E k ≡ false → rest w E k b ≡ rest w E (k + 1) b
  unfolding rest those
  rest_out b e = rw (span_step w k h, e) refl

  -- the first adds its digits
  pub rest_first : among E k ≡ true → rest w E k false ≡ digits k ++ rest w E (k + 1) true
  unfolding rest those follow joined
  rest_first e = rw (span_step w k h, e) (append_assoc (digits k) (each (λ j. word "," ++ digits j) (those (among E) (span (suc w - (k + 1)) (k + 1)))) (125 ∷ []))

  -- a later one has a comma before them
  pub rest_later : among E k ≡ true → rest w E k true ≡ 44 ∷ (digits k ++ rest w E (k + 1) true)
  unfolding rest those follow each word
  rest_later e = rw (span_step w k h, e) (append_assoc (44 ∷ digits k) (each (λ j. word "," ++ digits j) (those (among E) (span (suc w - (k + 1)) (k + 1)))) (125 ∷ []))

-- ---- lists of sets

pub spaced_turn : (w : ℕ) (l : List ℕ) (i : ℕ) → i < length l → spaced w (drop i l) ≡ 32 ∷ (braced w (get_or l i 0) ++ spaced w (drop (i + 1) l))
unfolding spaced each word
spaced_turn w l i h = ap (spaced w) (drop-cons l i 0 h) ∙ ap (λ (j : ℕ). 32 ∷ (braced w (get_or l i 0) ++ spaced w (drop j l))) (sym (add-one i))

pub spaced_end : (w : ℕ) (l : List ℕ) (i : ℕ) → length l ≤ i → spaced w (drop i l) ≡ []
unfolding spaced each
spaced_end w l i h = ap (spaced w) (drop_all i l h)

pub ruleset rests = (braced_rest, rest_end, rest_out, rest_first, rest_later)

pub ruleset lists = (spaced_turn, spaced_end)
