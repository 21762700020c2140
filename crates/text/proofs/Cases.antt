-- Texts that compute: numbers, sets and members. Assumes nothing.
use mathlib.Core.List.{[], ◌∷◌}
use mathlib.Core.Path.{◌≡◌, refl}
use Rattle.text.specs.Texts.{braced, digits, digits_in, field, heading, joined, refusal, row, spaced, word}
use Rattle.theory.specs.Limits.{limits}
use Rattle.theory.specs.Lists.{each, numbers_below, numbers_to, those}
use Rattle.theory.specs.Sets.{among, digit}

zero_digits : digits 0 ≡ word "0"
unfolding digits digits_in word
zero_digits = refl

seven_digits : digits 7 ≡ word "7"
unfolding digits digits_in word
seven_digits = refl

ten_digits : digits 10 ≡ word "10"
unfolding digits digits_in word
ten_digits = refl

long_digits : digits 128 ≡ word "128"
unfolding digits digits_in word
long_digits = refl

two_set : braced limits.assumptions 5 ≡ word "{1,3}"
unfolding braced joined digits digits_in word each those numbers_to numbers_below among digit
two_set = refl

empty_set : braced limits.assumptions 0 ≡ word "{}"
unfolding braced joined digits digits_in word each those numbers_to numbers_below among digit
empty_set = refl

two_members : spaced limits.assumptions (1 ∷ 6 ∷ []) ≡ word " {1} {2,3}"
unfolding spaced braced joined digits digits_in word each those numbers_to numbers_below among digit
two_members = refl

-- ---- lines of the listed case, and the refusal of empty input

case_line_lem : heading 3 2 4 2 ≡ word "case 3 2 4 2\n"
unfolding heading field digits digits_in word
case_line_lem = refl

nogood_line : row limits.assumptions 0 (word " nogood") (3 ∷ []) ≡ word "0 nogood {1,2}\n"
unfolding row spaced braced joined digits digits_in word each those numbers_to numbers_below among digit
nogood_line = refl

label_line : row limits.assumptions 4 (word " supported") (1 ∷ 6 ∷ []) ≡ word "4 supported {1} {2,3}\n"
unfolding row spaced braced joined digits digits_in word each those numbers_to numbers_below among digit
label_line = refl

refusal_line : refusal 11 0 ≡ word "refused 11 0\n"
unfolding refusal field digits digits_in word
refusal_line = refl
