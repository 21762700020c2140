-- The texts that a listing is made of, as lists of bytes. Assumes nothing.
use Rattle.std.specs.Prelude.{List, [], ◌++◌, ◌∷◌, ◌%◌, ◌+◌, ◌/◌, suc, zero, ℕ, ltb}
use Prim.Native.Char.{code}
use Prim.Native.String.{String, [] as none, ◌∷◌ as ◌then◌}
use Rattle.theory.specs.Lists.{choose, each, numbers_to, those}
use Rattle.theory.specs.Sets.{among}

-- the bytes of a word
unfoldable pub word : String → List ℕ
word none = []
word (c then s) = code c ∷ word s

-- the last f decimal digits of n, without leading zeros
unfoldable pub digits_in : ℕ → ℕ → List ℕ
digits_in zero n = []
digits_in (suc f) n = choose (ltb n 10) ((48 + n) ∷ []) (digits_in f (n / 10) ++ ((48 + n % 10) ∷ []))

-- n in decimal digits, without leading zeros; 0 is `0`
unfoldable pub digits : ℕ → List ℕ
digits n = digits_in (suc n) n

-- numbers with a comma between them
unfoldable pub joined : List ℕ → List ℕ
joined [] = []
joined (k ∷ l) = digits k ++ each (λ j. word "," ++ digits j) l

-- the assumptions in E, of w assumptions, rising and in braces; the empty set prints as `{}`
unfoldable pub braced : ℕ → ℕ → List ℕ
braced w E = word "{" ++ (joined (those (among E) (numbers_to w)) ++ word "}")

-- each set of the list after one space
unfoldable pub spaced : ℕ → List ℕ → List ℕ
spaced w l = each (λ E. word " " ++ braced w E) l

-- a number after one space
unfoldable pub field : ℕ → List ℕ
field k = word " " ++ digits k

-- the line of n: the number, its words and the members of its list; a newline after it
unfoldable pub row : ℕ → ℕ → List ℕ → List ℕ → List ℕ
row w n words l = digits n ++ (words ++ (spaced w l ++ word "\n"))

-- line one: `case`, A, M, the justifications held, the depth
unfoldable pub heading : ℕ → ℕ → ℕ → ℕ → List ℕ
heading A M J d = word "case" ++ (field A ++ (field M ++ (field J ++ (field d ++ word "\n"))))

-- a refusal: `refused`, the reply's number, the record
unfoldable pub refusal : ℕ → ℕ → List ℕ
refusal r k = word "refused" ++ (field r ++ (field k ++ word "\n"))
