-- The text of one line of the listing, as document 01 has it. Assumes nothing.
use Rattle.std.specs.Prelude.{Bool, List, [], ◌∷◌, suc, zero, ℕ}
use Rattle.stages.specs.declared.Lists.{Lists}
use Rattle.store.specs.Reading.{list_held}
use Rattle.text.specs.Texts.{row, word}
use Rattle.theory.specs.Lists.{choose}
use Rattle.theory.specs.Limits.{limits}

-- the word of n, whose list is l, c telling whether n follows from all assumptions together: `nogood` for 0; for the others `supported`; where the label is empty `contradicted` or `unsupported`
unfoldable pub word_of : ℕ → List ℕ → Bool → List ℕ
word_of zero l c = word " nogood"
word_of (suc i) [] c = choose c (word " contradicted") (word " unsupported")
word_of (suc i) (E ∷ l) c = word " supported"

-- the number, its word and the members of its list
unfoldable pub line_with : Lists → ℕ → Bool → List ℕ
line_with t n c = row limits.assumptions n (word_of n (list_held t n) c) (list_held t n)
