-- Small files and what they spell: document 01's listed case, and faults with their records. Assumes nothing.
use mathlib.Core.List.{List, [], ◌∷◌}
use mathlib.Core.Path.{◌≡◌, refl}
use Prim.Native.Nat.{ℕ}
use Rattle.casefile.specs.Case.{Case, case_of, gathered, held_by, joined, records_from, refused, whole}
use Rattle.items.specs.Items.{Item, header_from, numbers_from, record_from, unless}
use Rattle.numbers.specs.Numbers.{number_from, second_from}
use Rattle.replies.specs.declared.Reply.TheVariants.{After, Counts, Ends, Falsity, Full, Number, Supports}
use Rattle.rules.specs.Held.{put}
use Rattle.rules.specs.Items.{fault_of, same_justification, set_of}
use Rattle.theory.specs.Judge.{same_sets}
use Rattle.theory.specs.Lists.{alike, numbers_below, some_of, those}
use Rattle.theory.specs.Stages.{Justification, ahead, lesser}

abbrev item : ℕ → List ℕ → Item
item c l = record { consequent = c; supports = l }

abbrev rule : ℕ → List ℕ → Justification
rule c l = record { consequent = c; supports = l }

abbrev pub listed_file : List ℕ
listed_file = 3 ∷ 2 ∷ 4 ∷ 4 ∷ 1 ∷ 1 ∷ 4 ∷ 2 ∷ 2 ∷ 3 ∷ 5 ∷ 2 ∷ 2 ∷ 4 ∷ 0 ∷ 2 ∷ 1 ∷ 2 ∷ []

abbrev pub listed_case : Case
listed_case =
    record {
      header = record { assumptions = 3; claims = 2; records = 4 };
      items = item 4 (1 ∷ []) ∷ item 4 (2 ∷ 3 ∷ []) ∷ item 5 (2 ∷ 4 ∷ []) ∷ item 0 (1 ∷ 2 ∷ []) ∷ [];
    }

pub listed : case_of listed_file ≡ whole listed_case
unfolding case_of header_from number_from records_from record_from numbers_from unless fault_of some_of
listed = refl

pub listed_held_lem : held_by listed_case ≡ rule 0 (1 ∷ 2 ∷ []) ∷ rule 4 (1 ∷ []) ∷ rule 4 (2 ∷ 3 ∷ []) ∷ rule 5 (2 ∷ 4 ∷ []) ∷ []
unfolding gathered joined put set_of those numbers_below some_of same_justification same_sets alike ahead lesser
listed_held_lem = refl

-- supports 2, 1, 2 and supports 1, 2 are one justification
pub held_once : gathered 3 [] (item 3 (2 ∷ 1 ∷ 2 ∷ []) ∷ item 3 (1 ∷ 2 ∷ []) ∷ []) ≡ rule 3 (1 ∷ 2 ∷ []) ∷ []
unfolding gathered joined put set_of those numbers_below some_of same_justification same_sets alike
held_once = refl

pub empty_file : case_of [] ≡ refused Ends 0
unfolding case_of header_from number_from
empty_file = refl

-- all three numbers of the header are read before 3
pub only_33 : case_of (33 ∷ []) ≡ refused Ends 0
unfolding case_of header_from number_from
only_33 = refl

-- 3 comes before 7, and 7 looks at the announced count
pub counts_over : case_of (33 ∷ 0 ∷ 129 ∷ 2 ∷ []) ≡ refused Counts 0
unfolding case_of header_from number_from second_from
counts_over = refl

pub records_over : case_of (0 ∷ 0 ∷ 129 ∷ 2 ∷ []) ≡ refused Full 0
unfolding case_of header_from number_from second_from
records_over = refl

-- the file ends between records: 11 with the record that should come
pub second_missing : case_of (1 ∷ 0 ∷ 2 ∷ 1 ∷ 0 ∷ []) ≡ refused Ends 2
unfolding case_of header_from number_from records_from record_from numbers_from unless fault_of some_of
second_missing = refl

-- 6 comes before the supports are read; 4 looks at every number before 5 is looked for
pub five_supports : case_of (1 ∷ 0 ∷ 1 ∷ 1 ∷ 5 ∷ []) ≡ refused Supports 1
unfolding case_of header_from number_from records_from record_from
five_supports = refl

pub above_and_falsity : case_of (1 ∷ 0 ∷ 1 ∷ 1 ∷ 2 ∷ 0 ∷ 2 ∷ []) ≡ refused Number 1
unfolding case_of header_from number_from records_from record_from numbers_from unless fault_of some_of
above_and_falsity = refl

pub falsity_support : case_of (1 ∷ 0 ∷ 1 ∷ 1 ∷ 1 ∷ 0 ∷ []) ≡ refused Falsity 1
unfolding case_of header_from number_from records_from record_from numbers_from unless fault_of some_of
falsity_support = refl

-- bytes after the last record give J
pub byte_after : case_of (1 ∷ 0 ∷ 0 ∷ 7 ∷ []) ≡ refused After 0
unfolding case_of header_from number_from records_from
byte_after = refl
