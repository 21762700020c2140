-- The cases of document 01 that are proved (P), all eight in one table: over the calls, at the product's limits. Assumes nothing.
use Rattle.std.specs.Prelude.{List, [], ◌∷◌, map, ◌≡◌, ◌+◌, ◌<◌, ◌≤◌, ℕ, length, Some, Ok}
use Rattle.std.proofs.Math.Option.{some}
use Prim.Native.String.{String}
use Rattle.asking.specs.Asking.{member_number, member_set}
use Rattle.asking.specs.declared.Answer.TheVariants.{Unsupported}
use Rattle.numbers.specs.Numbers.{past_of, replied, valued}
use Rattle.promises.specs.Calls.{Calls, line, member, over, question, reads, written}
use Rattle.promises.specs.Made.{Made}
use Rattle.replies.specs.declared.Reply.TheVariants.{Already, Done}
use Rattle.store.specs.Reading.{label_held, nogoods_held}
use Rattle.store.specs.declared.Store.{Store}
use Rattle.text.specs.Texts.{word}
use Rattle.theory.specs.Cases.{from, worked}
use Rattle.theory.specs.Limits.{limits}
use Rattle.theory.specs.Lists.{numbers_to}

-- ---- the stores, each as the calls hand it back

-- A=0, M=0, nothing held
abbrev pub nothing : Calls → Store
nothing C = (C.opening 0 0).store

-- the listed case, by its bytes
abbrev pub listed_bytes : List ℕ
listed_bytes = 3 ∷ 2 ∷ 4 ∷ 4 ∷ 1 ∷ 1 ∷ 4 ∷ 2 ∷ 2 ∷ 3 ∷ 5 ∷ 2 ∷ 2 ∷ 4 ∷ 0 ∷ 2 ∷ 1 ∷ 2 ∷ []

abbrev pub listed : Calls → Store
listed C = (C.loading listed_bytes).store

-- A=1, M=2: claim 2 from claim 3, then claim 3 from claim 2
abbrev pub one_way : Calls → Store
one_way C = (C.adding (C.opening 1 2).store 2 (3 ∷ [])).store

abbrev pub each_other : Calls → Store
each_other C = (C.adding (one_way C) 3 (2 ∷ [])).store

-- A assumptions, M claims: falsity from no supports
abbrev pub absurdity : Calls → ℕ → ℕ → Store
absurdity C A M = (C.adding (C.opening A M).store 0 []).store

-- A=2, M=0: assumption 1 from assumption 2
abbrev pub assumed : Calls → Store
assumed C = (C.adding (C.opening 2 0).store 1 (2 ∷ [])).store

-- A=2, M=1: claim 3 from the supports 2, 1, 2
abbrev pub with_one : Calls → Store
with_one C = (C.adding (C.opening 2 1).store 3 (2 ∷ 1 ∷ 2 ∷ [])).store

-- A=1, M=0: falsity from assumption 1
abbrev pub struck : Calls → Store
struck C = (C.adding (C.opening 1 0).store 0 (1 ∷ [])).store

-- ---- the table

-- what a store lists: its depth, its nogoods, and the labels of 1, 2 ..
pub record ListsAre (s : Store) (d : ℕ) (bad : List ℕ) (ls : List (List ℕ)) : Type 0 where
  pub depth : s.lists.depth ≡ d
  pub nogoods : nogoods_held s.lists ≡ bad
  pub labels : map (label_held s.lists) (numbers_to (length ls)) ≡ ls

-- the line of n is the text t: into any lent bytes that it fits
abbrev pub Prints : Calls → Store → ℕ → String → Type 0
Prints C s n t = (out : List ℕ) → length (word t) ≤ length out → C.reading s (line n out) ≡ reads (line n out) (written (word t)) s (over (word t) out)

-- the bytes give the number n, and the place next after it
pub record Decodes (C : Calls) (bytes : List ℕ) (n next : ℕ) : Type 0 where
  pub done : replied (C.decoding bytes 0) ≡ 0
  pub value : valued (C.decoding bytes 0) ≡ some n
  pub past : past_of (C.decoding bytes 0) 0 ≡ next

-- each row: the answer, what was put in, the lists
pub record PCases (C : Calls) : Type 0 where
  -- A=0, M=0, nothing held: depth 0, no nogoods
  pub nothing_done : (C.opening 0 0).reply ≡ Done
  pub nothing_made : Made C 0 0 [] (nothing C)
  pub nothing_lists : ListsAre (nothing C) 0 [] []
  -- the listed case, its label of 5 and its depth
  pub listed_done : (C.loading listed_bytes).reply ≡ Done
  pub listed_made : Made C 3 2 worked (listed C)
  pub listed_lists : ListsAre (listed C) 2 (3 ∷ []) ((1 ∷ []) ∷ (2 ∷ []) ∷ (4 ∷ []) ∷ (1 ∷ 6 ∷ []) ∷ (6 ∷ []) ∷ [])
  -- {2,3} is 6
  pub listed_5 : label_held (listed C).lists 5 ≡ 6 ∷ []
  pub listed_member : member_set (C.reading (listed C) (member 5 0)).said ≡ Some 6
  pub listed_last : member_number (C.reading (listed C) (member 5 1)).said ≡ 16
  -- A=1, claims 2 and 3 supporting each other: both unsupported, depth 0
  pub one_way_done : (C.adding (C.opening 1 2).store 2 (3 ∷ [])).reply ≡ Done
  pub one_way_made : Made C 1 2 (from 2 (3 ∷ []) ∷ []) (one_way C)
  pub each_other_done : (C.adding (one_way C) 3 (2 ∷ [])).reply ≡ Done
  pub each_other_made : Made C 1 2 (from 3 (2 ∷ []) ∷ from 2 (3 ∷ []) ∷ []) (each_other C)
  pub each_other_lists : ListsAre (each_other C) 0 [] ((1 ∷ []) ∷ [] ∷ [] ∷ [])
  pub each_other_asked : (n E : ℕ) → 2 ≤ n → n ≤ 3 → E < 2 → (C.reading (each_other C) (question n E)).said ≡ Ok Unsupported
  pub each_other_lines : Prints C (each_other C) 2 "2 unsupported\n" × Prints C (each_other C) 3 "3 unsupported\n"
  -- a premise for falsity, whatever A and M: one nogood, the empty set; all labels empty; depth 1. Not refused
  pub absurdity_done : (A M : ℕ) → A ≤ limits.assumptions → M ≤ limits.claims → (C.adding (C.opening A M).store 0 []).reply ≡ Done
  pub absurdity_made : (A M : ℕ) → A ≤ limits.assumptions → M ≤ limits.claims → Made C A M (from 0 [] ∷ []) (absurdity C A M)
  pub absurdity_nogoods : (A M : ℕ) → A ≤ limits.assumptions → M ≤ limits.claims → nogoods_held (absurdity C A M).lists ≡ 0 ∷ []
  pub absurdity_labels : (A M : ℕ) → A ≤ limits.assumptions → M ≤ limits.claims → (n : ℕ) → n ≤ A + M → label_held (absurdity C A M).lists n ≡ []
  pub absurdity_depth : (A M : ℕ) → A ≤ limits.assumptions → M ≤ limits.claims → (absurdity C A M).lists.depth ≡ 1
  -- assumption 1 justified by assumption 2: label of 1 is {1} {2}
  pub assumed_done : (C.adding (C.opening 2 0).store 1 (2 ∷ [])).reply ≡ Done
  pub assumed_made : Made C 2 0 (from 1 (2 ∷ []) ∷ []) (assumed C)
  pub assumed_lists : ListsAre (assumed C) 1 [] ((1 ∷ 2 ∷ []) ∷ (2 ∷ []) ∷ [])
  -- supports 2,1,2 and supports 1,2 are one justification: the second answer is 1
  pub with_one_done : (C.adding (C.opening 2 1).store 3 (2 ∷ 1 ∷ 2 ∷ [])).reply ≡ Done
  pub with_one_made : Made C 2 1 (from 3 (1 ∷ 2 ∷ []) ∷ []) (with_one C)
  pub with_one_again : (C.adding (with_one C) 3 (1 ∷ 2 ∷ [])).reply ≡ Already
  -- nogood {1} with A=1: the label of 1 is empty
  pub struck_done : (C.adding (C.opening 1 0).store 0 (1 ∷ [])).reply ≡ Done
  pub struck_made : Made C 1 0 (from 0 (1 ∷ []) ∷ []) (struck C)
  pub struck_lists : ListsAre (struck C) 1 (1 ∷ []) ([] ∷ [])
  -- numbers in seven-bit groups: 127, 128 and 16,383, with the place after each; 300; 80 00 is refused, and so is 80 alone
  pub number_127 : Decodes C (127 ∷ []) 127 1
  pub number_128 : Decodes C (128 ∷ 1 ∷ []) 128 2
  pub number_16383 : Decodes C (255 ∷ 127 ∷ []) 16383 2
  pub number_300 : Decodes C (172 ∷ 2 ∷ []) 300 2
  pub number_80_00 : replied (C.decoding (128 ∷ 0 ∷ []) 0) ≡ 12
  pub number_80 : replied (C.decoding (128 ∷ []) 0) ≡ 11
