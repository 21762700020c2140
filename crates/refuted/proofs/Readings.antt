-- Each wrong reading lists a case otherwise than the stages, and as a program is refuted by demand 2. Assumes nothing.
use mathlib.Core.Bool.{Bool, false, true}
use mathlib.Core.List.Memᴰ.{head as here}
use mathlib.Core.List.{List, [], ◌∷◌}
use mathlib.Core.Path.{◌∙◌, ◌≡◌, ap, ap₂, refl, subst, sym}
use Prim.Native.Nat.{◌+◌, ◌≤◌, ℕ}
use native.Mathlib.Omega.{arith}
use lib.Count.{ones}
use Rattle.casefile.proofs.Cases.{listed as spells, listed_case}
use Rattle.casefile.specs.Case.{Case, case_of, records_from, whole}
use Rattle.casefile.specs.Load.{load_of}
use Rattle.casefile.specs.declared.Loaded.{Loaded}
use Rattle.items.specs.Items.{Item, header_from, numbers_from, record_from, unless}
use Rattle.numbers.specs.Numbers.{number_from, second_from}
use Rattle.promises.proofs.Form.{form_a, form_m, form_said}
use Rattle.promises.proofs.Rows.{room_says}
use Rattle.promises.specs.Demand2.{Demand2, ListsSmallest}
use Rattle.promises.specs.Made.{in_order, put_in}
use Rattle.refuted.proofs.Files.{file_are, file_form, reading_lists, reading_made}
use Rattle.refuted.proofs.Small.{few_room}
use Rattle.refuted.specs.Cases.{listed_bytes}
use Rattle.refuted.specs.Readings.{Readings, ReadingsRefuted, as_found, crossed, each_other, found_stage, half_built, half_long, half_refused, kept_stage, listed_by, new_nogoods, once_stage, refusing_half, relisted, satisfying, satisfying_stage, shorter, some_half_long, step_by, steps, struck_once}
use Rattle.replies.specs.Replies.{number_of}
use Rattle.replies.specs.declared.Reply.TheVariants.{Done, Label}
use Rattle.rules.specs.Held.{put, said_by}
use Rattle.rules.specs.Items.{fault_of, same_justification, set_of}
use Rattle.stages.specs.Lists.{lists_of}
use Rattle.stages.specs.declared.Lists.{Lists}
use Rattle.store.specs.Calls.{no_store}
use Rattle.store.specs.Reading.{label_held}
use Rattle.store.specs.Shape.{top}
use Rattle.store.specs.declared.Store.{Store}
use Rattle.theory.proofs.Lists.{clash}
use Rattle.theory.specs.Cases.{at, from, verdict}
use Rattle.theory.specs.Demands.{carries, contradicts}
use Rattle.theory.specs.Judge.{Stage, agree, judge, same_sets, settled, stage_at, stage_of}
use Rattle.theory.specs.Limits.{limits}
use Rattle.theory.specs.Lists.{alike, all_of, choose, each, numbers_below, numbers_to, some_of, sorted_by, those}
use Rattle.theory.specs.Places.{table}
use Rattle.theory.specs.Sets.{among, before, by_size, contains, digit, listing, within}
use Rattle.theory.specs.Stages.{Justification, ahead, follows, gives, label_at, label_of, lesser, minimal, nogoods_at, nogoods_of}
use Rattle.theory.specs.Step.{best, candidates, free, joins, joins_for, label_in, picks}

pub readings : Readings
unfolding stage_at stage_of nogoods_at nogoods_of label_at label_of minimal follows among digit within gives some_of all_of those numbers_below numbers_to by_size listing ones joins joins_for each candidates contains free best before picks label_in new_nogoods step_by steps struck_once half_built as_found once_stage kept_stage found_stage half_long satisfying agree alike same_sets
readings = record { satisfied = refl; satisfied_right = refl; once = refl; once_right = refl; kept = refl; kept_right = refl; half = refl; half_right = refl; found = refl; found_right = refl }

-- ---- the files

abbrev item : ℕ → List ℕ → Item
item c l = record { consequent = c; supports = l }

abbrev case : ℕ → ℕ → ℕ → List Item → Case
case A M J l = record { header = record { assumptions = A; claims = M; records = J }; items = l }

abbrev other_bytes : List ℕ
other_bytes = 1 ∷ 2 ∷ 2 ∷ 2 ∷ 1 ∷ 3 ∷ 3 ∷ 1 ∷ 2 ∷ []

abbrev other_file : Case
other_file = case 1 2 2 (item 2 (3 ∷ []) ∷ item 3 (2 ∷ []) ∷ [])

abbrev short_bytes : List ℕ
short_bytes = 2 ∷ 2 ∷ 3 ∷ 3 ∷ 2 ∷ 1 ∷ 2 ∷ 4 ∷ 1 ∷ 1 ∷ 3 ∷ 1 ∷ 4 ∷ []

abbrev short_file : Case
short_file = case 2 2 3 (item 3 (1 ∷ 2 ∷ []) ∷ item 4 (1 ∷ []) ∷ item 3 (4 ∷ []) ∷ [])

abbrev cross_bytes : List ℕ
cross_bytes = 3 ∷ 2 ∷ 3 ∷ 4 ∷ 2 ∷ 1 ∷ 2 ∷ 4 ∷ 1 ∷ 5 ∷ 5 ∷ 1 ∷ 3 ∷ []

abbrev cross_file : Case
cross_file = case 3 2 3 (item 4 (1 ∷ 2 ∷ []) ∷ item 4 (5 ∷ []) ∷ item 5 (3 ∷ []) ∷ [])

-- 4 from each assumption, 5 and 6 from 4, 7 from all three: 27 joins
abbrev long_bytes : List ℕ
long_bytes = 3 ∷ 4 ∷ 6 ∷ 4 ∷ 1 ∷ 1 ∷ 4 ∷ 1 ∷ 2 ∷ 4 ∷ 1 ∷ 3 ∷ 5 ∷ 1 ∷ 4 ∷ 6 ∷ 1 ∷ 4 ∷ 7 ∷ 3 ∷ 4 ∷ 5 ∷ 6 ∷ []

abbrev long_file : Case
long_file = case 3 4 6 (item 4 (1 ∷ []) ∷ item 4 (2 ∷ []) ∷ item 4 (3 ∷ []) ∷ item 5 (4 ∷ []) ∷ item 6 (4 ∷ []) ∷ item 7 (4 ∷ 5 ∷ 6 ∷ []) ∷ [])

abbrev long : List Justification
long = from 4 (1 ∷ []) ∷ from 4 (2 ∷ []) ∷ from 4 (3 ∷ []) ∷ from 5 (4 ∷ []) ∷ from 6 (4 ∷ []) ∷ from 7 (4 ∷ 5 ∷ 6 ∷ []) ∷ []

spelled : (case_of other_bytes ≡ whole other_file) × (case_of short_bytes ≡ whole short_file) × (case_of cross_bytes ≡ whole cross_file) × (case_of long_bytes ≡ whole long_file)
unfolding case_of header_from number_from second_from records_from record_from numbers_from unless fault_of some_of
spelled = (refl, refl, refl, refl)

-- what each holds, in order
held : (in_order (put_in other_file) ≡ each_other) × (in_order (put_in short_file) ≡ shorter) × (in_order (put_in cross_file) ≡ crossed) × (in_order (put_in long_file) ≡ long)
unfolding in_order put set_of those some_of numbers_below same_justification same_sets alike ahead lesser
held = (refl, refl, refl, refl)

worked_held_lem : in_order (put_in listed_case) ≡ from 0 (1 ∷ 2 ∷ []) ∷ from 4 (1 ∷ []) ∷ from 4 (2 ∷ 3 ∷ []) ∷ from 5 (2 ∷ 4 ∷ []) ∷ []
unfolding in_order put set_of those some_of numbers_below same_justification same_sets alike ahead lesser
worked_held_lem = refl

-- the judgement of each
abbrev judged : ℕ → ℕ → List Justification → ℕ → List ℕ → List (List ℕ) → Type 0
judged A N J d n l = judge limits A N J ≡ at d n l

other_judged : judged 1 3 each_other 0 [] ((1 ∷ []) ∷ [] ∷ [] ∷ [])
unfolding verdict
other_judged = refl

worked_judged : judged 3 5 (from 0 (1 ∷ 2 ∷ []) ∷ from 4 (1 ∷ []) ∷ from 4 (2 ∷ 3 ∷ []) ∷ from 5 (2 ∷ 4 ∷ []) ∷ []) 2 (3 ∷ []) ((1 ∷ []) ∷ (2 ∷ []) ∷ (4 ∷ []) ∷ (1 ∷ 6 ∷ []) ∷ (6 ∷ []) ∷ [])
unfolding verdict
worked_judged = refl

short_judged : judged 2 4 shorter 2 [] ((1 ∷ []) ∷ (2 ∷ []) ∷ (1 ∷ []) ∷ (1 ∷ []) ∷ [])
unfolding verdict
short_judged = refl

cross_judged : judged 3 5 crossed 2 [] ((1 ∷ []) ∷ (2 ∷ []) ∷ (4 ∷ []) ∷ (4 ∷ 3 ∷ []) ∷ (4 ∷ []) ∷ [])
unfolding verdict
cross_judged = refl

long_judged : judged 3 7 long 3 [] ((1 ∷ []) ∷ (2 ∷ []) ∷ (4 ∷ []) ∷ (1 ∷ 2 ∷ 4 ∷ []) ∷ (1 ∷ 2 ∷ 4 ∷ []) ∷ (1 ∷ 2 ∷ 4 ∷ []) ∷ (1 ∷ 2 ∷ 4 ∷ []) ∷ [])
unfolding verdict
long_judged = refl

-- ---- what the readings list there

other_listed : label_held (lists_of 0 (satisfying_stage 1 3 each_other 0)) 2 ≡ 0 ∷ []
unfolding satisfying_stage lists_of table stage_at stage_of nogoods_at nogoods_of label_at label_of minimal follows among digit within gives some_of all_of those numbers_below numbers_to by_size listing ones joins joins_for each candidates contains free best before picks label_in new_nogoods step_by steps struck_once half_built as_found once_stage kept_stage found_stage half_long satisfying agree alike same_sets
other_listed = refl

once_listed : label_held (lists_of 2 (once_stage 3 5 (from 0 (1 ∷ 2 ∷ []) ∷ from 4 (1 ∷ []) ∷ from 4 (2 ∷ 3 ∷ []) ∷ from 5 (2 ∷ 4 ∷ []) ∷ []) 2)) 5 ≡ 3 ∷ 6 ∷ []
unfolding lists_of table stage_at stage_of nogoods_at nogoods_of label_at label_of minimal follows among digit within gives some_of all_of those numbers_below numbers_to by_size listing ones joins joins_for each candidates contains free best before picks label_in new_nogoods step_by steps struck_once half_built as_found once_stage kept_stage found_stage half_long satisfying agree alike same_sets
once_listed = refl

kept_listed : label_held (lists_of 2 (kept_stage 2 4 shorter 2)) 3 ≡ 3 ∷ 1 ∷ []
unfolding lists_of table stage_at stage_of nogoods_at nogoods_of label_at label_of minimal follows among digit within gives some_of all_of those numbers_below numbers_to by_size listing ones joins joins_for each candidates contains free best before picks label_in new_nogoods step_by steps struck_once half_built as_found once_stage kept_stage found_stage half_long satisfying agree alike same_sets
kept_listed = refl

found_listed : label_held (lists_of 2 (found_stage 3 5 crossed 2)) 4 ≡ 3 ∷ 4 ∷ []
unfolding lists_of table stage_at stage_of nogoods_at nogoods_of label_at label_of minimal follows among digit within gives some_of all_of those numbers_below numbers_to by_size listing ones joins joins_for each candidates contains free best before picks label_in new_nogoods step_by steps struck_once half_built as_found once_stage kept_stage found_stage half_long satisfying agree alike same_sets
found_listed = refl

long_refused : some_half_long 3 7 long 3 ≡ true
unfolding some_half_long stage_at stage_of nogoods_at nogoods_of label_at label_of minimal follows among digit within gives some_of all_of those numbers_below numbers_to by_size listing ones joins joins_for each candidates contains free best before picks label_in new_nogoods step_by steps struck_once half_built as_found once_stage kept_stage found_stage half_long satisfying agree alike same_sets
long_refused = refl

-- ---- refuted

abbrev worked_held : List Justification
worked_held = from 0 (1 ∷ 2 ∷ []) ∷ from 4 (1 ∷ []) ∷ from 4 (2 ∷ 3 ∷ []) ∷ from 5 (2 ∷ 4 ∷ []) ∷ []

-- what the case says of the sets that are listed
other_says : carries (put_in other_file) 0 2 ≡ false
unfolding carries contradicts follows among digit some_of gives all_of set_of those numbers_below
other_says = refl

worked_says : carries (put_in listed_case) 3 5 ≡ false
unfolding carries contradicts follows among digit some_of gives all_of set_of those numbers_below
worked_says = refl

short_says : (carries (put_in short_file) 1 3 ≡ true) × (within 1 3 ≡ true)
unfolding carries contradicts follows among digit some_of gives all_of set_of those numbers_below within
short_says = (refl, refl)

not_sorted : sorted_by before (3 ∷ 4 ∷ []) ≡ false
unfolding sorted_by all_of before ones
not_sorted = refl

-- the label that a reading lists of a number of a file
module _ (bytes : List ℕ) (f : Case) (spells : case_of bytes ≡ whole f) (few : f.header.assumptions ≤ 3) (d : ℕ) (g : Stage) (J : List Justification) (j : in_order (put_in f) ≡ J)
    (e : judge limits f.header.assumptions (f.header.assumptions + f.header.claims) J ≡ settled d g) (R : ℕ → ℕ → List Justification → ℕ → Stage) where
  abbrev A : ℕ
  A = f.header.assumptions

  abbrev N : ℕ
  N = f.header.assumptions + f.header.claims

  in_held : judge limits A N (in_order (put_in f)) ≡ settled d g
  in_held = ap (judge limits A N) j ∙ e

  label_by : (n : ℕ) (l : List ℕ) → label_held (lists_of d (R A N J d)) n ≡ l → label_held (relisted R (load_of bytes).store).lists n ≡ l
  label_by n l q = ap (λ (x : Lists). label_held x n) (reading_lists bytes f spells few d g in_held R) ∙ ap (λ (K : List Justification). label_held (lists_of d (R A N K d)) n) j ∙ q

  -- demand 2 of the reading's label
  told : Demand2 (listed_by R) → (n : ℕ) → n ≤ N → (l : List ℕ) → label_held (lists_of d (R A N J d)) n ≡ l → ListsSmallest A (λ E. carries (put_in f) E n) l
  told w n h l q = subst (ListsSmallest A (λ E. carries (put_in f) E n)) (label_by n l q) ((w.tells (reading_made bytes f spells few d g in_held R)).label n h)

satisfying_labels : Demand2 (listed_by satisfying_stage) → ⊥
satisfying_labels w =
    let t = told other_bytes other_file spelled.0 (omega arith) 0 _ each_other held.0 other_judged satisfying_stage w 2 (omega arith) (0 ∷ []) other_listed in
    clash ((t.exactly 0).0 (here refl)).has other_says

striking_once : Demand2 (listed_by once_stage) → ⊥
striking_once w =
    let t = told listed_bytes listed_case spells (omega arith) 2 _ worked_held worked_held_lem worked_judged once_stage w 5 (omega arith) (3 ∷ 6 ∷ []) once_listed in
    clash ((t.exactly 3).0 (here refl)).has worked_says

older_kept_lem : Demand2 (listed_by kept_stage) → ⊥
older_kept_lem w =
    let t = told short_bytes short_file spelled.1 (omega arith) 2 _ shorter held.1 short_judged kept_stage w 3 (omega arith) (3 ∷ 1 ∷ []) kept_listed in
    let z : ◌≡◌ {A = ℕ} 1 3 = ((t.exactly 3).0 (here refl)).no_smaller 1 short_says.1 short_says.0 in
    omega arith

as_found_lem : Demand2 (listed_by found_stage) → ⊥
as_found_lem w =
    let t = told cross_bytes cross_file spelled.2 (omega arith) 2 _ crossed held.2 cross_judged found_stage w 4 (omega arith) (3 ∷ 4 ∷ []) found_listed in
    clash t.order not_sorted

-- 27 joins of three members: more than 12 while the label of 7 is built, which has 3
half_refused_lem : half_refused (load_of long_bytes).store ≡ true
half_refused_lem =
    let f = file_form long_bytes long_file spelled.3 (omega arith) in
    let s : Store = (load_of long_bytes).store in
    let d = (file_are long_bytes long_file spelled.3 (omega arith) 3 _ (ap (judge limits 3 7) held.3 ∙ long_judged)).depth in
    let n : top s.held ≡ 7 = ap₂ (λ (a m : ℕ). a + m) (form_a f) (form_m f) in
    ap₂ (λ (a k : ℕ). some_half_long a (top s.held) (said_by s.held) k) (form_a f) d
    ∙ ap₂ (λ (k : ℕ) (J : List Justification). some_half_long 3 k J 3) n (form_said f ∙ held.3) ∙ long_refused

half_built_lem : Demand2 refusing_half → ⊥
half_built_lem w =
    let b : List ℕ = long_bytes in
    let o : Loaded = record { reply = Label 7; «record» = (load_of b).«record»; store = no_store } in
    let e : (refusing_half.loading b).reply ≡ Done = (w.loads b long_file spelled.3 Done).1 (room_says 3 7 (put_in long_file) (few_room 3 7 (put_in long_file) (omega arith))) in
    let r : refusing_half.loading b ≡ o = ap (λ (x : Bool). choose x o (load_of b)) half_refused_lem in
    let z : ◌≡◌ {A = ℕ} 8 0 = ap number_of (sym (ap (λ (x : Loaded). x.reply) r) ∙ e) in
    omega arith

pub readings_refuted : ReadingsRefuted
readings_refuted = record { satisfying_labels = satisfying_labels; striking_once = striking_once; older_kept_lem = older_kept_lem; half_built_lem = half_built_lem; as_found_lem = as_found_lem }
