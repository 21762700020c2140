-- Following no further than the depth, and calling every empty label contradicted, are refuted by a line. Assumes nothing.
use mathlib.Core.Bool.{Bool, false, true}
use mathlib.Core.List.Memᴰ.{head as here}
use mathlib.Core.List.{List, [], ◌∷◌, map}
use mathlib.Core.Path.{◌∙◌, ◌≡◌, ap, ap₂, refl, sym}
use Prim.Native.Nat.{◌+◌, ◌<◌, ◌^◌, ◌≤◌, suc, zero, ℕ}
use native.Mathlib.Omega.{arith}
use lib.Count.{ones}
use lib.ListN.{get_or, length, replicate}
use borrow.Author.Tests.{le-ltb}
use Rattle.casefile.specs.Case.{Case, case_of, records_from, whole}
use Rattle.items.specs.Items.{Item, header_from, numbers_from, record_from, unless}
use Rattle.lent.specs.Lent.{fitted}
use Rattle.wording.specs.Wording.{line_with, word_of}
use Rattle.std.proofs.Common.{Result, Ok, Err}
use Rattle.numbers.specs.Numbers.{number_from, second_from}
use Rattle.promises.proofs.Form.{Form, form_a, form_m, form_said}
use Rattle.promises.proofs.Right.{form_right}
use Rattle.promises.specs.Calls.{Read, line, ours, written}
use Rattle.promises.specs.Demand2.{Demand2, ListsSmallest, carried_by, text_of, word_by}
use Rattle.promises.specs.Made.{Made, in_order, loaded, put_in}
use Rattle.refuted.proofs.Files.{file_are, file_done, file_form}
use Rattle.refuted.specs.Exchange.{with_line}
use Rattle.refuted.specs.Wrong.{always, at_depth, lined_by, shallow}
use Rattle.rules.specs.Held.{put}
use Rattle.rules.specs.Items.{fault_of, same_justification, set_of}
use Rattle.store.specs.Reading.{label_held}
use Rattle.store.specs.Shape.{right_shape, top}
use Rattle.store.specs.declared.Store.{Store}
use Rattle.text.specs.Texts.{digits, digits_in, row, spaced, word}
use Rattle.theory.proofs.Lists.{clash}
use Rattle.theory.specs.Cases.{at, from, verdict}
use Rattle.theory.specs.Demands.{carries, contradicts, follows_from_all}
use Rattle.theory.specs.Judge.{judge, same_sets}
use Rattle.theory.specs.Limits.{limits}
use Rattle.theory.specs.Lists.{alike, all_of, each, numbers_below, numbers_to, some_of, those}
use Rattle.theory.specs.Sets.{among, by_size, digit, listing, together}
use Rattle.theory.specs.Stages.{Justification, ahead, follows, gives, lesser}
use Rattle.replies.specs.declared.Reply.{Reply}

-- ---- a line with an empty label, by a program that judges following by f

-- enough bytes for it
abbrev lent : List ℕ
lent = replicate 15 0

module _ (f : Store → ℕ → Bool) {A M : ℕ} {H : List Justification} {s : Store} (g : Form A M H s) (i : ℕ) (low : suc i ≤ A + M) (none : label_held s.lists (suc i) ≡ []) (c : Bool) (e : f s (suc i) ≡ c) where
  said : (t : List ℕ) → row limits.assumptions (suc i) (word_of (suc i) [] c) [] ≡ t → length t ≤ 15 → (lined_by f s (suc i) lent).answer ≡ written t
  unfolding fitted line_with
  said t u h =
      let r : right_shape s ≡ true = form_right g in
      let n : top s.held ≡ A + M = ap₂ (λ (a m : ℕ). a + m) (form_a g) (form_m g) in
      let p : suc i ≤ top s.held = omega arith in
      let x : line_with s.lists (suc i) (f s (suc i)) ≡ t = ap₂ (λ (l : List ℕ) (b : Bool). row limits.assumptions (suc i) (word_of (suc i) l b) l) none e ∙ u in
      let k : length (line_with s.lists (suc i) (f s (suc i))) ≤ length lent = omega (arith, ap length x) in
      rw (r, le-ltb (top s.held) (suc i) p, le-ltb (length lent) (length (line_with s.lists (suc i) (f s (suc i)))) k) (ap written x)

-- a list of no set
empty : (A : ℕ) (P : ℕ → Bool) (l : List ℕ) → ListsSmallest A P l → ((E : ℕ) → E < 2 ^ A → P E ≡ false) → l ≡ []
empty A P [] s h = refl
empty A P (E ∷ l) s h = let k = (s.exactly E).0 (here refl) in clash k.has (h E k.range)

-- demand 2 of the line of n where no set carries it
right_line : (f : Store → ℕ → Bool) {A M : ℕ} {H : List Justification} {s : Store} → Demand2 (with_line (lined_by f) ours) → Made (with_line (lined_by f) ours) A M H s
    → (i : ℕ) → suc i ≤ A + M → ((E : ℕ) → E < 2 ^ A → carries H E (suc i) ≡ false) → (t : List ℕ) → text_of A H (suc i) [] ≡ t → length t ≤ 15 → (lined_by f s (suc i) lent).answer ≡ written t
right_line f {A} {M} {H} {s} d m i low none t u h =
    let r = (d.tells m).line (suc i) low in
    let x : text_of A H (suc i) r.0 ≡ t = ap (text_of A H (suc i)) (empty A (λ E. carries H E (suc i)) r.0 r.1 none) ∙ u in
    ap (λ (y : Read (line (suc i) lent)). y.said) (r.2 lent (omega (arith, ap length x))) ∙ ap written x

abbrev reported : Result ℕ Reply → ℕ
reported (Ok n) = n
reported (Err r) = 0

lengths : (a b : List ℕ) → written a ≡ written b → length a ≡ length b
lengths a b e = ap reported e

-- ---- the two files

abbrev item : ℕ → List ℕ → Item
item c l = record { consequent = c; supports = l }

-- falsity from 1, 2 from 1, 3 from 2
abbrev pub beyond_bytes : List ℕ
beyond_bytes = 1 ∷ 2 ∷ 3 ∷ 0 ∷ 1 ∷ 1 ∷ 2 ∷ 1 ∷ 1 ∷ 3 ∷ 1 ∷ 2 ∷ []

abbrev pub beyond : Case
beyond = record { header = record { assumptions = 1; claims = 2; records = 3 }; items = item 0 (1 ∷ []) ∷ item 2 (1 ∷ []) ∷ item 3 (2 ∷ []) ∷ [] }

-- 2 from 3, 3 from 2
abbrev other_bytes : List ℕ
other_bytes = 1 ∷ 2 ∷ 2 ∷ 2 ∷ 1 ∷ 3 ∷ 3 ∷ 1 ∷ 2 ∷ []

abbrev other : Case
other = record { header = record { assumptions = 1; claims = 2; records = 2 }; items = item 2 (3 ∷ []) ∷ item 3 (2 ∷ []) ∷ [] }

pub spelled : (case_of beyond_bytes ≡ whole beyond) × (case_of other_bytes ≡ whole other)
unfolding case_of header_from number_from second_from records_from record_from numbers_from unless fault_of some_of
spelled = (refl, refl)

abbrev pub beyond_held : List Justification
beyond_held = from 0 (1 ∷ []) ∷ from 2 (1 ∷ []) ∷ from 3 (2 ∷ []) ∷ []

abbrev other_held : List Justification
other_held = from 2 (3 ∷ []) ∷ from 3 (2 ∷ []) ∷ []

pub held : (in_order (put_in beyond) ≡ beyond_held) × (in_order (put_in other) ≡ other_held)
unfolding in_order put set_of those some_of numbers_below same_justification same_sets alike ahead lesser
held = (refl, refl)

judged : (judge limits 1 3 beyond_held ≡ at 1 (1 ∷ []) ([] ∷ [] ∷ [] ∷ [])) × (judge limits 1 3 other_held ≡ at 0 [] ((1 ∷ []) ∷ [] ∷ [] ∷ []))
unfolding verdict
judged = (refl, refl)

-- a number from {} and from {1}
both : (P : ℕ → Bool) → P 0 ≡ false → P 1 ≡ false → (E : ℕ) → E < 2 ^ 1 → P E ≡ false
both P a b zero h = a
both P a b (suc zero) h = b
both P a b (suc (suc E)) h = absurd (omega arith)

uncarried : (carries (put_in beyond) 0 3 ≡ false) × (carries (put_in beyond) 1 3 ≡ false) × (carries (put_in other) 0 3 ≡ false) × (carries (put_in other) 1 3 ≡ false)
unfolding carries contradicts follows among digit some_of gives all_of set_of those numbers_below
uncarried = (refl, refl, refl, refl)

-- what the lines must say, and what they say
musts : (text_of 1 (put_in beyond) 3 [] ≡ word "3 contradicted\n") × (text_of 1 (put_in other) 3 [] ≡ word "3 unsupported\n")
unfolding word_by carried_by follows_from_all together listing by_size ones carries contradicts follows among digit some_of gives all_of set_of those numbers_below row digits digits_in spaced each word
musts = (refl, refl)

says : (row limits.assumptions 3 (word_of 3 [] false) [] ≡ word "3 unsupported\n") × (row limits.assumptions 3 (word_of 3 [] true) [] ≡ word "3 contradicted\n")
unfolding word_of row digits digits_in spaced each word
says = (refl, refl)

sizes : (length (word "3 contradicted\n") ≡ 15) × (length (word "3 unsupported\n") ≡ 14)
unfolding word
sizes = (refl, refl)

third_label : (l : List (List ℕ)) (f : ℕ → List ℕ) → map f (numbers_to 3) ≡ l → f 3 ≡ get_or l 2 []
unfolding numbers_to numbers_below
third_label l f p = ap (λ (x : List (List ℕ)). get_or x 2 []) p

-- at the depth, 1, 3 has not followed
stops : follows beyond_held 1 (together 1) 3 ≡ false
unfolding together follows among digit some_of gives all_of
stops = refl

pub stops_at_the_depth : Demand2 shallow → ⊥
stops_at_the_depth d =
    let s : Store = (ours.loading beyond_bytes).store in
    let g = file_form beyond_bytes beyond spelled.0 (omega arith) in
    let are = file_are beyond_bytes beyond spelled.0 (omega arith) 1 _ (ap (judge limits 1 3) held.0 ∙ judged.0) in
    let m : Made shallow 1 2 (put_in beyond) s = loaded beyond_bytes beyond spelled.0 refl refl (file_done beyond_bytes beyond spelled.0 (omega arith)) refl in
    let e : at_depth s 3 ≡ false =
    ap₂ (λ (J : List Justification) (a : ℕ). follows J s.lists.depth (together a) 3) (form_said g ∙ held.0) (form_a g) ∙ ap (λ (k : ℕ). follows beyond_held k (together 1) 3) are.depth ∙ stops in
    let w = right_line at_depth d m 2 (omega arith) (both (λ E. carries (put_in beyond) E 3) uncarried.0 uncarried.1) (word "3 contradicted\n") musts.0 (omega (arith, sizes.0)) in
    let v = said at_depth g 2 (omega arith) (third_label _ (label_held s.lists) are.labels) false e (word "3 unsupported\n") says.0 (omega (arith, sizes.1)) in
    omega (arith, lengths (word "3 contradicted\n") (word "3 unsupported\n") (sym w ∙ v), sizes.0, sizes.1)

pub calls_all_contradicted : Demand2 always → ⊥
calls_all_contradicted d =
    let s : Store = (ours.loading other_bytes).store in
    let g = file_form other_bytes other spelled.1 (omega arith) in
    let are = file_are other_bytes other spelled.1 (omega arith) 0 _ (ap (judge limits 1 3) held.1 ∙ judged.1) in
    let m : Made always 1 2 (put_in other) s = loaded other_bytes other spelled.1 refl refl (file_done other_bytes other spelled.1 (omega arith)) refl in
    let w = right_line (λ t n. true) d m 2 (omega arith) (both (λ E. carries (put_in other) E 3) uncarried.2 uncarried.3) (word "3 unsupported\n") musts.1 (omega (arith, sizes.1)) in
    let v = said (λ t n. true) g 2 (omega arith) (third_label _ (label_held s.lists) are.labels) true refl (word "3 contradicted\n") says.1 (omega (arith, sizes.0)) in
    omega (arith, lengths (word "3 unsupported\n") (word "3 contradicted\n") (sym w ∙ v), sizes.0, sizes.1)
