-- What is promised of the files refutes each wrong program, by a small case. Assumes nothing.
use mathlib.Core.Bool.{Bool, not, true}
use mathlib.Core.List.{List, [], ◌++◌, ◌∷◌, map, reverse}
use mathlib.Core.Path.{◌∙◌, ◌≡◌, ap, ap₂, refl, sym}
use Prim.Native.Nat.{◌≤◌, zero-le, ℕ}
use native.Mathlib.Omega.{arith}
use lib.ListN.{get_or, length, length-append}
use borrow.Author.Tests.{le-ltb}
use Rattle.casefile.proofs.Cases.{empty_file}
use Rattle.casefile.specs.Load.{load_of, loaded_of}
use Rattle.casefile.specs.declared.Loaded.{Loaded}
use Rattle.lent.specs.Lent.{Wrote, fitted, kept}
use Rattle.std.proofs.Common.{Result, Ok, Err}
use Rattle.promises.proofs.Form.{form_a, form_count, form_m, form_said, made_form}
use Rattle.promises.proofs.Right.{made_right}
use Rattle.promises.specs.Calls.{Read, file, over, written}
use Rattle.promises.specs.Files.{Files, file_for}
use Rattle.promises.specs.Made.{Made, added, in_order, opened}
use Rattle.refuted.proofs.Cases.{made_are}
use Rattle.refuted.proofs.Small.{opens_at}
use Rattle.refuted.proofs.Wrong.{bare, bare_done, double, double_done, first, forged, forged_right, listed, listed_done, made_bare, made_double, made_listed, premise}
use Rattle.refuted.specs.Writing.{WritingRefuted, back_file, labelling, labels_of, silent, unordered}
use Rattle.replies.specs.Replies.{number_of}
use Rattle.replies.specs.declared.Reply.TheVariants.{Done, Shape}
use Rattle.rules.specs.Held.{put, said_by}
use Rattle.rules.specs.Items.{same_justification, set_of}
use Rattle.store.specs.Calls.{start_store}
use Rattle.store.specs.Reading.{label_held}
use Rattle.store.specs.Shape.{right_shape, top}
use Rattle.store.specs.declared.Store.{Store}
use Rattle.theory.specs.Cases.{at, verdict}
use Rattle.theory.specs.Judge.{judge, same_sets}
use Rattle.theory.specs.Limits.{limits}
use Rattle.theory.specs.Lists.{alike, choose, each, numbers_below, numbers_to, some_of, those}
use Rattle.theory.specs.Stages.{Justification, ahead, lesser}
use Rattle.writing.specs.Writing.{bytes_of, file_of, record_for}
use Rattle.replies.specs.declared.Reply.{Reply}

-- a text that fits is written
fits : (t out : List ℕ) → length t ≤ length out → fitted t out ≡ record { answer = written t; bytes = over t out }
unfolding fitted
fits t out h = rw (le-ltb (length out) (length t) h)

-- .. of a store of right shape
wrote : (s : Store) (t out : List ℕ) → right_shape s ≡ true → length t ≤ length out → choose (not (right_shape s)) (kept Shape out) (fitted t out) ≡ record { answer = written t; bytes = over t out }
wrote s t out p h = ap (λ (b : Bool). choose (not b) (kept Shape out) (fitted t out)) p ∙ fits t out h

-- ---- nothing: loading it answers 11

writes_nothing : Files silent → ⊥
unfolding load_of
writes_nothing f =
    let m : Made silent 0 0 [] (start_store 0 0) = opened (opens_at 0 0 zero-le zero-le) in
    let e : load_of [] ≡ record { reply = Done; «record» = length (said_by (start_store 0 0).held); store = start_store 0 0 } = f.round m [] [] refl in
    let z : ◌≡◌ {A = ℕ} 11 0 = ap (λ (x : Loaded). number_of x.reply) (sym (ap loaded_of empty_file) ∙ e) in
    absurd (omega arith)

-- ---- the labels too: of two stores that hold nothing, one with the lists of another

bare_verdict : judge limits 1 2 (in_order []) ≡ at 0 [] ((1 ∷ []) ∷ [] ∷ [])
unfolding verdict in_order
bare_verdict = refl

listed_verdict : judge limits 1 2 (in_order (first 1 ∷ [])) ≡ at 1 [] ((1 ∷ []) ∷ (1 ∷ []) ∷ [])
unfolding verdict in_order put set_of those some_of numbers_below
listed_verdict = refl

two : top bare.held ≡ 2
two = let f = made_form made_bare in omega (arith, form_a f, form_m f)

bare_labels : labels_of bare ≡ 1 ∷ []
unfolding each
bare_labels = ap (λ (n : ℕ). each (λ l. l) (map (label_held bare.lists) (numbers_to n))) two ∙ ap (each (λ l. l)) (made_are made_bare bare_verdict).labels

forged_labels : labels_of forged ≡ 1 ∷ 1 ∷ []
unfolding each
forged_labels = ap (λ (n : ℕ). each (λ l. l) (map (label_held listed.lists) (numbers_to n))) two ∙ ap (each (λ l. l)) (made_are made_listed listed_verdict).labels

abbrev length_of : Result ℕ Reply → ℕ
length_of (Ok n) = n
length_of (Err r) = 0

writes_labels : Files labelling → ⊥
writes_labels f =
    let t : List ℕ = file_of bare.held ++ labels_of bare in
    let u : List ℕ = file_of bare.held ++ labels_of forged in
    let p = wrote bare t (t ++ u) (made_right made_bare) (omega (arith, length-append t u)) in
    let q = wrote forged u (t ++ u) forged_right (omega (arith, length-append t u)) in
    let e : length t ≡ length u = ap length_of (sym (ap (λ (w : Wrote). w.answer) p) ∙ (f.held_alone bare forged (t ++ u) (made_right made_bare) forged_right refl).0 ∙ ap (λ (w : Wrote). w.answer) q) in
    omega (arith, length-append (file_of bare.held) (labels_of bare), length-append (file_of bare.held) (labels_of forged), ap length bare_labels, ap length forged_labels)

-- ---- another order: claim 2 from nothing and from assumption 1

in_order_lem : file_for 1 1 (premise ∷ first 1 ∷ []) ≡ 1 ∷ 1 ∷ 2 ∷ 2 ∷ 0 ∷ 2 ∷ 1 ∷ 1 ∷ []
unfolding bytes_of record_for each in_order put set_of those some_of numbers_below same_justification same_sets alike ahead lesser
in_order_lem = refl

out_of_order : each bytes_of (1 ∷ 1 ∷ length (in_order (premise ∷ first 1 ∷ [])) ∷ each record_for (reverse (in_order (premise ∷ first 1 ∷ [])))) ≡ 1 ∷ 1 ∷ 2 ∷ 2 ∷ 1 ∷ 1 ∷ 2 ∷ 0 ∷ []
unfolding bytes_of record_for each in_order put set_of those some_of numbers_below same_justification same_sets alike ahead lesser
out_of_order = refl

back_file_lem : back_file double.held ≡ 1 ∷ 1 ∷ 2 ∷ 2 ∷ 1 ∷ 1 ∷ 2 ∷ 0 ∷ []
back_file_lem =
    let f = made_form made_double in
    ap₂ (λ (a m : ℕ). each bytes_of (a ∷ m ∷ double.held.count ∷ each record_for (reverse (said_by double.held)))) (form_a f) (form_m f)
    ∙ ap₂ (λ (n : ℕ) (J : List Justification). each bytes_of (1 ∷ 1 ∷ n ∷ each record_for (reverse J))) (form_count f) (form_said f) ∙ out_of_order

writes_unordered : Files unordered → ⊥
writes_unordered f =
    let m : Made unordered 1 1 (premise ∷ first 1 ∷ []) double = added 2 [] (added 2 (1 ∷ []) (opened bare_done) listed_done) double_done in
    let out : List ℕ = 0 ∷ 0 ∷ 0 ∷ 0 ∷ 0 ∷ 0 ∷ 0 ∷ 0 ∷ [] in
    let p = wrote double (back_file double.held) out (made_right made_double) (omega (arith, ap length back_file_lem)) in
    let e = ap (λ (x : Read (file out)). x.bytes) (f.says m out (omega (arith, ap length in_order_lem))) in
    let z : ◌≡◌ {A = ℕ} 1 0 = sym (ap (λ (t : List ℕ). get_or (over t out) 4 0) back_file_lem) ∙ sym (ap (λ (w : Wrote). get_or w.bytes 4 0) p) ∙ ap (λ (l : List ℕ). get_or l 4 0) e ∙ ap (λ (t : List ℕ). get_or (over t out) 4 0) in_order_lem in
    omega arith

pub writing_refuted : WritingRefuted
writing_refuted = record { writes_nothing = writes_nothing; writes_labels = writes_labels; writes_unordered = writes_unordered }
