-- The files that we write keep their promises. Assumes nothing.
use mathlib.Core.Bool.{Bool, false, not, true}
use mathlib.Core.List.{List, ◌++◌, ◌∷◌}
use mathlib.Core.Logic.{inl}
use mathlib.Core.Path.{◌∙◌, ◌≡◌, ap, ap₂, refl, subst, sym}
use Prim.Native.Nat.{◌≤◌, ℕ}
use native.Mathlib.Omega.{arith}
use lib.Dec.{ltb}
use lib.ListN.{drop, length, take}
use lib.Seq.{take_at}
use borrow.Author.Tests.{le-ltb}
use Rattle.casefile.proofs.Loading.{load_done}
use Rattle.casefile.specs.Load.{load_of}
use Rattle.casefile.specs.declared.Loaded.{Loaded}
use Rattle.lent.specs.Lent.{Wrote, fitted, kept, written_number}
use Rattle.std.proofs.Common.{Result, Ok, Err}
use Rattle.promises.proofs.Form.{Form, form_a, form_count, form_m, form_said, made_form, made_holds}
use Rattle.promises.proofs.InOrder.{in_order_is}
use Rattle.promises.proofs.Printing.{printed_same}
use Rattle.promises.proofs.Right.{made_right}
use Rattle.promises.specs.Calls.{Read, file, ours, over, reads, written}
use Rattle.promises.specs.Files.{Files, Writes, file_for}
use Rattle.promises.specs.Made.{HoldsExactly, Input, Made, loaded}
use Rattle.replies.specs.declared.Reply.TheVariants.{Done, Shape, Short}
use Rattle.rules.proofs.Entries.{said_many}
use Rattle.rules.specs.Held.{held_of, said_by}
use Rattle.rules.specs.declared.Held.{Held}
use Rattle.store.proofs.Shapes.{fits_elim}
use Rattle.store.specs.Calls.{answer, judged_of, no_store, store_of}
use Rattle.store.specs.Shape.{held_fits, right_shape}
use Rattle.store.specs.declared.Outcome.{Outcome}
use Rattle.store.specs.declared.Store.{Store}
use Rattle.theory.specs.Limits.{file_bytes}
use Rattle.theory.specs.Lists.{choose, each}
use Rattle.theory.specs.Stages.{Justification}
use Rattle.writing.proofs.Files.{file_back, file_length, file_loads, file_one, tells_apart}
use Rattle.writing.proofs.Turns.{shape_fits}
use Rattle.writing.specs.Writing.{bytes_of, file_of, numbers_for, record_for, write_of}
use Rattle.replies.specs.declared.Reply.{Reply}

-- ---- what is left of a file that fits, or not, by its two tests

abbrev tried : Bool → Bool → List ℕ → List ℕ → Wrote
tried right short t out = choose (not right) (kept Shape out) (choose short (kept Short out) (record { answer = written t; bytes = over t out }))

by_tests : (s : Store) (out : List ℕ) → write_of s out ≡ tried (right_shape s) (ltb (length out) (length (file_of s.held))) (file_of s.held) out
unfolding write_of fitted
by_tests s out = refl

abbrev length_of : Result ℕ Reply → ℕ
length_of (Ok n) = n
length_of (Err r) = 0

-- what is left, of the two parts that a call that writes hands over
abbrev left : {out : List ℕ} → Read (file out) → Wrote
left x = record { answer = x.said; bytes = x.bytes }

-- what reports a length was written: the text is told by the answer
module _ (s : Store) (t out : List ℕ) where
  text_told : (right short : Bool) (f : List ℕ) → tried right short f out ≡ record { answer = written t; bytes = over t out } → (right ≡ true) × (t ≡ f)
  text_told false short f e = let z : ◌≡◌ {A = ℕ} 2 0 = ap (λ (w : Wrote). written_number w.answer) e in absurd (omega arith)
  text_told true true f e = let z : ◌≡◌ {A = ℕ} 15 0 = ap (λ (w : Wrote). written_number w.answer) e in absurd (omega arith)
  text_told true false f e =
      let n : length f ≡ length t = ap (λ (w : Wrote). length_of w.answer) e in
      let b : f ++ drop (length f) out ≡ t ++ drop (length t) out = ap (λ (w : Wrote). w.bytes) e in
      (refl, sym (take_at t (drop (length t) out) (length t) refl) ∙ ap (take (length t)) (sym b) ∙ take_at f (drop (length f) out) (length t) n)

  told : Writes ours s t out → (right_shape s ≡ true) × (t ≡ file_of s.held)
  told e = text_told (right_shape s) (ltb (length out) (length (file_of s.held))) (file_of s.held) (sym (by_tests s out) ∙ ap left e)

  few : Writes ours s t out → length t ≤ 1796
  few e = let w = told e in omega (arith, ap length w.1, file_length s.held (shape_fits s w.0))

-- loading what was written judges what is held anew
module _ (s : Store) (t out : List ℕ) where
  judges : held_fits s.held ≡ true → judged_of s.held ≡ store_of no_store s.held.assumptions s.held.claims (said_by s.held)
  unfolding judged_of
  judges f = rw f

  judged_anew : Writes ours s t out → ((load_of t).reply ≡ (judged_of s.held).reply) × ((load_of t).store ≡ (judged_of s.held).store)
  judged_anew e =
      let w = told s t out e in
      let f : held_fits s.held ≡ true = shape_fits s w.0 in
      let l = ap load_of w.1 ∙ file_loads s.held f in
      (ap (λ (x : Loaded). x.reply) l ∙ sym (ap (λ (o : Outcome). o.reply) (judges f)), ap (λ (x : Loaded). x.store) l ∙ sym (ap (λ (o : Outcome). o.store) (judges f)))

-- where it fits it is written
writes : (s : Store) (out : List ℕ) → right_shape s ≡ true → length (file_of s.held) ≤ length out → Writes ours s (file_of s.held) out
writes s out p h =
    let f : List ℕ = file_of s.held in
    ap (λ (w : Wrote). reads (file out) w.answer s w.bytes) (by_tests s out ∙ ap₂ (λ (a b : Bool). tried a b f out) p (le-ltb (length out) (length f) h))

-- ---- a store made by the calls

-- it is the store of what it holds
judged_again : {A M : ℕ} {H : Input} {s : Store} → HoldsExactly A M H s → store_of no_store s.held.assumptions s.held.claims (said_by s.held) ≡ answer Done s
unfolding held_of
judged_again {A} {M} {H} {s} x =
    let a : s.held.assumptions ≡ A = ap (λ (h : Held). h.assumptions) x.held in
    let m : s.held.claims ≡ M = ap (λ (h : Held). h.claims) x.held in
    let J : List Justification = said_by s.held in
    ap₂ (λ (u v : ℕ). store_of no_store u v J) a m ∙ ap (store_of no_store A M) (in_order_is J H x.order x.members) ∙ x.store

module _ {A M : ℕ} {H : Input} {s : Store} (made : Made ours A M H s) where
  fits : held_fits s.held ≡ true
  fits = shape_fits s (made_right made)

  loads_back : load_of (file_of s.held) ≡ record { reply = Done; «record» = length (said_by s.held); store = s }
  loads_back =
      file_back s.held fits s (judged_again (made_holds made))
      ∙ ap (λ (n : ℕ). record { reply = Done; «record» = n; store = s }) (sym (said_many s.held (fits_elim s.held fits).right))

  round : (t out : List ℕ) → Writes ours s t out → load_of t ≡ record { reply = Done; «record» = length (said_by s.held); store = s }
  round t out e = ap load_of (told s t out e).1 ∙ loads_back

  file_is : file_of s.held ≡ file_for A M H
  unfolding file_of numbers_for
  file_is =
      let f : Form A M H s = made_form made in
      ap₂ (λ (a m : ℕ). each bytes_of (a ∷ m ∷ s.held.count ∷ each record_for (said_by s.held))) (form_a f) (form_m f)
      ∙ ap₂ (λ (n : ℕ) (J : List Justification). each bytes_of (A ∷ M ∷ n ∷ each record_for J)) (form_count f) (form_said f)

  says : (out : List ℕ) → length (file_for A M H) ≤ length out → Writes ours s (file_for A M H) out
  says out h = subst (λ (t : List ℕ). Writes ours s t out) file_is (writes s out (made_right made) (omega (arith, ap length file_is)))

-- ---- the store of a file

module _ (bytes : List ℕ) (done : (load_of bytes).reply ≡ Done) where
  abbrev stored : Store
  stored = (load_of bytes).store

  back : (t out : List ℕ) → Writes ours stored t out → load_of t ≡ record { reply = Done; «record» = length (said_by stored.held); store = stored }
  back t out e = let c = load_done bytes done in round (loaded bytes c.0 c.1 refl refl done refl) t out e

  lists_alike : (t out place : List ℕ) → length bytes ≤ file_bytes → Writes ours stored t out → ours.printing t place ≡ ours.printing bytes place
  lists_alike t out place h e =
      let b = back t out e in
      let r : (load_of t).reply ≡ Done = ap (λ (x : Loaded). x.reply) b in
      let k : length t ≤ file_bytes = omega (arith, few stored t out e) in
      printed_same t bytes place k h (r ∙ sym done) (ap (λ (x : Loaded). x.store) b) (inl r)

  again : (t v out out' : List ℕ) → Writes ours stored t out → Writes ours (load_of t).store v out' → v ≡ t
  again t v out out' e e' =
      (told (load_of t).store v out' e').1 ∙ ap (λ (x : Loaded). file_of x.store.held) (back t out e) ∙ sym (told stored t out e).1

-- ---- all of it

wrote_same : (s u : Store) (out : List ℕ) → right_shape s ≡ true → right_shape u ≡ true → s.held ≡ u.held → write_of s out ≡ write_of u out
wrote_same s u out p q e =
    by_tests s out ∙ ap₂ (λ (b : Bool) (h : Held). tried b (ltb (length out) (length (file_of h))) (file_of h) out) (p ∙ sym q) e ∙ sym (by_tests u out)

pub files : Files ours
files = record {
  says = says;
  round = round;
  held_alone = λ s u out p q e. let w = wrote_same s u out p q e in (ap (λ (x : Wrote). x.answer) w, ap (λ (x : Wrote). x.bytes) w);
  judged_anew = judged_anew;
  tells_apart = λ s u p q a m t v out out' e e'.
      let x : t ≡ file_of s.held = (told s t out e).1 in
      let y : v ≡ file_of u.held = (told u v out' e').1 in
      let w = tells_apart s.held u.held (shape_fits s p) (shape_fits u q) a m in
      (λ z. w.0 (sym x ∙ z ∙ y), λ z. x ∙ w.1 z ∙ sym y);
  tells_all = λ s u t out out' e e'.
      let x = told s t out e in
      let y = told u t out' e' in
      file_one s.held u.held (shape_fits s x.0) (shape_fits u y.0) (sym x.1 ∙ y.1);
  few = few;
  enough = λ s out p h. (file_of s.held, writes s out p (omega (arith, file_length s.held (shape_fits s p))));
  lists_alike = λ bytes t out place h d e. lists_alike bytes d t out place h e;
  again = λ bytes t v out out' d. again bytes d t v out out';
}
