-- A store that keeps the order of arrival is refuted: two justifications added in both orders give two stores. Assumes nothing.
use mathlib.Core.List.Memᴰ
use mathlib.Core.List.{List, [], ◌++◌, ◌∷◌}
use mathlib.Core.Path.{◌∙◌, ◌≡◌, ap, ap₂, refl, sym}
use Prim.Native.Nat.{◌+◌, ℕ}
use native.Mathlib.Omega.{arith}
use lib.ListN.{get_or, length}
use Rattle.promises.proofs.Form.{Form, form_a, form_held, form_m, form_said, made_form}
use Rattle.promises.proofs.InOrder.{in_order_is, in_order_ordered}
use Rattle.refuted.proofs.Small.{add_done, done_with, made_open, one_done, one_made}
use Rattle.promises.proofs.Truth.{demand_2}
use Rattle.promises.specs.Calls.{ours}
use Rattle.promises.specs.Demand3.{Demand3}
use Rattle.promises.specs.Made.{Made, in_order, opened}
use Rattle.promises.specs.Room.{Reaches}
use Rattle.refuted.specs.Wrong.{arrival, arriving, at_the_end, put_in_order}
use Rattle.replies.specs.declared.Reply.TheVariants.{Done}
use Rattle.rules.specs.Held.{held_of, put, said_by, vacant}
use Rattle.rules.specs.Items.{fault_of, justification_of}
use Rattle.rules.specs.declared.Held.{Held}
use Rattle.stages.specs.declared.Lists.{Lists}
use Rattle.store.specs.Calls.{add_of, answer, open_of}
use Rattle.store.specs.declared.Store.{Store}
use Rattle.theory.specs.Lists.{some_of}
use Rattle.theory.specs.Places.{padded, table}
use Rattle.theory.specs.Stages.{Justification}

abbrev store_with : Held → Lists → Store
store_with h l = record { held = h; lists = l }

-- ---- one adding of this program to a store that ours made

module _ {A M : ℕ} {H : List Justification} {s : Store} (f : Form A M H s) where
  -- what ours holds is in order already
  in_order_already : put_in_order s ≡ s
  in_order_already =
      ap (λ (h : Held). store_with h s.lists)
      (ap₂ (λ (a m : ℕ). held_of a m (in_order (said_by s.held))) (form_a f) (form_m f)
      ∙ ap (λ (J : List Justification). held_of A M (in_order J)) (form_said f) ∙ ap (held_of A M) (sym (in_order_is (in_order H) (in_order H) (in_order_ordered H) (λ j. (λ m. m, λ m. m))))
      ∙ sym (form_held f))

  abbrev ended : Justification → Lists → Store
  ended j l = store_with (held_of A M (in_order H ++ j ∷ [])) l

  end_is : (j : Justification) (l : Lists) → at_the_end s j l ≡ ended j l
  end_is j l =
      ap (λ (h : Held). store_with h l)
      (ap₂ (λ (a m : ℕ). held_of a m (said_by s.held ++ j ∷ [])) (form_a f) (form_m f) ∙ ap (λ (J : List Justification). held_of A M (J ++ j ∷ [])) (form_said f))

  arrives : (c : ℕ) (l : List ℕ) {t : Store} → add_of s c l ≡ answer Done t → arrival.adding s c l ≡ answer Done (ended (justification_of (A + M) c l) t.lists)
  arrives c l {t} e =
      ap₂ (λ (n : ℕ) (x : Store). arriving s (justification_of n c l) (add_of x c l)) (ap₂ (λ (a m : ℕ). a + m) (form_a f) (form_m f)) in_order_already
      ∙ ap (arriving s (justification_of (A + M) c l)) e ∙ ap (answer Done) (end_is (justification_of (A + M) c l) t.lists)

-- ---- two addings to the opened store: what came first stands first

abbrev none : Store
none = (open_of 1 2).store

made_none : Made ours 1 2 [] none
made_none = made_open 1 2 (omega arith) (omega arith)

-- what is put in first
held_alone : (j : Justification) → (in_order [] ++ j ∷ [] ≡ in_order (j ∷ [])) × (in_order (j ∷ []) ≡ j ∷ [])
unfolding in_order some_of put
held_alone j = (refl, refl)

module _ (c d : ℕ) (l m : List ℕ) (p : fault_of 3 c l ≡ Done) (q : fault_of 3 d m ≡ Done) (other : d ≡ c → ⊥) where
  abbrev i : Justification
  i = justification_of 3 c l

  abbrev k : Justification
  k = justification_of 3 d m

  abbrev one : Store
  one = (add_of none c l).store

  made_one : Made ours 1 2 (i ∷ []) one
  made_one = one_made 1 2 c l (omega arith) (omega arith) p

  first : arrival.adding none c l ≡ answer Done one
  first =
      arrives (made_form made_none) c l (done_with (add_of none c l) (one_done 1 2 c l (omega arith) (omega arith) p))
      ∙ ap (λ (h : Held). answer Done (store_with h one.lists)) (ap (held_of 1 2) (held_alone i).0 ∙ sym (form_held (made_form made_one)))

  reaches : Reaches 1 2 (i ∷ []) d m
  reaches = record {
    sound = q;
    new = λ x. other (ap (λ (j : Justification). j.consequent) (Memᴰ.eq_of_singleton x));
    room = omega (arith, ap length (held_alone i).1);
  }

  abbrev two : Store
  two = store_with (held_of 1 2 (in_order (i ∷ []) ++ k ∷ [])) (add_of one d m).store.lists

  second : arrival.adding one d m ≡ answer Done two
  second = arrives (made_form made_one) d m (done_with (add_of one d m) (add_done made_one d m reaches (omega arith)))

  leads : (get_or two.held.entries 0 vacant).consequent ≡ c
  unfolding held_of padded table
  leads = ap (λ (J : List Justification). (get_or (held_of 1 2 (J ++ k ∷ [])).entries 0 vacant).consequent) (held_alone i).1

sounds : (fault_of 3 2 (1 ∷ []) ≡ Done) × (fault_of 3 3 (2 ∷ []) ≡ Done)
unfolding fault_of some_of
sounds = (refl, refl)

-- 2 from 1 and 3 from 2, in both orders
pub keeps_arrival : Demand3 arrival → ⊥
keeps_arrival w =
    let forth : (◌≡◌ {A = ℕ} 3 2) → ⊥ = λ e. omega arith in
    let back : (◌≡◌ {A = ℕ} 2 3) → ⊥ = λ e. omega arith in
    let same = (w.two_orders 2 3 (1 ∷ []) (2 ∷ []) (opened (done_with (open_of 1 2) (demand_2.opens 1 2 (omega arith) (omega arith))))
    (first 2 3 (1 ∷ []) (2 ∷ []) sounds.0 sounds.1 forth) (second 2 3 (1 ∷ []) (2 ∷ []) sounds.0 sounds.1 forth)
    (first 3 2 (2 ∷ []) (1 ∷ []) sounds.1 sounds.0 back) (second 3 2 (2 ∷ []) (1 ∷ []) sounds.1 sounds.0 back)).store in
    let z : ◌≡◌ {A = ℕ} 2 3 = sym (leads 2 3 (1 ∷ []) (2 ∷ []) sounds.0 sounds.1 forth) ∙ ap (λ (s : Store). (get_or s.held.entries 0 vacant).consequent) same
    ∙ leads 3 2 (2 ∷ []) (1 ∷ []) sounds.1 sounds.0 back in
    back z
