-- Made stores that hold the same are one store: demand 3 of our calls. Assumes nothing.
use mathlib.Core.Bool.{true}
use mathlib.Core.List.Memᴰ
use mathlib.Core.List.Memᴰ.{head as here}
use mathlib.Core.List.Memᴰ.{tail as there}
use mathlib.Core.List.{List, Memᴰ as Mem, ◌++◌, ◌∷◌}
use mathlib.Core.Logic.{inl, inr, ⊎_elim}
use mathlib.Core.Path.{◌∙◌, ◌≡◌, ap, ap₂, refl, subst, sym}
use Prim.Native.Nat.{◌+◌, ℕ}
use lib.ListN.{length}
use Rattle.casefile.specs.Case.{Case, case_of, held_by, whole}
use Rattle.casefile.specs.Load.{load_of}
use Rattle.casefile.specs.declared.Loaded.{Loaded}
use Rattle.promises.proofs.Form.{Form, case_held, case_loaded, case_sound, done_store, form_add, form_exactly, made_form, tried, tried_done}
use Rattle.promises.proofs.InOrder.{in_order_same, in_order_to}
use Rattle.promises.proofs.Right.{form_right}
use Rattle.promises.proofs.Withdrawing.{was_held}
use Rattle.promises.specs.Calls.{Calls, ours}
use Rattle.promises.specs.Demand3.{Demand3, Reordered, Same, further, swapped, unmoved}
use Rattle.promises.specs.Made.{Made, SameMembers, added, in_order, listed, loaded, put_in, withdrawn}
use Rattle.replies.specs.declared.Reply.TheVariants.{Already, Done}
use Rattle.holding.proofs.Dropping.{dropped_cases, dropped_from, dropped_gone, dropped_keeps}
use Rattle.rules.proofs.Order.{mem_same}
use Rattle.rules.specs.Held.{dropped, said_by}
use Rattle.rules.specs.Items.{fault_of, justification_of, same_justification}
use Rattle.store.specs.Calls.{add_of, answer, no_store, store_of, withdraw_of}
use Rattle.store.specs.Reading.{label_held, nogoods_held}
use Rattle.store.specs.Shape.{right_shape}
use Rattle.store.specs.declared.Outcome.{Outcome}
use Rattle.store.specs.declared.Store.{Store}
use Rattle.theory.proofs.Lists.{clash}
use Rattle.theory.specs.Lists.{some_of}
use Rattle.theory.specs.Stages.{Justification}
use Rattle.promises.proofs.Printing.{printed_same}

same_members_trans : {H K L : List Justification} → SameMembers H K → SameMembers K L → SameMembers H L
same_members_trans f g j = (λ m. (g j).0 ((f j).0 m), λ m. (f j).1 ((g j).1 m))

same_members_sym : {H K : List Justification} → SameMembers H K → SameMembers K H
same_members_sym f j = ((f j).1, (f j).0)

pub one_store : (C : Calls) {s t : Store} → s ≡ t → Same C s t
one_store C e = record {
  label = λ n. ap (λ (x : Store). label_held x.lists n) e;
  nogoods = ap (λ (x : Store). nogoods_held x.lists) e;
  depth = ap (λ (x : Store). x.lists.depth) e;
  adding = λ c l. ap (λ (x : Store). C.adding x c l) e;
  adding_all = λ l out. ap (λ (x : Store). C.adding_all x l out) e;
  withdrawing = λ c l. ap (λ (x : Store). C.withdrawing x c l) e;
  reading = λ a. ap (λ (x : Store). C.reading x a) e;
  shape = ap (λ (x : Store). C.shape x) e;
  store = e;
}

module _ {A M : ℕ} where
  pub form_same : {H K : List Justification} {s t : Store} → Form A M H s → Form A M K t → SameMembers H K → s ≡ t
  form_same {H} {K} {s} {t} f g m = done_store s t (sym f.store ∙ ap (store_of no_store A M) (in_order_same H K m) ∙ g.store)

  -- two made stores whose calls put the same in are equal
  pub same_store : {H K : List Justification} {s t : Store} → Made ours A M H s → Made ours A M K t → SameMembers H K → s ≡ t
  same_store p q m = form_same (made_form p) (made_form q) m

  same_held : {H K : List Justification} {s t : Store} → Made ours A M H s → Made ours A M K t → SameMembers (said_by s.held) (said_by t.held) → s ≡ t
  same_held p q m =
      same_store p q
      (same_members_trans (same_members_sym (form_exactly (made_form p)).members) (same_members_trans m (form_exactly (made_form q)).members))

  add_already : {H : List Justification} {s : Store} (c : ℕ) (l : List ℕ) → Form A M H s → fault_of (A + M) c l ≡ Done
      → Mem (justification_of (A + M) c l) H → add_of s c l ≡ answer Already s
  add_already {H} {s} c l f d m =
      form_add f c l ∙ already (form_right f) d (mem_same (justification_of (A + M) c l) (in_order H) (in_order_to m))
    where
      already : right_shape s ≡ true → fault_of (A + M) c l ≡ Done → some_of (same_justification (justification_of (A + M) c l)) (in_order H) ≡ true
          → tried s (right_shape s) A M (length (in_order H)) (in_order H) c l ≡ answer Already s
      already p q r = rw (p, q, r)

  -- what is put in anew and taken out again leaves what was there
  added_less : {H : List Justification} {s t : Store} (c : ℕ) (l : List ℕ) → Form A M H s → add_of s c l ≡ answer Done t
      → SameMembers (dropped (justification_of (A + M) c l) (justification_of (A + M) c l ∷ H)) H
  added_less {H} {s} {t} c l f e j =
      let i : Justification = justification_of (A + M) c l in
      let p = tried_done s t (right_shape s) A M (length (in_order H)) (in_order H) c l (sym (form_add f c l) ∙ e) in (
        λ m. ⊎_elim (λ (q : j ≡ i). absurd (dropped_gone i (i ∷ H) (subst (λ (x : Justification). Mem x (dropped i (i ∷ H))) q m))) (λ n. n) (Memᴰ.cases_cons (dropped_from i (i ∷ H) m)),
        λ m. dropped_keeps i (there m) (λ (q : j ≡ i). clash (mem_same i (in_order H) (in_order_to (subst (λ (x : Justification). Mem x H) q m))) p.new),
      )

  -- what is taken out and put in again leaves what was there
  less_added : {H : List Justification} {s t : Store} (c : ℕ) (l : List ℕ) → Form A M H s → withdraw_of s c l ≡ answer Done t
      → SameMembers (justification_of (A + M) c l ∷ dropped (justification_of (A + M) c l) H) H
  less_added {H} c l f e j =
      let i : Justification = justification_of (A + M) c l in
      let held : Mem i H = was_held f c l e in (
        λ m. ⊎_elim (λ (q : j ≡ i). subst (λ (x : Justification). Mem x H) (sym q) held) (λ n. dropped_from i H n) (Memᴰ.cases_cons m),
        λ m. ⊎_elim (λ (q : j ≡ i). here q) (λ n. there n) (dropped_cases i H m),
      )

-- ---- any order

crossed : (i k : Justification) (H : List Justification) (j : Justification) → Mem j (k ∷ i ∷ H) → Mem j (i ∷ k ∷ H)
crossed i k H j m =
    ⊎_elim (λ a. there (here a)) (λ b. ⊎_elim (λ a. here a) (λ n. there (there n)) (Memᴰ.cases_cons b)) (Memᴰ.cases_cons m)

crossed_at : (H : List Justification) (i k : Justification) (K : List Justification) (j : Justification) → Mem j (H ++ i ∷ k ∷ K) → Mem j (H ++ k ∷ i ∷ K)
crossed_at H i k K j m = ⊎_elim (λ a. Memᴰ.append_left (k ∷ i ∷ K) a) (λ b. Memᴰ.append_right H (crossed k i K j b)) (Memᴰ.append_cases H m)

reordered_members : {H K : List Justification} → Reordered H K → SameMembers H K
reordered_members unmoved = λ j. (λ m. m, λ m. m)
reordered_members (swapped H i k K) = λ j. (crossed_at H i k K j, crossed_at H k i K j)
reordered_members (further p q) = same_members_trans (reordered_members p) (reordered_members q)

-- ---- files

two_loaded : (bytes others : List ℕ) (f g : Case) → case_of bytes ≡ whole f → case_of others ≡ whole g
    → f.header.assumptions ≡ g.header.assumptions → f.header.claims ≡ g.header.claims → SameMembers (put_in f) (put_in g)
    → answer (load_of bytes).reply (load_of bytes).store ≡ answer (load_of others).reply (load_of others).store
two_loaded bytes others f g p q a m e =
    ap judged (case_loaded bytes f p)
    ∙ ap₂ (λ (x y : ℕ). store_of no_store x y (held_by f)) a m ∙ ap (store_of no_store g.header.assumptions g.header.claims) one_set
    ∙ sym (ap judged (case_loaded others g q))
  where
    judged : Loaded → Outcome
    judged x = answer x.reply x.store

    one_set : held_by f ≡ held_by g
    one_set = case_held f (case_sound bytes f p) ∙ in_order_same (put_in f) (put_in g) e ∙ sym (case_held g (case_sound others g q))

-- a case without fault is answered with the records that it announces
case_record : (bytes : List ℕ) (f : Case) → case_of bytes ≡ whole f → (load_of bytes).«record» ≡ f.header.records
case_record bytes f p = ap (λ (x : Loaded). x.«record») (case_loaded bytes f p)

pub demand_3 : Demand3 ours
demand_3 = record {
  put_in_lem = λ p q m. one_store ours (same_store p q m);
  held = λ p q m. one_store ours (same_held p q m);
  any_order = λ p q o. one_store ours (same_store p q (reordered_members o));
  two_orders = λ {A = A} {M = M} {H = H} c d l m p a b e f.
      let i : Justification = justification_of (A + M) c l in
      let k : Justification = justification_of (A + M) d m in
      one_store ours (same_store (added d m (added c l p a) b) (added c l (added d m p e) f) (λ j. (crossed i k H j, crossed k i H j)));
  two_lists = λ l m out others after later p q e f h. one_store ours (same_store (listed l out after p e) (listed m others later q f) h);
  repeated = λ c l p d m. add_already c l (made_form p) d m;
  from_file = λ bytes f e r m h. one_store ours (same_store (loaded bytes f e refl refl r refl) m h);
  two_files = λ bytes others f g p q a m e.
      let o = two_loaded bytes others f g p q a m e in
      (ap (λ (x : Outcome). x.reply) o, λ r. one_store ours (ap (λ (x : Outcome). x.store) o));
  same_print = λ bytes others f g p q few less a m e w out.
      let o = two_loaded bytes others f g p q a m e in
      printed_same bytes others out few less (ap (λ (x : Outcome). x.reply) o) (ap (λ (x : Outcome). x.store) o) (⊎_elim (λ d. inl d) (λ r. inr (case_record bytes f p ∙ r ∙ sym (case_record others g q))) w);
  in_between = λ p q. one_store ours (same_store p q (λ j. (λ m. m, λ m. m)));
  undone = λ c l p e k. same_store (withdrawn c l (added c l p e) k) p (added_less c l (made_form p) e);
  redone = λ c l p e k. same_store (added c l (withdrawn c l p e) k) p (less_added c l (made_form p) e);
}
