-- A made store is the store of what was put in, judged once. Assumes nothing.
use mathlib.Core.Bool.{Bool, ◌||◌, false, not, true}
use mathlib.Core.List.Memᴰ
use mathlib.Core.List.Memᴰ.{head as here}
use mathlib.Core.List.Memᴰ.{tail as there}
use mathlib.Core.List.{List, Memᴰ as Mem, [], ◌++◌, ◌∷◌, map}
use mathlib.Core.Logic.{⊎_elim}
use mathlib.Core.Path.{◌∙◌, ◌≡◌, ap, ap₂, refl, subst, sym}
use Prim.Native.Nat.{◌+◌, ◌≤◌, ℕ}
use native.Mathlib.Omega.{arith}
use lib.Dec.{eqb, leb, ltb}
use lib.ListN.{drop, length}
use borrow.Author.Tests.{eqb-true, leb-false, ltb-false, not-false}
use Rattle.casefile.proofs.Gathering.{meant}
use Rattle.casefile.proofs.Whole.{Checked, Sound, case_checked, case_sure, held_item, held_only}
use Rattle.casefile.specs.Case.{Case, case_of, held_by, whole}
use Rattle.casefile.specs.Load.{load_of, loaded_of, recorded}
use Rattle.casefile.specs.declared.Loaded.{Loaded}
use Rattle.asking.specs.Asking.{Left, left}
use Rattle.handed.specs.Supplied.{supplied_by}
use Rattle.handed.specs.declared.Handed.{Handed}
use Rattle.promises.proofs.InOrder.{in_order_dropped, in_order_from, in_order_is, in_order_members, in_order_new, in_order_ordered}
use Rattle.promises.proofs.Opening.{judge_none}
use Rattle.promises.proofs.Keeping.{add_keeps, all_keeps, read_store, withdraw_keeps}
use Rattle.promises.specs.Calls.{ours}
use Rattle.promises.specs.Made.{HoldsExactly, Made, SameMembers, added, asked, gained, in_order, judged, kept, listed, loaded, opened, put_in, refused, unlisted, withdrawn}
use Rattle.replies.proofs.Laws.{zero_done}
use Rattle.replies.specs.Replies.{number_of}
use Rattle.replies.specs.declared.Reply.{Reply}
use Rattle.replies.specs.declared.Reply.TheVariants.{Already, Counts, Done, Full, Shape, Short, Unheld}
use Rattle.holding.proofs.Dropping.{dropped_few, dropped_from}
use Rattle.rules.proofs.Entries.{said_many}
use Rattle.rules.proofs.Laws.{Ranged, faultless_ranged, held_said, right_range}
use Rattle.holding.proofs.Putting.{put_length}
use Rattle.rules.proofs.Scan.{right_elim}
use Rattle.rules.specs.Held.{dropped, held_of, ordered, put, said_by}
use Rattle.rules.specs.Items.{fault_of, justification_of, same_justification}
use Rattle.rules.specs.declared.Held.{Held}
use Rattle.season.specs.Season.{add_all_of, added_all, bytes_after, give_of, replies_of}
use Rattle.stages.specs.Lists.{lists_of}
use Rattle.store.proofs.Shapes.{fits_elim}
use Rattle.store.specs.Calls.{add_of, answer, is_done, joined_by, judged_of, no_store, of_verdict, open_of, parted_from, start_store, store_of, withdraw_of}
use Rattle.store.specs.Shape.{held_fits, right_shape}
use Rattle.store.specs.declared.Outcome.{Outcome}
use Rattle.store.specs.declared.Store.{Store}
use Rattle.theory.proofs.Lists.{clash}
use Rattle.theory.specs.Judge.{Stage, Verdict, judge, label_over, nogoods_over, settled}
use Rattle.theory.specs.Limits.{limits, over_counts}
use Rattle.theory.specs.Lists.{choose, some_of}
use Rattle.theory.specs.Stages.{Justification}

-- ---- an answer 0 met no refusal

pub done_store : (s t : Store) → answer Done s ≡ answer Done t → s ≡ t
done_store s t e = ap (λ (a : Outcome). a.store) e

pub pass : (b : Bool) (x rest : Outcome) (t : Store) → (number_of x.reply ≡ 0 → ⊥) → choose b x rest ≡ answer Done t → (b ≡ false) × (rest ≡ answer Done t)
pass true x rest t n e = absurd (n (ap (λ (a : Outcome). number_of a.reply) e))
pass false x rest t n e = (refl, e)

-- the store of a verdict that is answered 0
pub record Settled (h : Held) (v : Verdict) (t : Store) : Type 0 where
  pub depth : ℕ
  pub stage : Stage
  pub verdict : v ≡ settled depth stage
  pub is : t ≡ record { held = h; lists = lists_of depth stage }

pub settled_only : (s t : Store) (h : Held) (v : Verdict) → of_verdict s h v ≡ answer Done t → Settled h v t
settled_only s t h (settled d g) e = record { depth = d; stage = g; verdict = refl; is = sym (done_store (record { held = h; lists = lists_of d g }) t e) }
settled_only s t h nogoods_over e = let z : ◌≡◌ {A = ℕ} 9 0 = ap (λ (a : Outcome). number_of a.reply) e in absurd (omega arith)
settled_only s t h (label_over n) e = let z : ◌≡◌ {A = ℕ} 8 0 = ap (λ (a : Outcome). number_of a.reply) e in absurd (omega arith)

-- what a refusal would hand back does not matter where the answer is 0
pub done_by : (s s' t : Store) (h : Held) (v : Verdict) → of_verdict s h v ≡ answer Done t → of_verdict s' h v ≡ answer Done t
done_by s s' t h v e = let r = settled_only s t h v e in ap (of_verdict s' h) r.verdict ∙ ap (answer Done) (sym r.is)

-- ---- the form of a made store

pub record Form (A M : ℕ) (H : List Justification) (s : Store) : Type 0 where
  pub few : A ≤ limits.assumptions
  pub claims : M ≤ limits.claims
  pub room : length (in_order H) ≤ limits.held
  pub ranged : (j : Justification) → Mem j H → Ranged (A + M) j
  pub store : store_of no_store A M (in_order H) ≡ answer Done s

module _ {A M : ℕ} {H : List Justification} {s : Store} (f : Form A M H s) where
  pub form_settled : Settled (held_of A M (in_order H)) (judge limits A (A + M) (in_order H)) s
  unfolding store_of
  form_settled = settled_only no_store s (held_of A M (in_order H)) (judge limits A (A + M) (in_order H)) f.store

  pub form_held : s.held ≡ held_of A M (in_order H)
  form_held = ap (λ (x : Store). x.held) form_settled.is

  pub form_lists : s.lists ≡ lists_of form_settled.depth form_settled.stage
  form_lists = ap (λ (x : Store). x.lists) form_settled.is

  pub form_ranged : (j : Justification) → Mem j (in_order H) → Ranged (A + M) j
  form_ranged j m = f.ranged j (in_order_from H m)

  pub form_said : said_by s.held ≡ in_order H
  form_said = ap said_by form_held ∙ held_said A M (in_order H) f.room (λ j m. (form_ranged j m).few)

  pub form_a : s.held.assumptions ≡ A
  unfolding held_of
  form_a = ap (λ (h : Held). h.assumptions) form_held

  pub form_m : s.held.claims ≡ M
  unfolding held_of
  form_m = ap (λ (h : Held). h.claims) form_held

  pub form_count : s.held.count ≡ length (in_order H)
  unfolding held_of
  form_count = ap (λ (h : Held). h.count) form_held

  pub form_exactly : HoldsExactly A M H s
  form_exactly = record {
    members = subst (λ (J : List Justification). SameMembers J H) (sym form_said) (in_order_members H);
    order = ap ordered form_said ∙ in_order_ordered H;
    held = form_held ∙ ap (held_of A M) (sym form_said);
    depth = form_settled.depth;
    stage = form_settled.stage;
    judged = ap (judge limits A (A + M)) form_said ∙ form_settled.verdict;
    lists = form_lists;
    store = f.store;
  }

-- ---- what adding answers, over plain parts of the store

abbrev pub tried : Store → Bool → ℕ → ℕ → ℕ → List Justification → ℕ → List ℕ → Outcome
tried s right A M n J c l =
    choose (not right) (answer Shape s)
    (choose (not (is_done (fault_of (A + M) c l))) (answer (fault_of (A + M) c l) s)
    (choose (some_of (same_justification (justification_of (A + M) c l)) J) (answer Already s)
    (choose (leb limits.held n) (answer Full s)
    (store_of s A M (put (justification_of (A + M) c l) J)))))

pub add_tried : (s : Store) (c : ℕ) (l : List ℕ) → add_of s c l ≡ tried s (right_shape s) s.held.assumptions s.held.claims s.held.count (said_by s.held) c l
unfolding add_of joined_by
add_tried s c l = refl

tried_same : (s : Store) (right : Bool) (A A' M M' n n' : ℕ) (J J' : List Justification) (c : ℕ) (l : List ℕ) → A ≡ A' → M ≡ M' → n ≡ n' → J ≡ J' → tried s right A M n J c l ≡ tried s right A' M' n' J' c l
tried_same s right A A' M M' n n' J J' c l a m k j =
    ap₂ (λ (x y : ℕ). tried s right x y n J c l) a m ∙ ap₂ (λ (x : ℕ) (K : List Justification). tried s right A' M' x K c l) k j

pub form_add : {A M : ℕ} {H : List Justification} {s : Store} → Form A M H s → (c : ℕ) (l : List ℕ) → add_of s c l ≡ tried s (right_shape s) A M (length (in_order H)) (in_order H) c l
form_add {A} {M} {H} {s} f c l =
    add_tried s c l
    ∙ tried_same s (right_shape s) s.held.assumptions A s.held.claims M s.held.count (length (in_order H)) (said_by s.held) (in_order H) c l (form_a f) (form_m f) (form_count f) (form_said f)

-- ---- one more

abbrev Counted : Reply → Type 0
Counted r = number_of r ≡ 0 → ⊥

fault_not : (r : Reply) → is_done r ≡ false → Counted r
fault_not r h e = let z : ◌≡◌ {A = Bool} true false = sym (ap (λ (n : ℕ). eqb n 0) e) ∙ h in absurd (false_true z)
  where
    false_true : ◌≡◌ {A = Bool} true false → ⊥
    false_true z = let q : ◌≡◌ {A = ℕ} 0 1 = cc in omega arith

pass_fault : (s t : Store) (b : Bool) (x : Reply) {rest : Outcome} → is_done x ≡ b → choose (not b) (answer x s) rest ≡ answer Done t → (x ≡ Done) × (rest ≡ answer Done t)
pass_fault s t true x h q = (zero_done x (eqb-true (number_of x) 0 h), q)
pass_fault s t false x h q = absurd (fault_not x h (ap (λ (a : Outcome). number_of a.reply) q))

-- where the answer is 0, the store of the justifications held with this one, judged anew
pub record Joined (A M n : ℕ) (J : List Justification) (c : ℕ) (l : List ℕ) (t : Store) : Type 0 where
  pub sound : fault_of (A + M) c l ≡ Done
  pub new : some_of (same_justification (justification_of (A + M) c l)) J ≡ false
  pub room : leb limits.held n ≡ false
  pub store : store_of no_store A M (put (justification_of (A + M) c l) J) ≡ answer Done t

pub tried_done : (s t : Store) (right : Bool) (A M n : ℕ) (J : List Justification) (c : ℕ) (l : List ℕ) → tried s right A M n J c l ≡ answer Done t → Joined A M n J c l t
unfolding store_of
tried_done s t right A M n J c l e =
    let i : Justification = justification_of (A + M) c l in
    let x : Reply = fault_of (A + M) c l in
    let p₁ = pass (not right) (answer Shape s) _ t (λ (z : ◌≡◌ {A = ℕ} 2 0). omega arith) e in
    let p₂ = pass_fault s t (is_done x) x refl p₁.1 in
    let p₃ = pass (some_of (same_justification i) J) (answer Already s) _ t (λ (z : ◌≡◌ {A = ℕ} 1 0). omega arith) p₂.1 in
    let p₄ = pass (leb limits.held n) (answer Full s) _ t (λ (z : ◌≡◌ {A = ℕ} 7 0). omega arith) p₃.1 in
    record { sound = p₂.0; new = p₃.0; room = p₄.0; store = done_by s no_store t (held_of A M (put i J)) (judge limits A (A + M) (put i J)) p₄.1 }

module _ {A M : ℕ} {H : List Justification} {s t : Store} (f : Form A M H s) (c : ℕ) (l : List ℕ) (e : add_of s c l ≡ answer Done t) where
  abbrev i : Justification
  i = justification_of (A + M) c l

  pub form_next : Form A M (i ∷ H) t
  form_next =
      let J : List Justification = in_order H in
      let p = tried_done s t (right_shape s) A M (length J) J c l (sym (form_add f c l) ∙ e) in
      let o : in_order (i ∷ H) ≡ put i J = in_order_new i H p.new in
      record {
        few = f.few;
        claims = f.claims;
        room = omega (arith, ap length o, put_length i J, leb-false limits.held (length J) p.room);
        ranged = λ j m. ⊎_elim (λ (q : j ≡ i). subst (Ranged (A + M)) (sym q) (faultless_ranged (A + M) c l p.sound)) (λ k. f.ranged j k) (Memᴰ.cases_cons m);
        store = ap (store_of no_store A M) o ∙ p.store;
      }

-- ---- a list

-- one item: answered 0 it is put in, else all is as it was
form_given : {A M : ℕ} {H : List Justification} {s : Store} → Form A M H s → (h : Handed) (b : Bool) → is_done (give_of s h).reply ≡ b
    → Form A M (choose b (justification_of (A + M) h.consequent (supplied_by h) ∷ H) H) (give_of s h).store
form_given {s = s} f h true e =
    let o : Outcome = give_of s h in
    form_next f h.consequent (supplied_by h) (ap (λ (r : Reply). answer r o.store) (zero_done o.reply (eqb-true (number_of o.reply) 0 e)))
form_given {A} {M} {H} {s} f h false e = subst (Form A M H) (sym (add_keeps s h.consequent (supplied_by h) (λ d. clash (ap is_done d) e))) f

form_all : {A M : ℕ} {H : List Justification} {s : Store} → Form A M H s → (l : List Handed) (rest : List ℕ) → Form A M (gained (A + M) l (replies_of s l ++ rest) H) (added_all s l)
unfolding gained replies_of added_all
form_all f [] rest = f
form_all {A = A} {M = M} {H = H} {s = s} f (h ∷ l) rest =
    form_all {H = choose (is_done (give_of s h).reply) (justification_of (A + M) h.consequent (supplied_by h) ∷ H) H} (form_given f h (is_done (give_of s h).reply) refl) l rest

-- answered 0, every item was given
pub all_given : (s t : Store) (l : List Handed) (out : List ℕ) → add_all_of s l out ≡ answer Done t → (added_all s l ≡ t) × (bytes_after s l out ≡ replies_of s l ++ drop (length l) out)
unfolding add_all_of bytes_after
all_given s t l out e =
    let p = pass (not (right_shape s)) (answer Shape s) _ t (λ (z : ◌≡◌ {A = ℕ} 2 0). omega arith) e in
    let q = pass (ltb (length out) (length l)) (answer Short s) _ t (λ (z : ◌≡◌ {A = ℕ} 15 0). omega arith) p.1 in
    let b = p.0 in
    let c = q.0 in
    (done_store (added_all s l) t q.1, rw (b, c))

form_listed : {A M : ℕ} {H : List Justification} {s t : Store} → Form A M H s → (l : List Handed) (out after : List ℕ) → left (add_all_of s l out) (bytes_after s l out) ≡ left (answer Done t) after
    → Form A M (gained (A + M) l after H) t
form_listed {A} {M} {H} {s} {t} f l out after e =
    let g = all_given s t l out (ap (λ (x : Left). x.outcome) e) in
    let b : replies_of s l ++ drop (length l) out ≡ after = sym g.1 ∙ ap (λ (x : Left). x.bytes) e in
    subst (λ (x : List ℕ). Form A M (gained (A + M) l x H) t) b (subst (Form A M (gained (A + M) l (replies_of s l ++ drop (length l) out) H)) g.0 (form_all f l (drop (length l) out)))

-- ---- one less

abbrev pub parted : Store → Bool → ℕ → ℕ → List Justification → ℕ → List ℕ → Outcome
parted s right A M J c l =
    choose (not right) (answer Shape s)
    (choose (not (is_done (fault_of (A + M) c l))) (answer (fault_of (A + M) c l) s)
    (choose (not (some_of (same_justification (justification_of (A + M) c l)) J)) (answer Unheld s)
    (store_of s A M (dropped (justification_of (A + M) c l) J))))

pub withdraw_parted : (s : Store) (c : ℕ) (l : List ℕ) → withdraw_of s c l ≡ parted s (right_shape s) s.held.assumptions s.held.claims (said_by s.held) c l
unfolding withdraw_of parted_from
withdraw_parted s c l = refl

pub form_withdraw : {A M : ℕ} {H : List Justification} {s : Store} → Form A M H s → (c : ℕ) (l : List ℕ) → withdraw_of s c l ≡ parted s (right_shape s) A M (in_order H) c l
form_withdraw {A} {M} {H} {s} f c l =
    withdraw_parted s c l ∙ ap₂ (λ (x y : ℕ). parted s (right_shape s) x y (said_by s.held) c l) (form_a f) (form_m f)
    ∙ ap (λ (K : List Justification). parted s (right_shape s) A M K c l) (form_said f)

-- where the answer is 0, the store of the justifications held without this one, judged anew
pub record Parted (A M : ℕ) (J : List Justification) (c : ℕ) (l : List ℕ) (t : Store) : Type 0 where
  pub sound : fault_of (A + M) c l ≡ Done
  pub store : store_of no_store A M (dropped (justification_of (A + M) c l) J) ≡ answer Done t

pub parted_done : (s t : Store) (right : Bool) (A M : ℕ) (J : List Justification) (c : ℕ) (l : List ℕ) → parted s right A M J c l ≡ answer Done t → Parted A M J c l t
unfolding store_of
parted_done s t right A M J c l e =
    let i : Justification = justification_of (A + M) c l in
    let x : Reply = fault_of (A + M) c l in
    let p₁ = pass (not right) (answer Shape s) _ t (λ (z : ◌≡◌ {A = ℕ} 2 0). omega arith) e in
    let p₂ = pass_fault s t (is_done x) x refl p₁.1 in
    let p₃ = pass (not (some_of (same_justification i) J)) (answer Unheld s) _ t (λ (z : ◌≡◌ {A = ℕ} 18 0). omega arith) p₂.1 in
    record { sound = p₂.0; store = done_by s no_store t (held_of A M (dropped i J)) (judge limits A (A + M) (dropped i J)) p₃.1 }

pub form_less : {A M : ℕ} {H : List Justification} {s t : Store} → Form A M H s → (c : ℕ) (l : List ℕ) → withdraw_of s c l ≡ answer Done t → Form A M (dropped (justification_of (A + M) c l) H) t
form_less {A} {M} {H} {s} {t} f c l e =
    let J : List Justification = in_order H in
    let i : Justification = justification_of (A + M) c l in
    let p = parted_done s t (right_shape s) A M J c l (sym (form_withdraw f c l) ∙ e) in
    let o : in_order (dropped i H) ≡ dropped i J = in_order_dropped i H in
    record {
      few = f.few;
      claims = f.claims;
      room = omega (arith, ap length o, dropped_few i J, f.room);
      ranged = λ j m. f.ranged j (dropped_from i H m);
      store = ap (store_of no_store A M) o ∙ p.store;
    }

-- ---- the theorem

-- the store of nothing held
pub none_store : (A M : ℕ) → store_of no_store A M [] ≡ answer Done (start_store A M)
unfolding store_of start_store
none_store A M = ap (of_verdict no_store (held_of A M [])) (judge_none A (A + M))

open_form : (A M : ℕ) (s : Store) → open_of A M ≡ answer Done s → Form A M [] s
unfolding open_of in_order
open_form A M s e =
    let p = pass (over_counts A M) (answer Counts no_store) _ s (λ (z : ◌≡◌ {A = ℕ} 3 0). omega arith) e in
    record {
      few = ltb-false limits.assumptions A (neither_left (ltb limits.assumptions A) (ltb limits.claims M) p.0);
      claims = ltb-false limits.claims M (neither_right (ltb limits.assumptions A) (ltb limits.claims M) p.0);
      room = omega arith;
      ranged = λ j m. elim m [ ];
      store = none_store A M ∙ p.1;
    }
  where
    neither_left : (a b : Bool) → a || b ≡ false → a ≡ false
    neither_left true b h = h
    neither_left false b h = refl

    neither_right : (a b : Bool) → a || b ≡ false → b ≡ false
    neither_right true b h = clash refl h
    neither_right false b h = h

-- the store of a set of justifications, judged once: so loading is to make it
pub judged_form : (A M : ℕ) (J H : List Justification) (s : Store) → A ≤ limits.assumptions → M ≤ limits.claims → length J ≤ limits.held → ((j : Justification) → Mem j J → Ranged (A + M) j)
    → ordered J ≡ true → SameMembers J H → store_of no_store A M J ≡ answer Done s → Form A M H s
judged_form A M J H s few claims room ranged order same e =
    let o : J ≡ in_order H = in_order_is J H order same in
    record { few = few; claims = claims; room = omega (arith, ap length o); ranged = λ j m. ranged j ((same j).1 m); store = ap (store_of no_store A M) (sym o) ∙ e }

-- ---- loading

mem_map : {X Y : Type 0} (g : X → Y) {x : X} {l : List X} → Mem x l → Mem (g x) (map g l)
mem_map g (here e) = here (ap g e)
mem_map g (there m) = there (mem_map g m)

map_mem : {X Y : Type 0} (g : X → Y) {y : Y} (l : List X) → Mem y (map g l) → (x : X) × Mem x l × (y ≡ g x)
map_mem g [] m = elim m [ ]
map_mem g (x ∷ l) m = ⊎_elim (λ e. (x, here refl, e)) (λ n. let r = map_mem g l n in (r.0, there r.1, r.2)) (Memᴰ.cases_cons m)

-- a case without fault: what is held of it
module _ (c : Case) (sound : Sound c) where
  abbrev A' : ℕ
  A' = c.header.assumptions

  abbrev M' : ℕ
  M' = c.header.claims

  pub case_members : SameMembers (held_by c) (put_in c)
  case_members j = (
    λ m. let r = held_only c sound m in subst (λ (x : Justification). Mem x (put_in c)) (sym r.2) (mem_map (meant (A' + M')) r.1),
    λ m. let r = map_mem (meant (A' + M')) c.items m in subst (λ (x : Justification). Mem x (held_by c)) (sym r.2) (held_item c sound r.1),
  )

  pub case_ranged : (j : Justification) → Mem j (held_by c) → Ranged (A' + M') j
  unfolding held_of
  case_ranged j m = let sure = case_sure c sound in right_range (held_of A' M' (held_by c)) sure.right j (subst (Mem j) (sym sure.said) m)

  case_order : ordered (held_by c) ≡ true
  case_order = let sure = case_sure c sound in ap ordered (sym sure.said) ∙ (right_elim (held_of A' M' (held_by c)) sure.right).order

  -- .. is what was put in, in order
  pub case_held : held_by c ≡ in_order (put_in c)
  case_held = in_order_is (held_by c) (put_in c) case_order case_members

  case_few : length (held_by c) ≤ limits.held
  unfolding held_of
  case_few = (right_elim (held_of A' M' (held_by c)) (case_sure c sound).right).few

  case_form : {s : Store} → store_of no_store A' M' (held_by c) ≡ answer Done s → Form A' M' (put_in c) s
  case_form {s} e = judged_form A' M' (held_by c) (put_in c) s sound.limited.assumptions sound.limited.claims case_few case_ranged case_order case_members e

-- the case that the bytes spell
module _ (bytes : List ℕ) (c : Case) (spells : case_of bytes ≡ whole c) where
  pub case_sound : Sound c
  unfolding Checked
  case_sound = subst Checked spells (case_checked bytes)

  pub case_loaded : load_of bytes ≡ recorded c.header.records (store_of no_store c.header.assumptions c.header.claims (held_by c))
  unfolding load_of
  case_loaded = ap loaded_of spells

  load_form : {s : Store} → (load_of bytes).reply ≡ Done → (load_of bytes).store ≡ s → Form c.header.assumptions c.header.claims (put_in c) s
  load_form r k =
      let p = sym (ap (λ (x : Loaded). x.reply) case_loaded) ∙ r in
      let q = sym (ap (λ (x : Loaded). x.store) case_loaded) ∙ k in
      case_form c case_sound (ap₂ (λ (x : Reply) (t : Store). answer x t) p q)

-- ---- judging

judged_held : (h : Held) (s : Store) → judged_of h ≡ answer Done s → Form h.assumptions h.claims (said_by h) s
unfolding judged_of
judged_held h s e =
    let p = pass (not (held_fits h)) (answer Shape no_store) _ s (λ (z : ◌≡◌ {A = ℕ} 2 0). omega arith) e in
    let f = fits_elim h (not-false (held_fits h) p.0) in
    judged_form h.assumptions h.claims (said_by h) (said_by h) s f.few f.claims (omega (arith, said_many h f.right, (right_elim h f.right).few)) (right_range h f.right)
    (right_elim h f.right).order (λ j. (λ m. m, λ m. m)) p.1

ap_form : {A A' M M' : ℕ} {H : List Justification} {s : Store} → A ≡ A' → M ≡ M' → Form A M H s → Form A' M' H s
ap_form {A} {A'} {M} {M'} {H} {s} a m f = subst (λ (x : ℕ). Form A' x H s) m (subst (λ (x : ℕ). Form x M H s) a f)

module _ {A M : ℕ} where
  pub made_form : {H : List Justification} {s : Store} → Made ours A M H s → Form A M H s
  made_form (opened {s = s} e) = open_form A M s e
  made_form (loaded {s = s} bytes c e a m r k) = ap_form a m (load_form bytes c e r k)
  made_form (judged {s = s} h a m e) = ap_form a m (judged_held h s e)
  made_form (added c l m e) = form_next (made_form m) c l e
  made_form (refused {H = H} {s = s} {t = t} c l r m e n) =
      let k : (add_of s c l).store ≡ s = add_keeps s c l (λ q. n (sym (ap (λ (a : Outcome). a.reply) e) ∙ q)) in
      subst (Form A M H) (sym k ∙ ap (λ (a : Outcome). a.store) e) (made_form m)
  made_form (listed l out after m e) = form_listed (made_form m) l out after e
  made_form (unlisted {H = H} {s = s} {t = t} l out after r m e n) =
      let k : (add_all_of s l out).store ≡ s = all_keeps s l out (λ q. n (sym (ap (λ (x : Left). x.outcome.reply) e) ∙ q)) in
      subst (Form A M H) (sym k ∙ ap (λ (x : Left). x.outcome.store) e) (made_form m)
  made_form (withdrawn c l m e) = form_less (made_form m) c l e
  made_form (kept {H = H} {s = s} {t = t} c l r m e n) =
      let k : (withdraw_of s c l).store ≡ s = withdraw_keeps s c l (λ q. n (sym (ap (λ (a : Outcome). a.reply) e) ∙ q)) in
      subst (Form A M H) (sym k ∙ ap (λ (a : Outcome). a.store) e) (made_form m)
  made_form (asked {H = H} {s = s} a m e) = subst (Form A M H) (sym (read_store s a) ∙ e) (made_form m)

  -- a made store holds exactly what was put in
  pub made_holds : {H : List Justification} {s : Store} → Made ours A M H s → HoldsExactly A M H s
  made_holds m = form_exactly (made_form m)
