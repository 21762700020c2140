-- Whatever serves in its place contains every smallest set, so it is no shorter, and of that length the same. Assumes nothing.
use Rattle.replies.specs.declared.Reply.{Reply}
use Rattle.std.specs.Prelude.{Result, Ok, Err}
use mathlib.Core.Bool.{Bool, false, not, true}
use mathlib.Core.List.Memᴰ
use mathlib.Core.List.Memᴰ.{head as here}
use mathlib.Core.List.Memᴰ.{tail as there}
use mathlib.Core.List.{List, Memᴰ as Mem, [], ◌∷◌}
use mathlib.Core.Logic.{⊎_elim}
use mathlib.Core.Path.{◌∙◌, ◌≡◌, ap, refl, subst, sym}
use Prim.Native.Nat.{◌+◌, ◌<◌, ◌^◌, ◌≤◌, suc, zero, zero-le, ℕ}
use native.Mathlib.Omega.{arith}
use lib.Dec.{eqb}
use lib.ListN.{length}
use borrow.Author.Tests.{eq-eqb, eqb-true, not-true}
use Rattle.asking.specs.declared.Answer.{Answer}
use Rattle.asking.specs.declared.Answer.TheVariants.{Inconsistent, Supported, Unsupported}
use Rattle.promises.proofs.Form.{made_form}
use Rattle.promises.proofs.Telling.{form_carries, form_contradicts}
use Rattle.promises.proofs.Truth.{demand_2}
use Rattle.promises.specs.Calls.{ours}
use Rattle.promises.specs.Demand2.{ListsSmallest, QuestionSays}
use Rattle.promises.specs.Made.{Made}
use Rattle.promises.specs.Shortest.{NothingShorter, Serves, Shortest, Unrepeated, asked, consistent, more, none, supports}
use Rattle.store.specs.Reading.{label_held, nogoods_held}
use Rattle.store.specs.declared.Store.{Store}
use Rattle.theory.proofs.Demands.{carries_means, contradicts_means}
use Rattle.theory.proofs.Following.{follows_more}
use Rattle.theory.proofs.Lists.{clash, either, not_so, same_test, some_elim, some_intro}
use Rattle.theory.proofs.Order.{before_irrefl, sorted_head, sorted_tail}
use Rattle.theory.proofs.Sets.{within_le, within_refl}
use Rattle.theory.specs.Demands.{carries, contradicts}
use Rattle.theory.specs.Lists.{sorted_by}
use Rattle.theory.specs.Sets.{before, contains, within}
use Rattle.theory.specs.Stages.{Justification}

-- ---- what serves contains every smallest set

module _ (A : ℕ) (ok P : ℕ → Bool) (down : (F E : ℕ) → within F E ≡ true → ok E ≡ true → ok F ≡ true) (l : List ℕ) (serves : Serves A ok P l) where
  keeps : (F : ℕ) → F < 2 ^ A → ok F ≡ true → P F ≡ true → ((G : ℕ) → within G F ≡ true → P G ≡ true → G ≡ F) → Mem F l
  unfolding contains
  keeps F h c p least =
      let r = some_elim (λ G. within G F) l (serves F h c ∙ p) in
      let G : ℕ = r.0 in
      let low : G < 2 ^ A = omega (arith, within_le G F r.2) in
      let has : P G ≡ true = sym (serves G low (down G F r.2 c)) ∙ some_intro (λ K. within K G) r.1 (within_refl G) in
      subst (λ (x : ℕ). Mem x l) (least G r.2 has) r.1

-- ---- counting

-- l without one x
record Taken (x : ℕ) (l : List ℕ) : Type 0 where
  rest : List ℕ
  shorter : length l ≡ suc (length rest)
  others : (y : ℕ) → Mem y l → (y ≡ x → ⊥) → Mem y rest

taken : {x : ℕ} {l : List ℕ} → Mem x l → Taken x l
taken (here {x = z} {xs = l} e) = record { rest = l; shorter = refl; others = λ y m d. ⊎_elim (λ (q : y ≡ z). absurd (d (q ∙ sym e))) (λ k. k) (Memᴰ.cases_cons m) }
taken (there {x = z} {xs = l} m) =
    let t = taken m in
    record { rest = z ∷ t.rest; shorter = ap suc t.shorter; others = λ y k d. ⊎_elim (λ (q : y ≡ z). here q) (λ n. there (t.others y n d)) (Memᴰ.cases_cons k) }

apart : {x y : ℕ} {m : List ℕ} → (Mem x m → ⊥) → Mem y m → y ≡ x → ⊥
apart {m = m} f k e = f (subst (λ (z : ℕ). Mem z m) e k)

-- a list without repeats, all of whose members are in l, is no longer than l
no_longer : {m : List ℕ} → Unrepeated m → (l : List ℕ) → ((F : ℕ) → Mem F m → Mem F l) → length m ≤ length l
no_longer none l f = zero-le
no_longer (more {x = x} {l = m} n u) l f =
    let t = taken (f x (here refl)) in
    omega (arith, t.shorter, no_longer u t.rest (λ F k. t.others F (f F (there k)) (apart n k)))

-- .. and where it is as long, it has all of l
no_more : {m : List ℕ} → Unrepeated m → (l : List ℕ) → ((F : ℕ) → Mem F m → Mem F l) → length l ≡ length m → (F : ℕ) → Mem F l → Mem F m
no_more none [] f e F k = k
no_more none (y ∷ l) f e F k = absurd (omega arith)
no_more (more {x = x} {l = m} n u) l f e F k =
    let t = taken (f x (here refl)) in
    ⊎_elim (λ (h : eqb F x ≡ true). here (eqb-true F x h))
    (λ (h : eqb F x ≡ false). there (no_more u t.rest (λ G j. t.others G (f G (there j)) (apart n j)) (omega (arith, t.shorter)) F (t.others F k (λ (q : F ≡ x). clash (eq-eqb F x q) h))))
    (either (eqb F x))

-- a list in strict order has no repeats
sorted_unrepeated : (l : List ℕ) → sorted_by before l ≡ true → Unrepeated l
sorted_unrepeated [] o = none
sorted_unrepeated (x ∷ l) o = more (λ m. before_irrefl x (sorted_head before x o x m)) (sorted_unrepeated l (sorted_tail before x l o))

-- ---- a list of the smallest sets

shortest : (A : ℕ) (ok P : ℕ → Bool) (m : List ℕ) → ((F E : ℕ) → within F E ≡ true → ok E ≡ true → ok F ≡ true) → ((F : ℕ) → P F ≡ true → ok F ≡ true)
    → ListsSmallest A P m → Serves A ok P m → Shortest A ok P m
shortest A ok P m down fine lists own =
    let u : Unrepeated m = sorted_unrepeated m lists.order in
    let has : (l : List ℕ) → Serves A ok P l → (F : ℕ) → Mem F m → Mem F l = λ l s F k.
    let e = (lists.exactly F).0 k in
    keeps A ok P down l s F e.range (fine F e.has) e.has e.no_smaller in
    record {
      serves = own;
      unrepeated = u;
      contained = has;
      fewest = λ l s. no_longer u l (has l s);
      only = λ l s e F. (no_more u l (has l s) e F, has l s F);
    }

-- the same of tests that agree on the sets of A assumptions
module _ (A : ℕ) (ok P ok' P' : ℕ → Bool) (m : List ℕ) (same_ok : (E : ℕ) → E < 2 ^ A → ok' E ≡ ok E) (same-p : (E : ℕ) → E < 2 ^ A → P' E ≡ P E) where
  shortest_same : Shortest A ok P m → Shortest A ok' P' m
  shortest_same t =
      let there-too : (l : List ℕ) → Serves A ok' P' l → Serves A ok P l = λ l s E h c. s E h (same_ok E h ∙ c) ∙ same-p E h in
      record {
        serves = λ E h c. t.serves E h (sym (same_ok E h) ∙ c) ∙ sym (same-p E h);
        unrepeated = t.unrepeated;
        contained = λ l s. t.contained l (there-too l s);
        fewest = λ l s. t.fewest l (there-too l s);
        only = λ l s. t.only l (there-too l s);
      }

-- ---- made stores

consistent_down : (H : List Justification) (F E : ℕ) → within F E ≡ true → not (contradicts H E) ≡ true → not (contradicts H F) ≡ true
consistent_down H F E w c =
    ap not
    (not_so (contradicts H F)
    (λ h. let k = (contradicts_means H F).0 h in clash ((contradicts_means H E).1 (k.0, follows_more H k.0 F E zero w k.1)) (not-true (contradicts H E) c)))

module _ {A M : ℕ} {H : List Justification} {s : Store} (m : Made ours A M H s) where
  made_label : (n : ℕ) → n ≤ A + M → Shortest A (λ E. not (contradicts H E)) (λ E. carries H E n) (label_held s.lists n)
  made_label n l =
      shortest A (λ E. not (contradicts H E)) (λ E. carries H E n) (label_held s.lists n) (consistent_down H) (λ F c. ap not ((carries_means H F n).0 c).0) ((demand_2.tells m).label n l)
      (λ E h c.
      let f = made_form m in
      same_test (λ k. (form_carries f n E l h).1 (form_contradicts f E h ∙ not-true (contradicts H E) c, k)) (λ k. ((form_carries f n E l h).0 k).1))

  made_nogoods : Shortest A (λ E. true) (contradicts H) (nogoods_held s.lists)
  made_nogoods =
      shortest A (λ E. true) (contradicts H) (nogoods_held s.lists) (λ F E w c. refl) (λ F c. refl) (demand_2.tells m).nogoods (λ E h c. form_contradicts (made_form m) E h)

  -- what is seen of an answer
  seen : (n E : ℕ) → (a : Result Answer Reply) → QuestionSays A H n E a → (consistent a ≡ not (contradicts H E)) × (supports a ≡ carries H E n)
  seen n E (Ok (Inconsistent G)) w = (ap not (sym w.0), sym (not_so (carries H E n) (λ k. clash w.0 ((carries_means H E n).0 k).0)))
  seen n E (Ok (Supported F)) w = (ap not (sym ((carries_means H E n).0 w.0).0), sym w.0)
  seen n E (Ok Unsupported) w = (ap not (sym w.0), sym w.1)
  seen n E (Err r) w = absurd w

  seen_asked : (n E : ℕ) → n ≤ A + M → E < 2 ^ A → (consistent (asked ours s n E) ≡ not (contradicts H E)) × (supports (asked ours s n E) ≡ carries H E n)
  seen_asked n E l h = seen n E (asked ours s n E) (((demand_2.tells m).question n E l h (asked ours s n E)).0 refl)

  twice_not : (b c : Bool) → b ≡ not c → not b ≡ c
  twice_not b true e = ap not e
  twice_not b false e = ap not e

pub nothing_shorter : NothingShorter ours
nothing_shorter = record {
  label = made_label;
  nogoods = made_nogoods;
  label_asked = λ {A = A} {H = H} {s = s} m n l.
      shortest_same A (λ E. not (contradicts H E)) (λ E. carries H E n) (λ E. consistent (asked ours s n E)) (λ E. supports (asked ours s n E)) (label_held s.lists n)
      (λ E h. (seen_asked m n E l h).0) (λ E h. (seen_asked m n E l h).1) (made_label m n l);
  nogoods_asked = λ {A = A} {H = H} {s = s} m.
      shortest_same A (λ E. true) (contradicts H) (λ E. true) (λ E. not (consistent (asked ours s 0 E))) (nogoods_held s.lists) (λ E h. refl)
      (λ E h. twice_not m (consistent (asked ours s 0 E)) (contradicts H E) (seen_asked m 0 E zero-le h).0) (made_nogoods m);
}
