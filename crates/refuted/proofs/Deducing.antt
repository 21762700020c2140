-- A question that works the lists out anew from the justifications is right of every made store, and refuses as ours does: the demands over made stores do not tell it from ours. Assumes nothing.
use Rattle.std.specs.Prelude.{Result, Ok}
use mathlib.Core.Bool.{Bool, false, true}
use mathlib.Core.List.{List}
use mathlib.Core.Logic.{◌↔◌, inl, inr, ⊎_elim}
use mathlib.Core.Path.{◌∙◌, ◌≡◌, ap, ap₂, refl, subst, sym}
use Prim.Native.Nat.{◌+◌, ◌<◌, ◌^◌, ◌≤◌, ℕ}
use native.Mathlib.Omega.{arith}
use lib.Dec.{eqb, ltb}
use borrow.Author.Tests.{eqb-true, ltb-false, ltb-true}
use Rattle.asking.specs.Asking.{answer_number, question_of, standing}
use Rattle.asking.specs.declared.Answer.{Answer}
use Rattle.promises.proofs.Answers.{question_by}
use Rattle.promises.proofs.Form.{Form, form_a, form_m, form_said, made_form, made_holds}
use Rattle.promises.proofs.Keeping.{read_store}
use Rattle.promises.proofs.Plain.{plain_path}
use Rattle.promises.proofs.Refusals.{refusals}
use Rattle.promises.proofs.Right.{made_no_own, made_right, own_shape}
use Rattle.promises.proofs.Rows.{passed}
use Rattle.promises.proofs.Sameness.{demand_3, one_store}
use Rattle.promises.proofs.Season.{one_by_one}
use Rattle.promises.proofs.Table.{reply_table, standing_zero}
use Rattle.promises.proofs.Truth.{demand_2}
use Rattle.promises.specs.Calls.{Ask, lent_to, list_all, number_said, ours, question, read_of}
use Rattle.promises.specs.Demand1.{Refusals}
use Rattle.promises.specs.Demand2.{Demand2, QuestionSays, Tells}
use Rattle.promises.specs.Demand3.{Demand3}
use Rattle.promises.specs.Made.{Made, Stores, added, asked, judged, kept, listed, loaded, opened, refused, unlisted, withdrawn}
use Rattle.promises.specs.Plain.{PlainPath, word_alone}
use Rattle.promises.specs.Season.{OneByOne}
use Rattle.promises.specs.Table.{AskRows, ReplyTable}
use Rattle.refuted.proofs.Exchange.{by_question}
use Rattle.refuted.specs.Wrong.{deducing, worked_out}
use Rattle.rules.specs.Held.{said_by}
use Rattle.stages.specs.declared.Lists.{Lists}
use Rattle.store.specs.Calls.{is_done, no_store, store_of}
use Rattle.store.specs.Shape.{top}
use Rattle.store.specs.declared.Outcome.{Outcome}
use Rattle.store.specs.declared.Store.{Store}
use Rattle.theory.specs.Limits.{file_bytes}
use Rattle.theory.specs.Lists.{choose}
use Rattle.theory.specs.Stages.{Justification}
use lib.ListN.{length}
use Rattle.lent.specs.Lent.{Wrote, written_number}
use Rattle.casefile.specs.Load.{load_of}
use Rattle.replies.proofs.Laws.{zero_done}
use Rattle.replies.specs.Replies.{number_of}
use Rattle.replies.specs.declared.Reply.{Reply}
use Rattle.replies.specs.declared.Reply.TheVariants.{Long}
use Rattle.theory.proofs.Lists.{clash, either}

-- the question of this program
abbrev asks : Store → ℕ → ℕ → Result Answer Reply
asks s n E = choose (eqb (answer_number (question_of s n E)) 0) (Ok (worked_out s.held n E)) (question_of s n E)

abbrev again : Store → Lists
again s = (store_of no_store s.held.assumptions s.held.claims (said_by s.held)).store.lists

its_store : (s : Store) (a : Ask) → (deducing.reading s a).store ≡ s
its_store s = by_question asks read_of s (λ a x. x.store ≡ s) (read_store s) (λ n E. refl)

-- the calls make the same stores
module _ {A M : ℕ} where
  made_ours : {H : List Justification} {s : Store} → Made deducing A M H s → Made ours A M H s
  made_ours (opened e) = opened e
  made_ours (loaded bytes f e a m r k) = loaded bytes f e a m r k
  made_ours (judged h a m e) = judged h a m e
  made_ours (added c l m e) = added c l (made_ours m) e
  made_ours (refused c l r m e n) = refused c l r (made_ours m) e n
  made_ours (listed l out after m e) = listed l out after (made_ours m) e
  made_ours (unlisted l out after r m e n) = unlisted l out after r (made_ours m) e n
  made_ours (withdrawn c l m e) = withdrawn c l (made_ours m) e
  made_ours (kept c l r m e n) = kept c l r (made_ours m) e n
  made_ours (asked {s = s} a m e) = asked a (made_ours m) (read_store s a ∙ sym (its_store s a) ∙ e)

-- ---- it prints what ours prints

prints_ours : (bytes out : List ℕ) → deducing.printing bytes out ≡ ours.printing bytes out
prints_ours bytes out =
    ⊎_elim (λ (h : ltb file_bytes (length bytes) ≡ true). ap (λ (b : Bool). choose b long rest) h ∙ sym (demand_2.prints_long bytes out (ltb-true file_bytes (length bytes) h)))
    (λ (h : ltb file_bytes (length bytes) ≡ false).
    let few : length bytes ≤ file_bytes = ltb-false file_bytes (length bytes) h in
    ap (λ (b : Bool). choose b long rest) h
    ∙ ⊎_elim (λ (d : is_done r ≡ true). ap (λ (b : Bool). choose b listed refusal) d ∙ sym (demand_2.prints_listed bytes out few (zero_done r (eqb-true (number_of r) 0 d))))
    (λ (d : is_done r ≡ false). ap (λ (b : Bool). choose b listed refusal) d ∙ sym (demand_2.prints_refused bytes out few (λ e. clash (ap is_done e) d)))
    (either (is_done r)))
    (either (ltb file_bytes (length bytes)))
  where
    r : Reply
    r = (load_of bytes).reply

    long : Wrote
    long = ours.refusal Long 0 out

    listed : Wrote
    listed = record { answer = (read_of (load_of bytes).store (list_all out)).said; bytes = (read_of (load_of bytes).store (list_all out)).bytes }

    refusal : Wrote
    refusal = ours.refusal r (load_of bytes).«record» out

    rest : Wrote
    rest = choose (is_done r) listed refusal

-- ---- its refusals are ours

same_number : (s : Store) (n E : ℕ) → answer_number (asks s n E) ≡ answer_number (question_of s n E)
same_number s n E = go (question_of s n E) (eqb (answer_number (question_of s n E)) 0) refl
  where
    go : (q : Result Answer Reply) (b : Bool) → eqb (answer_number q) 0 ≡ b → answer_number (choose b (Ok (worked_out s.held n E)) q) ≡ answer_number q
    go q true e = standing_zero (again s) n E ∙ sym (eqb-true (answer_number q) 0 e)
    go q false e = refl

read_rows : (s : Store) (q : Ask) (a : ℕ) → (number_said q (deducing.reading s q).said ≡ a) ↔ AskRows s q a
read_rows s =
    by_question asks read_of s (λ q x. (a : ℕ) → (number_said q x.said ≡ a) ↔ AskRows s q a) (reply_table.reading s)
    (λ n E a. let r = reply_table.reading s (question n E) a in (λ e. r.0 (sym (same_number s n E) ∙ e), λ w. same_number s n E ∙ r.1 w))

its_table : ReplyTable deducing
its_table = record {
  opening = reply_table.opening;
  adding = reply_table.adding;
  adding_all = reply_table.adding_all;
  withdrawing = reply_table.withdrawing;
  reading = read_rows;
  loading = reply_table.loading;
  judging = reply_table.judging;
  shape = reply_table.shape;
  refusal = reply_table.refusal;
  printing = λ bytes out a.
      let r = reply_table.printing bytes out a in
      let e : written_number (deducing.printing bytes out).answer ≡ written_number (ours.printing bytes out).answer = ap (λ (w : Wrote). written_number w.answer) (prints_ours bytes out) in
      (λ q. r.0 (sym e ∙ q), λ w. e ∙ r.1 w);
  bare = reply_table.bare;
  decoding = reply_table.decoding;
  onward = reply_table.onward;
  adding_names = reply_table.adding_names;
  withdrawing_names = reply_table.withdrawing_names;
  loading_names = reply_table.loading_names;
  no_ten = reply_table.no_ten;
  judging_names = reply_table.judging_names;
}

pub refusals_too : Refusals deducing
refusals_too = record {
  table = its_table;
  opening = refusals.opening;
  loading = refusals.loading;
  judging = refusals.judging;
  adding = refusals.adding;
  adding_all = refusals.adding_all;
  adding_bytes = refusals.adding_bytes;
  withdrawing = refusals.withdrawing;
  reading = its_store;
  bytes = λ s. by_question asks read_of s (λ a x. (number_said a x.said ≡ 0 → ⊥) → x.bytes ≡ lent_to a) (refusals.bytes s) (λ n E k. refl);
  refusal_bytes = refusals.refusal_bytes;
  bare_bytes = refusals.bare_bytes;
  bare_kind = refusals.bare_kind;
  bare_done = refusals.bare_done;
  bare_said = refusals.bare_said;
  printing_bytes = λ bytes out k.
      ap (λ (w : Wrote). w.bytes) (prints_ours bytes out)
      ∙ refusals.printing_bytes bytes out (λ z. k (ap (λ (w : Wrote). written_number w.answer) (prints_ours bytes out) ∙ z));
}

-- ---- its answers on made stores are ours

-- worked out anew, the lists are those that the store has
pub lists_again : {A M : ℕ} {H : List Justification} {s : Store} → Form A M H s → (store_of no_store s.held.assumptions s.held.claims (said_by s.held)).store.lists ≡ s.lists
lists_again {A} {M} {s = s} f =
    ap₂ (λ (a m : ℕ). (store_of no_store a m (said_by s.held)).store.lists) (form_a f) (form_m f)
    ∙ ap (λ (J : List Justification). (store_of no_store A M J).store.lists) (form_said f) ∙ ap (λ (o : Outcome). o.store.lists) f.store

same_answer : {A M : ℕ} {H : List Justification} {s : Store} → Made ours A M H s → (n E : ℕ) → n ≤ A + M → E < 2 ^ A → asks s n E ≡ question_of s n E
same_answer {s = s} m n E l h =
    ap (λ (x : Result Answer Reply). choose (eqb (answer_number (question_of s n E)) 0) x (question_of s n E)) (ap (λ (x : Lists). Ok (standing x n E)) (lists_again (made_form m)) ∙ sym (question_by (made_form m) n E l h))
    ∙ either_way (eqb (answer_number (question_of s n E)) 0) (question_of s n E)
  where
    either_way : (b : Bool) (q : Result Answer Reply) → choose b q q ≡ q
    either_way true q = refl
    either_way false q = refl

its_question : {A M : ℕ} {H : List Justification} {s : Store} → Made ours A M H s → (n E : ℕ) → n ≤ A + M → E < 2 ^ A → (a : Result Answer Reply) → (asks s n E ≡ a) ↔ QuestionSays A H n E a
its_question m n E l h a =
    let r = (demand_2.tells m).question n E l h a in
    let e = same_answer m n E l h in
    (λ q. r.0 (sym e ∙ q), λ q. e ∙ r.1 q)

its_telling : {A M : ℕ} {H : List Justification} {s : Store} → Made ours A M H s → Tells deducing A M H s
its_telling m =
    let t = demand_2.tells m in
    record {
      question = its_question m;
      context = t.context;
      label = t.label;
      nogoods = t.nogoods;
      member = t.member;
      line = t.line;
      case_line = t.case_line;
      listing = t.listing;
      depth = t.depth;
      depth_most = t.depth_most;
      label_at_lem = t.label_at_lem;
      nogoods_at_lem = t.nogoods_at_lem;
      later = t.later;
      adding = t.adding;
      withdrawing = t.withdrawing;
    }

pub demand_2_too : Demand2 deducing
demand_2_too = record { opens = demand_2.opens; loads = demand_2.loads; tells = λ m. its_telling (made_ours m); prints_long = λ bytes out h. prints_ours bytes out ∙ demand_2.prints_long bytes out h; prints_refused = λ bytes out h n. prints_ours bytes out ∙ demand_2.prints_refused bytes out h n; prints_listed = λ bytes out h d. prints_ours bytes out ∙ demand_2.prints_listed bytes out h d }

pub demand_3_too : Demand3 deducing
demand_3_too = record {
  put_in_lem = λ p q m. one_store deducing (demand_3.put_in_lem (made_ours p) (made_ours q) m).store;
  held = λ p q m. one_store deducing (demand_3.held (made_ours p) (made_ours q) m).store;
  any_order = λ p q o. one_store deducing (demand_3.any_order (made_ours p) (made_ours q) o).store;
  two_orders = λ c d l m p a b e f. one_store deducing (demand_3.two_orders c d l m (made_ours p) a b e f).store;
  two_lists = λ l m out others after later p q e f h. one_store deducing (demand_3.two_lists l m out others after later (made_ours p) (made_ours q) e f h).store;
  repeated = λ c l p d m. demand_3.repeated c l (made_ours p) d m;
  from_file = λ bytes f e r m h. one_store deducing (demand_3.from_file bytes f e r (made_ours m) h).store;
  two_files = λ bytes others f g p q a m e. let o = demand_3.two_files bytes others f g p q a m e in (o.0, λ r. one_store deducing (o.1 r).store);
  same_print = λ bytes others f g p q few less a m e w out. prints_ours bytes out ∙ demand_3.same_print bytes others f g p q few less a m e w out ∙ sym (prints_ours others out);
  in_between = λ p q. one_store deducing (demand_3.in_between (made_ours p) (made_ours q)).store;
  undone = λ c l p e k. demand_3.undone c l (made_ours p) e k;
  redone = λ c l p e k. demand_3.redone c l (made_ours p) e k;
}

pub stores_too : Stores deducing
stores_too = record { holds = λ m. made_holds (made_ours m); no_own = λ m. made_no_own (made_ours m); own_wrong = own_shape; right = λ m. made_right (made_ours m) }

pub one_by_one_too : OneByOne deducing
one_by_one_too = record { one_by_one = one_by_one.one_by_one; few = one_by_one.few; many = one_by_one.many }

-- of every number and every set, refused ones too
same_question : {A M : ℕ} {H : List Justification} {s : Store} → Made ours A M H s → (n E : ℕ) → asks s n E ≡ question_of s n E
same_question {A} {M} {s = s} m n E = go (eqb (answer_number (question_of s n E)) 0) refl
  where
    go : (b : Bool) → eqb (answer_number (question_of s n E)) 0 ≡ b → choose b (Ok (worked_out s.held n E)) (question_of s n E) ≡ question_of s n E
    go true e =
        let f = made_form m in
        let rows = passed _ _ _ ((reply_table.reading s (question n E) 0).0 (eqb-true (answer_number (question_of s n E)) 0 e)) (λ z. omega arith) in
        let no = passed _ _ _ rows.1 (λ z. omega arith) in
        let tops : top s.held ≡ A + M = ap₂ (λ (a c : ℕ). a + c) (form_a f) (form_m f) in
        let low : n ≤ A + M = at_most (top s.held) (A + M) n tops (λ k. no.0 (inl k)) in
        let small : E < 2 ^ A = subst (λ (a : ℕ). E < 2 ^ a) (form_a f) (under (2 ^ s.held.assumptions) E (λ k. no.0 (inr k))) in
        ap (λ (x : Lists). Ok (standing x n E)) (lists_again f) ∙ sym (question_by f n E low small)
      where
        at_most : (t k x : ℕ) → t ≡ k → (t < x → ⊥) → x ≤ k
        at_most t k x p q = omega (arith, p, q)

        under : (w x : ℕ) → (w ≤ x → ⊥) → x < w
        under w x q = omega (arith, q)
    go false e = refl

pub plain_path_too : PlainPath deducing
plain_path_too = record {
  replies = λ m n E. plain_path.replies (made_ours m) n E ∙ ap word_alone (sym (same_question (made_ours m) n E));
  context_reply_lem = λ m E out. plain_path.context_reply_lem (made_ours m) E out;
  context_bytes_lem = λ m E out h k. plain_path.context_bytes_lem (made_ours m) E out h k;
  says = λ m n E l h. plain_path.says (made_ours m) n E l h;
  lines = λ m E out h k. plain_path.lines (made_ours m) E out h k;
  enough = λ m E. plain_path.enough (made_ours m) E;
  enough_held = plain_path.enough_held;
  enough_bare = plain_path.enough_bare;
  bare = plain_path.bare;
  bare_question = λ m l d w n E out. plain_path.bare_question (made_ours m) l d w n E out;
  bare_context = λ m l d w E out. plain_path.bare_context (made_ours m) l d w E out;
  bare_lines = λ m l d w E out. plain_path.bare_lines (made_ours m) l d w E out;
}
