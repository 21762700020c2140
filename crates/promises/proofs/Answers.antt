-- The answers of question, context, member and the lines on a made store, over what was put in. Assumes nothing.
use Rattle.replies.specs.declared.Reply.{Reply}
use Rattle.std.specs.Prelude.{Option, Some, None, Result, Ok, Err}
use mathlib.Core.Bool.{Bool, ◌&&◌, false, not, true}
use mathlib.Core.List.Memᴰ.{head as here}
use mathlib.Core.List.Memᴰ.{tail as there}
use mathlib.Core.List.{List, Memᴰ as Mem, [], ◌++◌, ◌∷◌}
use mathlib.Core.Logic.{◌↔◌, ⊎_elim}
use mathlib.Core.Path.{◌∙◌, ◌≡◌, ap, ap₂, refl, subst, sym}
use Prim.Native.Nat.{◌+◌, ◌<◌, ◌^◌, ◌≤◌, suc, zero, ℕ}
use native.Mathlib.Nat.{le_of_suc-le-suc}
use native.Mathlib.Omega.{arith}
use lib.Dec.{eqb, ltb}
use lib.ListN.{drop, length}
use borrow.Author.Tests.{ne_eqb}
use Rattle.asking.specs.Asking.{byte_of, first_in, member_at, member_of, question_of, reasoned, standing}
use Rattle.asking.specs.declared.Answer.{Answer}
use Rattle.asking.specs.declared.Answer.TheVariants.{Inconsistent, Supported, Unsupported}
use Rattle.lines.specs.Lines.{case_text, line_text}
use Rattle.wording.specs.Wording.{line_with, word_of}
use Rattle.promises.proofs.Form.{Form, form_a, form_count, form_m}
use Rattle.promises.proofs.Naming.{first_one, named_first, named_within, none_within}
use Rattle.promises.proofs.Right.{form_right}
use Rattle.promises.proofs.Rows.{less_test, passes, test_off}
use Rattle.promises.proofs.Standing.{as_they_stand}
use Rattle.promises.proofs.Telling.{form_carries, form_contradicts, form_from_all, form_label, form_nogoods}
use Rattle.promises.specs.Calls.{Read, case_line, context, line, list_all, ours, over, question, read_of, reads, written}
use Rattle.promises.specs.Demand2.{ListsSmallest, QuestionSays, at_place, byte_by, carried_by, contradicted_by, first_text, listed_for, text_of, whole_text, word_by}
use Rattle.promises.specs.Standing.{Stands}
use Rattle.promises.specs.Table.{Outside}
use Rattle.replies.specs.declared.Reply.TheVariants.{Done}
use Rattle.stages.proofs.Tables.{table_same}
use Rattle.store.specs.Reading.{contradicted_in, held_from_all, label_held, list_held, nogoods_held}
use Rattle.store.specs.Shape.{top}
use Rattle.store.specs.declared.Store.{Store}
use Rattle.text.specs.Texts.{heading, row, word}
use Rattle.theory.proofs.Demands.{carries_means}
use Rattle.theory.proofs.Listing.{below_elim, listing_elim, listing_intro}
use Rattle.theory.proofs.Lists.{clash, not_so, some_elim, some_intro}
use Rattle.theory.specs.Demands.{carries, contradicts, follows_from_all}
use Rattle.theory.specs.Limits.{limits}
use Rattle.theory.specs.Places.{table}
use Rattle.theory.specs.Sets.{contains, listing}
use Rattle.theory.specs.Stages.{Justification}
use Rattle.listing.specs.Listing.{lines_below, listing_text}
use Rattle.theory.specs.Lists.{choose, each, numbers_below, some_of}

each_same : (f g : ℕ → List ℕ) (l : List ℕ) → ((n : ℕ) → Mem n l → f n ≡ g n) → each f l ≡ each g l
unfolding each
each_same f g [] h = refl
each_same f g (x ∷ l) h = ap₂ (λ (a b : List ℕ). a ++ b) (h x (here refl)) (each_same f g l (λ n m. h n (there m)))

-- ---- the answer over what was put in

module _ (A : ℕ) (H : List Justification) (n E : ℕ) where
  -- c telling whether the line would say `contradicted`
  pub byte_says : (c : Bool) (a : Answer) → QuestionSays A H n E (Ok a) → byte_of c a ≡ choose (contradicts H E) 2 (choose (carries H E n) 1 (choose c 3 0))
  byte_says b (Inconsistent G) h = let c : contradicts H E ≡ true = h.0 in rw c
  byte_says b (Supported F) h = let k : carries H E n ≡ true = h.0 in let c : contradicts H E ≡ false = ((carries_means H E n).0 k).0 in rw (c, k)
  byte_says b Unsupported h = let c : contradicts H E ≡ false = h.0 in let k : carries H E n ≡ false = h.1 in rw (c, k)

  -- one answer is right
  pub says_one : (a b : Result Answer Reply) → QuestionSays A H n E a → QuestionSays A H n E b → a ≡ b
  says_one (Ok (Inconsistent F)) (Ok (Inconsistent G)) p q = ap (λ (x : ℕ). Ok (Inconsistent x)) (first_one F G p.1 q.1)
  says_one (Ok (Inconsistent F)) (Ok (Supported G)) p q = clash p.0 ((carries_means H E n).0 q.0).0
  says_one (Ok (Inconsistent F)) (Ok Unsupported) p q = clash p.0 q.0
  says_one (Ok (Supported F)) (Ok (Inconsistent G)) p q = clash q.0 ((carries_means H E n).0 p.0).0
  says_one (Ok (Supported F)) (Ok (Supported G)) p q = ap (λ (x : ℕ). Ok (Supported x)) (first_one F G p.1 q.1)
  says_one (Ok (Supported F)) (Ok Unsupported) p q = clash p.0 q.1
  says_one (Ok Unsupported) (Ok (Inconsistent G)) p q = clash q.0 p.0
  says_one (Ok Unsupported) (Ok (Supported G)) p q = clash q.0 p.1
  says_one (Ok Unsupported) (Ok Unsupported) p q = refl
  says_one (Ok (Inconsistent F)) (Err r) p q = absurd q
  says_one (Ok (Supported F)) (Err r) p q = absurd q
  says_one (Ok Unsupported) (Err r) p q = absurd q
  says_one (Err r) b p q = absurd p

-- ---- a made store

module _ {A M : ℕ} {H : List Justification} {s : Store} (f : Form A M H s) where
  abbrev bad : List ℕ
  bad = nogoods_held s.lists

  pub standing_says : (n E : ℕ) → n ≤ A + M → E < 2 ^ A → QuestionSays A H n E (Ok (standing s.lists n E))
  unfolding standing
  standing_says n E l h = go (first_in bad E) (first_in (label_held s.lists n) E) refl refl
    where
      go : (g m : Option ℕ) → first_in bad E ≡ g → first_in (label_held s.lists n) E ≡ m → QuestionSays A H n E (Ok (reasoned g m))
      go (Some G) m p q = (sym (form_contradicts f E h) ∙ named_within (form_nogoods f) E p, named_first (form_nogoods f) E p)
      go None (Some F) p q = ((form_carries f n E l h).1 (none_within bad E p, named_within (form_label f n l) E q), named_first (form_label f n l) E q)
      go None None p q = (sym (form_contradicts f E h) ∙ none_within bad E p, not_so (carries H E n) (λ k. clash ((form_carries f n E l h).0 k).1 (none_within (label_held s.lists n) E q)))

  -- a label is empty exactly where no set carries its number
  carried_some : (i : ℕ) → suc i ≤ A + M → (F : ℕ) (l : List ℕ) → label_held s.lists (suc i) ≡ F ∷ l → carried_by A H (suc i) ≡ true
  unfolding carried_by
  carried_some i h F l e =
      let k = ((form_label f (suc i) h).exactly F).0 (subst (Mem F) (sym e) (here refl)) in
      some_intro (λ E. carries H E (suc i)) (listing_intro A k.range) k.has

  carried_none : (i : ℕ) → suc i ≤ A + M → label_held s.lists (suc i) ≡ [] → carried_by A H (suc i) ≡ false
  unfolding carried_by contains some_of
  carried_none i h e =
      not_so (carried_by A H (suc i)) (λ c.
      let w = some_elim (λ E. carries H E (suc i)) (listing A) c in
      clash (sym (ap (λ (l : List ℕ). contains l w.0) e) ∙ ((form_carries f (suc i) w.0 h (listing_elim A w.1)).0 w.2).1) refl)

  word_by_lem : (n : ℕ) → n ≤ A + M → word_of n (list_held s.lists n) (held_from_all s n) ≡ word_by A H n
  unfolding word_of word_by
  word_by_lem zero h = refl
  word_by_lem (suc i) h = go (label_held s.lists (suc i)) refl
    where
      go : (l : List ℕ) → label_held s.lists (suc i) ≡ l → word_of (suc i) (label_held s.lists (suc i)) (held_from_all s (suc i)) ≡ word_by A H (suc i)
      go [] e =
          ap₂ (word_of (suc i)) e (form_from_all f (suc i))
          ∙ sym (ap (λ (b : Bool). choose b (word " supported") (choose (follows_from_all A H (suc i)) (word " contradicted") (word " unsupported"))) (carried_none i h e))
      go (F ∷ l) e =
          ap (λ (x : List ℕ). word_of (suc i) x (held_from_all s (suc i))) e
          ∙ sym (ap (λ (b : Bool). choose b (word " supported") (choose (follows_from_all A H (suc i)) (word " contradicted") (word " unsupported"))) (carried_some i h F l e))

  pub contradicted_by_lem : (n : ℕ) → n ≤ A + M → contradicted_in s n ≡ contradicted_by A H n
  unfolding contradicted_by
  contradicted_by_lem zero h = refl
  contradicted_by_lem (suc i) h = go (label_held s.lists (suc i)) refl
    where
      go : (l : List ℕ) → label_held s.lists (suc i) ≡ l → contradicted_in s (suc i) ≡ contradicted_by A H (suc i)
      go [] e =
          ap₂ (λ (x : List ℕ) (c : Bool). eqb (length x) 0 && c) e (form_from_all f (suc i)) ∙ sym (ap (λ (b : Bool). not b && follows_from_all A H (suc i)) (carried_none i h e))
      go (F ∷ l) e =
          ap (λ (b : Bool). b && held_from_all s (suc i)) (ap (λ (x : List ℕ). eqb (length x) 0) e ∙ ne_eqb (length (F ∷ l)) 0 (λ z. absurd (omega arith)))
          ∙ sym (ap (λ (b : Bool). not b && follows_from_all A H (suc i)) (carried_some i h F l e))

  pub standing_byte : (n E : ℕ) → n ≤ A + M → E < 2 ^ A → byte_of (contradicted_in s n) (standing s.lists n E) ≡ byte_by A H E n
  standing_byte n E l h = ap (λ (c : Bool). byte_of c (standing s.lists n E)) (contradicted_by_lem n l) ∙ byte_says A H n E (contradicted_by A H n) (standing s.lists n E) (standing_says n E l h)

  tops : top s.held ≡ A + M
  tops = ap₂ (λ (a m : ℕ). a + m) (form_a f) (form_m f)

  pub in_set : (E : ℕ) → E < 2 ^ A → Outside s E → ⊥
  in_set E h o = not_below E (2 ^ s.held.assumptions) o (subst (λ (a : ℕ). E < 2 ^ a) (sym (form_a f)) h)
    where
      not_below : (a b : ℕ) → b ≤ a → a < b → ⊥
      not_below a b p q = omega arith

  in_top : (n : ℕ) → n ≤ A + M → top s.held < n → ⊥
  in_top n h k = omega (arith, tops)

  -- the lists are read as they stand
  abbrev stand : Stands ours s
  stand = as_they_stand.stands s (form_right f)

  -- ---- question

  pub question_by : (n E : ℕ) → n ≤ A + M → E < 2 ^ A → question_of s n E ≡ Ok (standing s.lists n E)
  question_by n E l h = ap (λ (r : Read (question n E)). r.said) (stand.reading (question n E) (passes ℕ _ _ 0 _ (⊎_elim (in_top n l) (in_set E h)) refl))

  pub form_question : (n E : ℕ) → n ≤ A + M → E < 2 ^ A → (a : Result Answer Reply) → (question_of s n E ≡ a) ↔ QuestionSays A H n E a
  form_question n E l h a =
      let e = question_by n E l h in
      let w = standing_says n E l h in
      (λ q. subst (QuestionSays A H n E) (sym e ∙ q) w, λ q. e ∙ says_one A H n E (Ok (standing s.lists n E)) a w q)

  -- ---- context

  bytes_by : (E : ℕ) → E < 2 ^ A → table (A + M + 1) (λ n. byte_of (contradicted_in s n) (standing s.lists n E)) ≡ table (A + M + 1) (byte_by A H E)
  bytes_by E h = table_same (A + M + 1) (λ n. byte_of (contradicted_in s n) (standing s.lists n E)) (byte_by A H E) 0 (λ n p. standing_byte n E (omega arith) h)

  pub form_context : (E : ℕ) (out : List ℕ) → E < 2 ^ A → A + M + 1 ≤ length out → read_of s (context E out) ≡ reads (context E out) Done s (table (A + M + 1) (byte_by A H E) ++ drop (A + M + 1) out)
  form_context E out h k =
      stand.reading (context E out) (passes ℕ _ _ 0 _ (in_set E h) (passes ℕ _ _ 0 _ (λ z. omega (arith, tops)) refl))
      ∙ ap (λ (n : ℕ). reads (context E out) Done s (table (n + 1) (λ i. byte_of (contradicted_in s i) (standing s.lists i E)) ++ drop (n + 1) out)) tops
      ∙ ap (λ (l : List ℕ). reads (context E out) Done s (l ++ drop (A + M + 1) out)) (bytes_by E h)

  -- ---- member

  list_smallest : (n : ℕ) → n ≤ A + M → ListsSmallest A (listed_for H n) (list_held s.lists n)
  list_smallest zero h = form_nogoods f
  list_smallest (suc i) h = form_label f (suc i) h

  -- at a place of the list the member, else 16
  pub member_by : (n place : ℕ) → n ≤ A + M → member_of s n place ≡ at_place (list_held s.lists n) place
  unfolding member_of member_at
  member_by n place h = let r = form_right f in let k = test_off (ltb (top s.held) n) (less_test (top s.held) n) (in_top n h) in rw (r, k)

  pub form_member : (n : ℕ) → n ≤ A + M → (l : List ℕ) × ListsSmallest A (listed_for H n) l × ((place : ℕ) → member_of s n place ≡ at_place l place)
  form_member n h = (list_held s.lists n, list_smallest n h, λ place. member_by n place h)

  -- ---- lines

  pub line_text_lem : (n : ℕ) → n ≤ A + M → line_text s n ≡ text_of A H n (list_held s.lists n)
  unfolding line_text line_with
  line_text_lem n h = ap (λ (w : List ℕ). row limits.assumptions n w (list_held s.lists n)) (word_by_lem n h)

  pub line_by : (n : ℕ) → n ≤ A + M → (out : List ℕ) → length (text_of A H n (list_held s.lists n)) ≤ length out
      → read_of s (line n out) ≡ reads (line n out) (written (text_of A H n (list_held s.lists n))) s (over (text_of A H n (list_held s.lists n)) out)
  line_by n h out k =
      stand.reading (line n out) (passes ℕ _ _ 0 _ (in_top n h) (passes ℕ _ _ 0 _ (λ z. omega (arith, ap length (line_text_lem n h))) refl))
      ∙ ap (λ (t : List ℕ). reads (line n out) (written t) s (over t out)) (line_text_lem n h)

  pub form_line : (n : ℕ) → n ≤ A + M → (l : List ℕ) × ListsSmallest A (listed_for H n) l
      × ((out : List ℕ) → length (text_of A H n l) ≤ length out → read_of s (line n out) ≡ reads (line n out) (written (text_of A H n l)) s (over (text_of A H n l) out))
  form_line n h = (list_held s.lists n, list_smallest n h, line_by n h)

  case_text_lem : case_text s ≡ first_text A M H s
  unfolding case_text
  case_text_lem = ap₂ (λ (a m : ℕ). heading a m s.held.count s.lists.depth) (form_a f) (form_m f) ∙ ap (λ (k : ℕ). heading A M k s.lists.depth) (form_count f)

  pub form_heading : (out : List ℕ) → length (first_text A M H s) ≤ length out → read_of s (case_line out) ≡ reads (case_line out) (written (first_text A M H s)) s (over (first_text A M H s) out)
  form_heading out h =
      stand.reading (case_line out) (passes ℕ _ _ 0 _ (λ z. omega (arith, ap length case_text_lem)) refl) ∙ ap (λ (t : List ℕ). reads (case_line out) (written t) s (over t out)) case_text_lem

  -- ---- the whole listing

  whole_text_lem : listing_text s ≡ whole_text A M H s (list_held s.lists)
  unfolding listing_text lines_below
  whole_text_lem =
      ap₂ (λ (t : List ℕ) (k : ℕ). t ++ each (line_text s) (numbers_below (suc k))) case_text_lem tops
      ∙ ap (λ (t : List ℕ). first_text A M H s ++ t) (each_same (line_text s) (λ n. text_of A H n (list_held s.lists n)) (numbers_below (suc (A + M))) (λ n m. line_text_lem n (le_of_suc-le-suc (below_elim (suc (A + M)) m))))

  pub form_listing : (l : ℕ → List ℕ) × ((n : ℕ) → n ≤ A + M → ListsSmallest A (listed_for H n) (l n))
      × ((out : List ℕ) → length (whole_text A M H s l) ≤ length out → read_of s (list_all out) ≡ reads (list_all out) (written (whole_text A M H s l)) s (over (whole_text A M H s l) out))
  form_listing = (
    list_held s.lists,
    list_smallest,
    λ out h.
        stand.reading (list_all out) (passes ℕ _ _ 0 _ (λ z. omega (arith, ap length whole_text_lem)) refl) ∙ ap (λ (t : List ℕ). reads (list_all out) (written t) s (over t out)) whole_text_lem,
  )
