-- On every made store the plain path answers as the labels do, and so does a bare list of what was put in. Assumes nothing.
use Rattle.std.specs.Prelude.{Result, Ok, Err}
use Rattle.replies.specs.Replies.{checked}
use mathlib.Core.Bool.{Bool, ◌||◌, false, not, true}
use mathlib.Core.List.{List, ◌++◌}
use mathlib.Core.Logic.{⊎_elim}
use mathlib.Core.Path.{◌∙◌, ◌≡◌, ap, ap₂, refl, subst, sym}
use Prim.Native.Nat.{◌+◌, ◌<◌, ◌^◌, ◌≤◌, suc, zero, ℕ}
use native.Mathlib.Omega.{arith}
use lib.Dec.{ltb}
use lib.ListN.{get_or-append, drop, get_or, length}
use borrow.Author.Tests.{le-ltb, lt-ltb, ltb-false, ltb-true}
use Rattle.asking.specs.Asking.{context_reply, question_of, standing}
use Rattle.asking.specs.declared.Answer.{Answer}
use Rattle.asking.specs.declared.Answer.TheVariants.{Inconsistent as Against, Supported as For, Unsupported as Neither}
use Rattle.bare.proofs.Items.{bare_placed}
use Rattle.bare.specs.Bare.{Answered, answered, ask_of, barely, faults_of, tell_of, wrote_as, said_as}
use Rattle.bare.specs.declared.Query.{Query}
use Rattle.bare.specs.declared.Told.TheVariants.{Filled, Word}
use Rattle.bare.specs.declared.What.TheVariants.{Context, Number as Of, Stages}
use Rattle.following.proofs.First.{since_129}
use Rattle.following.proofs.Staging.{Placed}
use Rattle.following.specs.First.{since_of, up_to}
use Rattle.handed.specs.declared.Handed.{Handed}
use Rattle.lent.specs.Lent.{fitted, kept}
use Rattle.plain.proofs.Laws.{followable, placed}
use Rattle.plain.specs.Plainly.{byte_of, plain_after, plain_by, plain_bytes, plain_of}
use Rattle.plain.specs.declared.Plain.{Plain}
use Rattle.plain.specs.declared.Plain.TheVariants.{Inconsistent, Supported, Unsupported}
use Rattle.promises.proofs.Answers.{form_context, in_set, standing_says}
use Rattle.promises.proofs.Form.{Form, form_a, form_exactly, form_m, made_form}
use Rattle.promises.proofs.Right.{form_right}
use Rattle.promises.proofs.Rows.{passes}
use Rattle.promises.proofs.Standing.{as_they_stand}
use Rattle.promises.proofs.Telling.{carries_same, contradicts_same, covered}
use Rattle.promises.specs.Calls.{Read, context, ours, over, plain_context, plainly, read_of, reads, stage_lines, written}
use Rattle.promises.specs.Demand2.{QuestionSays, byte_by, contradicted_by}
use Rattle.promises.specs.Made.{SameMembers}
use Rattle.promises.specs.Plain.{PlainPath, asking, unthird, word_alone}
use Rattle.promises.specs.Standing.{Stands}
use Rattle.replies.specs.declared.Reply.{Reply}
use Rattle.replies.specs.declared.Reply.TheVariants.{Counts, Done, Number, Shape, Short}
use Rattle.rules.specs.Held.{said_by}
use Rattle.stages.proofs.Tables.{table_same}
use Rattle.stagetext.proofs.Longest.{stages_length}
use Rattle.stagetext.specs.Stagetext.{last_stage, latest, longest, stage_line, stage_text, stages_of}
use Rattle.store.proofs.Shapes.{shape_elim}
use Rattle.store.specs.Calls.{is_done}
use Rattle.store.specs.Shape.{right_shape, top}
use Rattle.store.specs.declared.Store.{Store}
use Rattle.text.specs.Texts.{digits, field, word}
use Rattle.theory.proofs.Demands.{carries_means}
use Rattle.theory.proofs.Lists.{each_same}
use Rattle.theory.proofs.Places.{get_d_table, length_table}
use Rattle.theory.proofs.Sameness.{same_follows}
use Rattle.theory.specs.Demands.{carries, contradicts}
use Rattle.theory.specs.Limits.{limits, over_counts}
use Rattle.theory.specs.Lists.{choose, each, numbers_below, those}
use Rattle.theory.specs.Places.{table}
use Rattle.theory.specs.Sets.{in_range}
use Rattle.theory.specs.Stages.{Justification, follows}

-- ---- the same members say the same, and have the same lines
module _ (J H : List Justification) (f : SameMembers J H) where
  pub plain_same : (E n : ℕ) → plain_by J E n ≡ plain_by H E n
  unfolding plain_by
  plain_same E n = ap₂ (λ (c k : Bool). choose c Inconsistent (choose k Supported Unsupported)) (contradicts_same J H f E) (carries_same J H f E n)

  module _ (v : Placed J) (w : Placed H) (E : ℕ) where
    same : follows J ≡ follows H
    same = same_follows J H (covered (λ j. (f j).0)) (covered (λ j. (f j).1))

    up_to_same : (k n : ℕ) → up_to J E k n ≡ up_to H E k n
    unfolding up_to
    up_to_same zero n = ap (λ (S : ℕ → ℕ → ℕ → Bool). choose (S zero E n) zero 255) same
    up_to_same (suc k) n = ap₂ (λ (S : ℕ → ℕ → ℕ → Bool) (x : ℕ). choose (S k E n) x (choose (S (suc k) E n) (suc k) 255)) same (up_to_same k n)

    since_same : (n : ℕ) → since_of J E n ≡ since_of H E n
    since_same n = since_129 J E v n ∙ up_to_same (limits.numbers + 1) n ∙ sym (since_129 H E w n)

    last_same : last_stage J E ≡ last_stage H E
    unfolding last_stage
    last_same = ap (latest 0) (table_same (limits.numbers + 1) (since_of J E) (since_of H E) 0 (λ n l. since_same n))

    pub text_same : (N : ℕ) → stage_text N J E ≡ stage_text N H E
    unfolding stage_text stage_line
    text_same N =
        ap (λ (c : ℕ). each (stage_line N J E) (numbers_below (c + 1))) last_same
        ∙ each_same (stage_line N J E) (stage_line N H E) (numbers_below (last_stage H E + 1))
        (λ k m. ap (λ (S : ℕ → ℕ → ℕ → Bool). digits k ++ (each field (those (S k E) (numbers_below (N + 1))) ++ word "\n")) same)

-- ---- an answer of the labels, its name left out, is what follows
word_says : (A : ℕ) (H : List Justification) (n E : ℕ) (a : Result Answer Reply) → QuestionSays A H n E a → word_alone a ≡ Ok (plain_by H E n)
unfolding plain_by
word_says A H n E (Ok (Against G)) h = let c : contradicts H E ≡ true = h.0 in rw c
word_says A H n E (Ok (For F)) h = let k : carries H E n ≡ true = h.0 in let c : contradicts H E ≡ false = ((carries_means H E n).0 k).0 in rw (c, k)
word_says A H n E (Ok Neither) h = let c : contradicts H E ≡ false = h.0 in let k : carries H E n ≡ false = h.1 in rw (c, k)
word_says A H n E (Err r) h = absurd h

word_choose : (b : Bool) (x y : Result Answer Reply) → word_alone (choose b x y) ≡ choose b (word_alone x) (word_alone y)
word_choose true x y = refl
word_choose false x y = refl

-- a byte of the labels, with 0 in place of 3
byte_plain : (A : ℕ) (H : List Justification) (E n : ℕ) → byte_of (plain_by H E n) ≡ unthird (byte_by A H E n)
unfolding plain_by
byte_plain A H E n = go (contradicts H E) (carries H E n) (contradicted_by A H n)
  where
    go : (b k c : Bool) → byte_of (choose b Inconsistent (choose k Supported Unsupported)) ≡ unthird (choose b 2 (choose k 1 (choose c 3 0)))
    go true k c = refl
    go false true c = refl
    go false false true = refl
    go false false false = refl

-- ---- a made store
module _ {A M : ℕ} {H : List Justification} {s : Store} (f : Form A M H s) where
  abbrev J : List Justification
  J = said_by s.held

  right : right_shape s ≡ true
  right = form_right f

  abbrev same_held : SameMembers J H
  same_held = (form_exactly f).members

  held_by_lem : (E n : ℕ) → plain_by J E n ≡ plain_by H E n
  held_by_lem E n = plain_same J H same_held E n

  tops : top s.held ≡ A + M
  tops = ap₂ (λ (a m : ℕ). a + m) (form_a f) (form_m f)

  abbrev stand : Stands ours s
  stand = as_they_stand.stands s right

  set_low : (E : ℕ) → in_range s.held.assumptions E ≡ true → E < 2 ^ A
  unfolding in_range
  set_low E r = subst (λ (a : ℕ). E < 2 ^ a) (form_a f) (ltb-true E (2 ^ s.held.assumptions) r)

  -- ---- question

  -- within the numbers and the sets of the store, the lists say what follows
  stands_by : (n E : ℕ) → n ≤ top s.held → in_range s.held.assumptions E ≡ true → Ok (plain_by J E n) ≡ word_alone (Ok (standing s.lists n E))
  stands_by n E l r = ap Ok (held_by_lem E n) ∙ sym (word_says A H n E (Ok (standing s.lists n E)) (standing_says f n E (omega (arith, tops)) (set_low E r)))

  abbrev beyond : Bool → Bool → ℕ → ℕ → Result Plain Reply → Result Plain Reply
  beyond a b n E x = choose (a || not b) (Err Number) x

  within_both : (n E : ℕ) (a b : Bool) → ltb (top s.held) n ≡ a → in_range s.held.assumptions E ≡ b → beyond a b n E (Ok (plain_by J E n)) ≡ beyond a b n E (word_alone (Ok (standing s.lists n E)))
  within_both n E true b p q = refl
  within_both n E false false p q = refl
  within_both n E false true p q = stands_by n E (ltb-false (top s.held) n p) q

  plain_question : (n E : ℕ) → plain_of s n E ≡ word_alone (question_of s n E)
  unfolding plain_of question_of
  plain_question n E =
      let b : Bool = ltb (top s.held) n || not (in_range s.held.assumptions E) in
      ap (λ (x : Bool). choose (not x) (Err Shape) (choose b (Err Number) (Ok (plain_by J E n)))) right
      ∙ within_both n E (ltb (top s.held) n) (in_range s.held.assumptions E) refl refl
      ∙ sym (word_choose b (Err Number) (Ok (standing s.lists n E)))
      ∙ ap (λ (x : Bool). word_alone (choose (not x) (Err Shape) (choose b (Err Number) (Ok (standing s.lists n E))))) (sym right)

  in_top : (n : ℕ) → n ≤ A + M → top s.held < n → ⊥
  in_top n h k = omega (arith, tops)

  plain_says : (n E : ℕ) → n ≤ A + M → E < 2 ^ A → plain_of s n E ≡ Ok (plain_by H E n)
  plain_says n E l h = ap (λ (x : Read (plainly n E)). x.said) (stand.reading (plainly n E) (passes ℕ _ _ 0 _ (⊎_elim (in_top n l) (in_set f E h)) refl)) ∙ ap Ok (held_by_lem E n)

  -- ---- context

  plain_bytes_lem : (E : ℕ) (out : List ℕ) → E < 2 ^ A → A + M + 1 ≤ length out
      → read_of s (plain_context E out) ≡ reads (plain_context E out) Done s (table (A + M + 1) (λ n. unthird (get_or (read_of s (context E out)).bytes n 0)) ++ drop (A + M + 1) out)
  plain_bytes_lem E out h k =
      stand.reading (plain_context E out) (passes ℕ _ _ 0 _ (in_set f E h) (passes ℕ _ _ 0 _ (λ z. omega (arith, tops)) refl))
      ∙ ap (λ (n : ℕ). reads (plain_context E out) Done s (table (n + 1) (λ i. byte_of (plain_by J E i)) ++ drop (n + 1) out)) tops
      ∙ ap (λ (l : List ℕ). reads (plain_context E out) Done s (l ++ drop (A + M + 1) out))
      (table_same (A + M + 1) (λ i. byte_of (plain_by J E i)) (λ i. unthird (get_or (read_of s (context E out)).bytes i 0)) 0
      (λ i low. ap byte_of (held_by_lem E i) ∙ byte_plain A H E i ∙ ap unthird (sym (at i low))))
    where
      at : (i : ℕ) → i < A + M + 1 → get_or (read_of s (context E out)).bytes i 0 ≡ byte_by A H E i
      at i low =
          ap (λ (r : Read (context E out)). get_or r.bytes i 0) (form_context f E out h k)
          ∙ get_or-append (table (A + M + 1) (byte_by A H E)) (drop (A + M + 1) out) 0 i (omega (arith, low, length_table (A + M + 1) (byte_by A H E)))
          ∙ get_d_table (A + M + 1) (byte_by A H E) i 0 low

  -- ---- lines

  put_placed : Placed H
  put_placed = record {
    consequents = λ j m. omega (arith, f.few, f.claims, (f.ranged j m).low);
    supports = λ j m x i. omega (arith, f.few, f.claims, ((f.ranged j m).between x i).1);
  }

  held_are_placed : Placed J
  held_are_placed = placed s (shape_elim s right).0

  text_by : (E : ℕ) → stage_text (top s.held) J E ≡ stage_text (A + M) H E
  text_by E = ap (λ (n : ℕ). stage_text n J E) tops ∙ text_same J H same_held held_are_placed put_placed E (A + M)

  plain_lines : (E : ℕ) (out : List ℕ) → E < 2 ^ A → length (stage_text (A + M) H E) ≤ length out
      → read_of s (stage_lines E out) ≡ reads (stage_lines E out) (written (stage_text (A + M) H E)) s (over (stage_text (A + M) H E) out)
  plain_lines E out h k =
      stand.reading (stage_lines E out) (passes ℕ _ _ 0 _ (in_set f E h) (passes ℕ _ _ 0 _ (λ z. omega (arith, ap length (text_by E))) refl))
      ∙ ap (λ (t : List ℕ). reads (stage_lines E out) (written t) s (over t out)) (text_by E)

  plain_enough : (E : ℕ) → length (stage_text (A + M) H E) ≤ longest
  plain_enough E = stages_length H put_placed E (A + M) (omega (arith, f.few, f.claims))

  -- ---- a bare list of what was put in
  module _ (l : List Handed) (sound : faults_of (A + M) l ≡ Done) (members : SameMembers H (barely (A + M) l)) where
    abbrev N : ℕ
    N = A + M

    abbrev L : List Justification
    L = barely N l

    held_listed : SameMembers J L
    held_listed j = (λ m. (members j).0 ((same_held j).0 m), λ m. (same_held j).1 ((members j).1 m))

    list_placed : Placed L
    list_placed = bare_placed N (omega (arith, f.few, f.claims)) l sound

    counts : over_counts A M ≡ false
    counts = ap₂ (λ (a b : Bool). a || b) (le-ltb limits.assumptions A f.few) (le-ltb limits.claims M f.claims)

    range : (E : ℕ) → in_range s.held.assumptions E ≡ in_range A E
    range E = ap (λ (a : ℕ). in_range a E) (form_a f)

    module _ (E : ℕ) (out : List ℕ) where
      -- ask_of, its first tests passed
      asked : (q : Query) → q.assumptions ≡ A → q.claims ≡ M → ask_of q l out ≡ choose (not (in_range A q.set)) (answered (Err Number) out) (tell_of N L q.set q.what out)
      unfolding ask_of
      asked q e m =
          ap₂ (λ (a c : ℕ). choose (over_counts a c) (answered (Err Counts) out)
          (choose (not (is_done (faults_of (a + c) l))) (answered (Err (faults_of (a + c) l)) out)
          (choose (not (in_range a q.set)) (answered (Err Number) out) (tell_of (a + c) (barely (a + c) l) q.set q.what out)))) e m
          ∙ ap (λ (b : Bool). choose b (answered (Err Counts) out) (choose (not (is_done (faults_of N l))) (answered (Err (faults_of N l)) out) rest)) counts
          ∙ ap (λ (r : Reply). choose (not (is_done r)) (answered (Err r) out) rest) sound
        where
          rest : Answered
          rest = choose (not (in_range A q.set)) (answered (Err Number) out) (tell_of N L q.set q.what out)

      bare_word : (n : ℕ) → ask_of (asking A M (Of n) E) l out ≡ answered (said_as Word (plain_of s n E)) out
      unfolding plain_of
      bare_word n =
          asked (asking A M (Of n) E) refl refl
          ∙ ap (λ (x : Plain). choose (not (in_range A E)) (answered (Err Number) out) (answered (choose (ltb N n) (Err Number) (Ok (Word x))) out)) (sym (plain_same J L held_listed E n))
          ∙ go (in_range A E) (ltb N n)
          ∙ ap (λ (x : Bool). answered (said_as Word (choose (not x) (Err Shape) (choose (ltb N n || not (in_range A E)) (Err Number) (Ok (plain_by J E n))))) out) (sym right)
          ∙ ap₂ (λ (t : ℕ) (b : Bool). answered (said_as Word (choose (not (right_shape s)) (Err Shape) (choose (ltb t n || not b) (Err Number) (Ok (plain_by J E n))))) out) (sym tops) (sym (range E))
        where
          go : (b o : Bool) → choose (not b) (answered (Err Number) out) (answered (choose o (Err Number) (Ok (Word (plain_by J E n)))) out) ≡ answered (said_as Word (choose (o || not b) (Err Number) (Ok (plain_by J E n)))) out
          go true true = refl
          go true false = refl
          go false true = refl
          go false false = refl

      bare_bytes : ask_of (asking A M Context E) l out ≡ answered (said_as (λ _. Filled) (checked (context_reply s E (length out)))) (plain_after s E out)
      unfolding checked context_reply plain_after plain_bytes
      bare_bytes =
          asked (asking A M Context E) refl refl
          ∙ ap (λ (t : List ℕ). choose (not (in_range A E)) (answered (Err Number) out) (choose (ltb (length out) (N + 1)) (answered (Err Short) out) (answered (Ok Filled) (t ++ drop (N + 1) out))))
          (table_same (N + 1) (λ n. byte_of (plain_by L E n)) (λ n. byte_of (plain_by J E n)) 0 (λ n p. ap byte_of (sym (plain_same J L held_listed E n))))
          ∙ go (in_range A E) (ltb (length out) (N + 1))
          ∙ ap (λ (x : Bool). leaves x (in_range A E) N) (sym right)
          ∙ ap₂ (λ (b : Bool) (t : ℕ). leaves (right_shape s) b t) (sym (range E)) (sym tops)
        where
          replies : Bool → Bool → Bool → Reply
          replies x b o = choose (not x) Shape (choose (not b) Number (choose o Short Done))

          leaves : Bool → Bool → ℕ → Answered
          leaves x b t =
              answered (said_as (λ _. Filled) (checked (replies x b (ltb (length out) (t + 1)))))
              (choose (is_done (replies x b (ltb (length out) (t + 1)))) (table (t + 1) (λ n. byte_of (plain_by J E n)) ++ drop (t + 1) out) out)

          go : (b o : Bool) → choose (not b) (answered (Err Number) out) (choose o (answered (Err Short) out) (answered (Ok Filled) (table (N + 1) (λ n. byte_of (plain_by J E n)) ++ drop (N + 1) out)))
              ≡ answered (said_as (λ _. Filled) (checked (replies true b o))) (choose (is_done (replies true b o)) (table (N + 1) (λ n. byte_of (plain_by J E n)) ++ drop (N + 1) out) out)
          go true true = refl
          go true false = refl
          go false o = refl

      bare_text : ask_of (asking A M Stages E) l out ≡ wrote_as (stages_of s E out)
      unfolding stages_of
      bare_text =
          asked (asking A M Stages E) refl refl
          ∙ ap (λ (t : List ℕ). choose (not (in_range A E)) (wrote_as (kept Number out)) (wrote_as (fitted t out))) (sym (text_same J L held_listed held_are_placed list_placed E N) ∙ ap (λ (n : ℕ). stage_text n J E) (sym tops))
          ∙ go (in_range A E)
          ∙ ap (λ (x : Bool). wrote_as (choose (not x) (kept Shape out) (choose (not (in_range A E)) (kept Number out) (fitted (stage_text (top s.held) J E) out)))) (sym right)
          ∙ ap (λ (b : Bool). wrote_as (choose (not (right_shape s)) (kept Shape out) (choose (not b) (kept Number out) (fitted (stage_text (top s.held) J E) out)))) (sym (range E))
        where
          go : (b : Bool) → choose (not b) (wrote_as (kept Number out)) (wrote_as (fitted (stage_text (top s.held) J E) out)) ≡ wrote_as (choose (not b) (kept Number out) (fitted (stage_text (top s.held) J E) out))
          go true = refl
          go false = refl

-- ---- a bare list
bare_told : (q : Query) (l : List Handed) (out : List ℕ) → q.assumptions ≤ limits.assumptions → q.claims ≤ limits.claims → faults_of (q.assumptions + q.claims) l ≡ Done → q.set < 2 ^ q.assumptions
    → ask_of q l out ≡ tell_of (q.assumptions + q.claims) (barely (q.assumptions + q.claims) l) q.set q.what out
unfolding ask_of in_range
bare_told q l out a m d h =
    let N : ℕ = q.assumptions + q.claims in
    let told : Answered = tell_of N (barely N l) q.set q.what out in
    let unless : Answered = choose (not (ltb q.set (2 ^ q.assumptions))) (answered (Err Number) out) told in
    ap₂ (λ (x y : Bool). choose (x || y) (answered (Err Counts) out) (choose (not (is_done (faults_of N l))) (answered (Err (faults_of N l)) out) unless)) (le-ltb limits.assumptions q.assumptions a) (le-ltb limits.claims q.claims m)
    ∙ ap (λ (r : Reply). choose (not (is_done r)) (answered (Err r) out) unless) d
    ∙ ap (λ (b : Bool). choose (not b) (answered (Err Number) out) told) (lt-ltb q.set (2 ^ q.assumptions) h)

-- ---- bytes enough
held_enough : (s : Store) → right_shape s ≡ true → (E : ℕ) → length (stage_text (top s.held) (said_by s.held) E) ≤ longest
held_enough s r E =
    let f = (shape_elim s r).0 in
    stages_length (said_by s.held) (placed s f) E (top s.held) (followable s f).low

bare_enough : (A M : ℕ) (l : List Handed) → A ≤ limits.assumptions → M ≤ limits.claims → faults_of (A + M) l ≡ Done → (E : ℕ) → length (stage_text (A + M) (barely (A + M) l) E) ≤ longest
bare_enough A M l a m d E = let low : A + M ≤ limits.numbers = omega arith in stages_length (barely (A + M) l) (bare_placed (A + M) low l d) E (A + M) low

pub plain_path : PlainPath ours
plain_path = record {
  replies = λ m n E. plain_question (made_form m) n E;
  context_reply_lem = λ m E out. refl;
  context_bytes_lem = λ m E out h k. plain_bytes_lem (made_form m) E out h k;
  says = λ m n E l h. plain_says (made_form m) n E l h;
  lines = λ m E out h k. plain_lines (made_form m) E out h k;
  enough = λ m E. plain_enough (made_form m) E;
  enough_held = held_enough;
  enough_bare = bare_enough;
  bare = bare_told;
  bare_question = λ m l d w n E out. bare_word (made_form m) l d w E out n;
  bare_context = λ m l d w E out. bare_bytes (made_form m) l d w E out;
  bare_lines = λ m l d w E out. bare_text (made_form m) l d w E out;
}
