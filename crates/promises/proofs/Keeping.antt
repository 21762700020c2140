-- A refusal leaves the store and every lent byte as they were. Assumes nothing.
use Rattle.std.specs.Prelude.{Ok, Err, Result}
use mathlib.Core.Bool.{Bool, ◌||◌, false, not, true}
use mathlib.Core.List.{List, ◌++◌}
use mathlib.Core.Path.{◌∙◌, ◌≡◌, refl, sym}
use Prim.Native.Nat.{◌+◌, ℕ}
use lib.Dec.{leb, ltb}
use lib.ListN.{drop, length}
use borrow.Author.Tests.{eqb-true}
use Rattle.asking.specs.Asking.{context_bytes, context_of, context_reply}
use Rattle.bare.specs.Bare.{Answered, answered, ask_of, barely, faults_of, tell_of, told_number, said_as}
use Rattle.bare.specs.declared.Query.{Query}
use Rattle.bare.specs.declared.Told.TheVariants.{Filled, Lines}
use Rattle.bare.specs.declared.What.{What}
use Rattle.bare.specs.declared.What.TheVariants.{Context, Number as Of, Stages}
use Rattle.casefile.specs.Case.{Case, Reading, case_of, held_by, refused as unread, whole}
use Rattle.casefile.specs.Load.{load_of, loaded_of}
use Rattle.handed.specs.declared.Handed.{Handed}
use Rattle.lent.specs.Lent.{Wrote, fitted, kept, written_number}
use Rattle.lines.specs.Lines.{case_text, heading_of, line_of, line_text, refusal_text}
use Rattle.plain.specs.Plainly.{byte_of, plain_after, plain_by, plain_bytes}
use Rattle.promises.specs.Calls.{Ask, case_line, context, file, lent_to, line, list_all, member, number_said, plain_context, plainly, question, read_of, stage_lines}
use Rattle.replies.specs.Replies.{number_of}
use Rattle.replies.specs.declared.Reply.{Reply}
use Rattle.replies.specs.declared.Reply.TheVariants.{Already, Counts, Done, Full, Number, Shape, Short, Unheld}
use Rattle.rules.specs.Held.{dropped, held_of, put, said_by}
use Rattle.rules.specs.Items.{fault_of, justification_of, same_justification}
use Rattle.rules.specs.declared.Held.{Held}
use Rattle.season.specs.Season.{add_all_of, added_all, bytes_after, replies_of}
use Rattle.stagetext.specs.Stagetext.{stage_text, stages_of}
use Rattle.store.specs.Calls.{add_of, answer, is_done, joined_by, judged_of, no_store, of_verdict, open_of, parted_from, start_store, store_of, withdraw_of}
use Rattle.store.specs.Shape.{held_fits, right_shape, top}
use Rattle.store.specs.declared.Outcome.{Outcome}
use Rattle.store.specs.declared.Store.{Store}
use Rattle.theory.specs.Judge.{Verdict, judge, label_over, nogoods_over, settled}
use Rattle.theory.specs.Limits.{limits, over_counts}
use Rattle.theory.specs.Lists.{choose, some_of}
use Rattle.theory.specs.Places.{table}
use Rattle.theory.specs.Sets.{in_range}
use Rattle.theory.specs.Stages.{Justification}
use Rattle.listing.specs.Listing.{listed_of, listing_of, listing_text}
use Rattle.writing.specs.Writing.{file_of, write_of}

module _ (s : Store) where
  -- x hands s back unless it is answered 0
  abbrev Keeps : Outcome → Type 0
  Keeps x = (x.reply ≡ Done → ⊥) → x.store ≡ s

  keeps_choose : (b : Bool) (x y : Outcome) → x.store ≡ s → Keeps y → Keeps (choose b x y)
  keeps_choose true x y p q n = p
  keeps_choose false x y p q n = q n

  keeps_verdict : (h : Held) (v : Verdict) → Keeps (of_verdict s h v)
  keeps_verdict h (settled d g) n = absurd (n refl)
  keeps_verdict h nogoods_over n = refl
  keeps_verdict h (label_over m) n = refl

  keeps_store : (A M : ℕ) (J : List Justification) → Keeps (store_of s A M J)
  unfolding store_of
  keeps_store A M J = keeps_verdict (held_of A M J) (judge limits A (A + M) J)

  keeps_join : (j : Justification) → Keeps (joined_by s j)
  unfolding joined_by
  keeps_join j =
      keeps_choose (some_of (same_justification j) (said_by s.held)) (answer Already s) _ refl
      (keeps_choose (leb limits.held s.held.count) (answer Full s) _ refl (keeps_store s.held.assumptions s.held.claims (put j (said_by s.held))))

  pub add_keeps : (c : ℕ) (l : List ℕ) → ((add_of s c l).reply ≡ Done → ⊥) → (add_of s c l).store ≡ s
  unfolding add_of
  add_keeps c l =
      let N : ℕ = top s.held in
      keeps_choose (not (right_shape s)) (answer Shape s) _ refl
      (keeps_choose (not (is_done (fault_of N c l))) (answer (fault_of N c l) s) _ refl (keeps_join (justification_of N c l)))

  -- a list

  pub all_keeps : (l : List Handed) (out : List ℕ) → ((add_all_of s l out).reply ≡ Done → ⊥) → (add_all_of s l out).store ≡ s
  unfolding add_all_of
  all_keeps l out = keeps_choose (not (right_shape s)) (answer Shape s) _ refl (keeps_choose (ltb (length out) (length l)) (answer Short s) (answer Done (added_all s l)) refl (λ k. absurd (k refl)))

  pub all_bytes : (l : List Handed) (out : List ℕ) → ((add_all_of s l out).reply ≡ Done → ⊥) → bytes_after s l out ≡ out
  unfolding add_all_of bytes_after
  all_bytes l out = go (not (right_shape s)) (ltb (length out) (length l))
    where
      go : (b c : Bool) → ((choose b (answer Shape s) (choose c (answer Short s) (answer Done (added_all s l)))).reply ≡ Done → ⊥) → choose b out (choose c out (replies_of s l ++ drop (length l) out)) ≡ out
      go true c n = refl
      go false true n = refl
      go false false n = absurd (n refl)

  keeps_part : (j : Justification) → Keeps (parted_from s j)
  unfolding parted_from
  keeps_part j =
      keeps_choose (not (some_of (same_justification j) (said_by s.held))) (answer Unheld s) _ refl
      (keeps_store s.held.assumptions s.held.claims (dropped j (said_by s.held)))

  pub withdraw_keeps : (c : ℕ) (l : List ℕ) → ((withdraw_of s c l).reply ≡ Done → ⊥) → (withdraw_of s c l).store ≡ s
  unfolding withdraw_of
  withdraw_keeps c l =
      let N : ℕ = top s.held in
      keeps_choose (not (right_shape s)) (answer Shape s) _ refl
      (keeps_choose (not (is_done (fault_of N c l))) (answer (fault_of N c l) s) _ refl (keeps_part (justification_of N c l)))

  -- ---- the calls that read

  context_keeps : (E : ℕ) (out : List ℕ) → (number_of (context_reply s E (length out)) ≡ 0 → ⊥) → context_bytes s E out ≡ out
  unfolding context_bytes
  context_keeps E out n = go (is_done (context_reply s E (length out))) (context_of s E ++ drop (top s.held + 1) out) refl
    where
      go : (b : Bool) (x : List ℕ) → is_done (context_reply s E (length out)) ≡ b → choose b x out ≡ out
      go true x e = absurd (n (eqb-true (number_of (context_reply s E (length out))) 0 e))
      go false x e = refl

  -- w leaves the lent bytes unless it is answered 0
  abbrev KeptBytes : List ℕ → Wrote → Type 0
  KeptBytes out w = (written_number w.answer ≡ 0 → ⊥) → w.bytes ≡ out

  kept_choose : (out : List ℕ) (b : Bool) (x : Reply) (w : Wrote) → KeptBytes out w → KeptBytes out (choose b (kept x out) w)
  kept_choose out true x w k n = refl
  kept_choose out false x w k n = k n

  kept_fitted : (t out : List ℕ) → KeptBytes out (fitted t out)
  unfolding fitted
  kept_fitted t out = kept_choose out (ltb (length out) (length t)) Short _ (λ n. absurd (n refl))

  line_keeps : (n : ℕ) (out : List ℕ) → KeptBytes out (line_of s n out)
  unfolding line_of
  line_keeps n out = kept_choose out (not (right_shape s)) Shape _ (kept_choose out (ltb (top s.held) n) Number _ (kept_fitted (line_text s n) out))

  heading_keeps : (out : List ℕ) → KeptBytes out (heading_of s out)
  unfolding heading_of
  heading_keeps out = kept_choose out (not (right_shape s)) Shape _ (kept_fitted (case_text s) out)

  listing_keeps : (out : List ℕ) → KeptBytes out (listed_of s out)
  unfolding listed_of
  listing_keeps out = kept_choose out (not (right_shape s)) Shape _ (kept_fitted (listing_text s) out)

  writing_keeps : (out : List ℕ) → KeptBytes out (write_of s out)
  unfolding write_of
  writing_keeps out = kept_choose out (not (right_shape s)) Shape _ (kept_fitted (file_of s.held) out)

  plain_keeps : (E : ℕ) (out : List ℕ) → (number_of (context_reply s E (length out)) ≡ 0 → ⊥) → plain_after s E out ≡ out
  unfolding plain_after
  plain_keeps E out n = go (is_done (context_reply s E (length out))) (plain_bytes s E ++ drop (top s.held + 1) out) refl
    where
      go : (b : Bool) (x : List ℕ) → is_done (context_reply s E (length out)) ≡ b → choose b x out ≡ out
      go true x e = absurd (n (eqb-true (number_of (context_reply s E (length out))) 0 e))
      go false x e = refl

  stages_keeps : (E : ℕ) (out : List ℕ) → KeptBytes out (stages_of s E out)
  unfolding stages_of
  stages_keeps E out =
      kept_choose out (not (right_shape s)) Shape _ (kept_choose out (not (in_range s.held.assumptions E)) Number _ (kept_fitted (stage_text (top s.held) (said_by s.held) E) out))

  pub read_store : (a : Ask) → (read_of s a).store ≡ s
  read_store (question n E) = refl
  read_store (context E out) = refl
  read_store (member n place) = refl
  read_store (line n out) = refl
  read_store (case_line out) = refl
  read_store (list_all out) = refl
  read_store (file out) = refl
  read_store (plainly n E) = refl
  read_store (plain_context E out) = refl
  read_store (stage_lines E out) = refl

  pub read_keeps : (a : Ask) → (number_said a (read_of s a).said ≡ 0 → ⊥) → (read_of s a).bytes ≡ lent_to a
  read_keeps (question n E) k = refl
  read_keeps (context E out) k = context_keeps E out k
  read_keeps (member n place) k = refl
  read_keeps (line n out) k = line_keeps n out k
  read_keeps (case_line out) k = heading_keeps out k
  read_keeps (list_all out) k = listing_keeps out k
  read_keeps (file out) k = writing_keeps out k
  read_keeps (plainly n E) k = refl
  read_keeps (plain_context E out) k = plain_keeps E out k
  read_keeps (stage_lines E out) k = stages_keeps E out k

-- ---- no store is returned

none_opened : (open_of 0 0).store ≡ no_store
unfolding open_of
none_opened = refl

pub open_keeps : (A M : ℕ) → ((open_of A M).reply ≡ Done → ⊥) → (open_of A M).store ≡ (open_of 0 0).store
unfolding open_of
open_keeps A M n = keeps_choose no_store (over_counts A M) (answer Counts no_store) (answer Done (start_store A M)) refl (λ k. absurd (k refl)) n ∙ sym none_opened

loaded_keeps : (R : Reading Case) → ((loaded_of R).reply ≡ Done → ⊥) → (loaded_of R).store ≡ no_store
loaded_keeps (whole f) n = keeps_store no_store f.header.assumptions f.header.claims (held_by f) n
loaded_keeps (unread x r) n = refl

pub load_keeps : (bytes : List ℕ) → ((load_of bytes).reply ≡ Done → ⊥) → (load_of bytes).store ≡ (open_of 0 0).store
unfolding load_of
load_keeps bytes n = loaded_keeps (case_of bytes) n ∙ sym none_opened

pub judge_keeps : (h : Held) → ((judged_of h).reply ≡ Done → ⊥) → (judged_of h).store ≡ (open_of 0 0).store
unfolding judged_of
judge_keeps h n = keeps_choose no_store (not (held_fits h)) (answer Shape no_store) _ refl (keeps_store no_store h.assumptions h.claims (said_by h)) n ∙ sym none_opened

pub refusal_keeps : (r : Reply) (k : ℕ) (out : List ℕ) → (written_number (fitted (refusal_text r k) out).answer ≡ 0 → ⊥) → (fitted (refusal_text r k) out).bytes ≡ out
refusal_keeps r k out = kept_fitted no_store (refusal_text r k) out

pub printing_keeps : (bytes out : List ℕ) → (written_number (fitted (listing_of bytes) out).answer ≡ 0 → ⊥) → (fitted (listing_of bytes) out).bytes ≡ out
printing_keeps bytes out = kept_fitted no_store (listing_of bytes) out

-- ---- a bare list

-- the number of lines that a bare list answers is that of the text
pub lines_number : (r : Result ℕ Reply) → told_number (said_as Lines r) ≡ written_number r
lines_number (Ok n) = refl
lines_number (Err r) = refl

module _ (out : List ℕ) where
  abbrev KeptBare : Answered → Type 0
  KeptBare x = (told_number x.answer ≡ 0 → ⊥) → x.bytes ≡ out

  bare_choose : (b : Bool) (x y : Answered) → x.bytes ≡ out → KeptBare y → KeptBare (choose b x y)
  bare_choose true x y p q n = p
  bare_choose false x y p q n = q n

  tell_keeps : (N : ℕ) (J : List Justification) (E : ℕ) (w : What) → KeptBare (tell_of N J E w out)
  tell_keeps N J E (Of n) k = refl
  tell_keeps N J E Context k =
      bare_choose (ltb (length out) (N + 1)) (answered (Err Short) out) (answered (Ok Filled) (table (N + 1) (λ n. byte_of (plain_by J E n)) ++ drop (N + 1) out)) refl (λ z. absurd (z refl)) k
  tell_keeps N J E Stages k = let t : List ℕ = stage_text N J E in kept_fitted no_store t out (λ z. k (lines_number (fitted t out).answer ∙ z))

pub bare_keeps : (q : Query) (l : List Handed) (out : List ℕ) → (told_number (ask_of q l out).answer ≡ 0 → ⊥) → (ask_of q l out).bytes ≡ out
unfolding ask_of
bare_keeps q l out =
    let N : ℕ = q.assumptions + q.claims in
    bare_choose out (ltb limits.assumptions q.assumptions || ltb limits.claims q.claims) (answered (Err Counts) out) _ refl
    (bare_choose out (not (is_done (faults_of N l))) (answered (Err (faults_of N l)) out) _ refl
    (bare_choose out (not (in_range q.assumptions q.set)) (answered (Err Number) out) _ refl
    (tell_keeps out N (barely N l) q.set q.what)))
