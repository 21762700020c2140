-- A plain question answered from the labels is right of every made store: the plain path does not tell it from ours. Assumes nothing.
use Rattle.replies.specs.declared.Reply.{Reply}
use Rattle.std.specs.Prelude.{Result}
use mathlib.Core.List.{List}
use mathlib.Core.Path.{◌∙◌, ◌≡◌, ap, refl, sym}
use Prim.Native.Nat.{ℕ}
use Rattle.bare.specs.Bare.{answered, said_as}
use Rattle.bare.specs.declared.Told.TheVariants.{Word}
use Rattle.plain.specs.declared.Plain.{Plain}
use Rattle.promises.proofs.Keeping.{read_store}
use Rattle.promises.proofs.Plain.{plain_path}
use Rattle.promises.specs.Calls.{Ask, case_line, context, file, line, list_all, member, ours, plain_context, plainly, question, stage_lines}
use Rattle.promises.specs.Made.{Made, added, asked, judged, kept, listed, loaded, opened, refused, unlisted, withdrawn}
use Rattle.promises.specs.Plain.{PlainPath}
use Rattle.refuted.specs.Wrong.{from_labels}
use Rattle.store.specs.declared.Store.{Store}
use Rattle.theory.specs.Stages.{Justification}

its_store : (s : Store) (a : Ask) → (from_labels.reading s a).store ≡ s
its_store s (question n E) = read_store s (question n E)
its_store s (context E out) = read_store s (context E out)
its_store s (member n place) = read_store s (member n place)
its_store s (line n out) = read_store s (line n out)
its_store s (case_line out) = read_store s (case_line out)
its_store s (list_all out) = read_store s (list_all out)
its_store s (file out) = read_store s (file out)
its_store s (plainly n E) = refl
its_store s (plain_context E out) = read_store s (plain_context E out)
its_store s (stage_lines E out) = read_store s (stage_lines E out)

-- the calls make the same stores
module _ {A M : ℕ} where
  made_ours : {H : List Justification} {s : Store} → Made from_labels A M H s → Made ours A M H s
  made_ours (opened e) = opened e
  made_ours (loaded bytes f e a m r k) = loaded bytes f e a m r k
  made_ours (judged h a m e) = judged h a m e
  made_ours (added c l m e) = added c l (made_ours m) e
  made_ours (refused c l r m e n) = refused c l r (made_ours m) e n
  made_ours (listed l out after m e) = listed l out after (made_ours m) e
  made_ours (unlisted l out after r m e n) = unlisted l out after r (made_ours m) e n
  made_ours (withdrawn c l m e) = withdrawn c l (made_ours m) e
  made_ours (kept c l r m e n) = kept c l r (made_ours m) e n
  made_ours (asked {s = s} a m e) = asked a (made_ours m) (read_store s a ∙ sym (its_store s a) ∙ e)

pub plain_path_labelled : PlainPath from_labels
plain_path_labelled = record {
  replies = λ m n E. refl;
  context_reply_lem = λ m E out. plain_path.context_reply_lem (made_ours m) E out;
  context_bytes_lem = λ m E out h k. plain_path.context_bytes_lem (made_ours m) E out h k;
  says = λ m n E l h. sym (plain_path.replies (made_ours m) n E) ∙ plain_path.says (made_ours m) n E l h;
  lines = λ m E out h k. plain_path.lines (made_ours m) E out h k;
  enough = λ m E. plain_path.enough (made_ours m) E;
  enough_held = plain_path.enough_held;
  enough_bare = plain_path.enough_bare;
  bare = plain_path.bare;
  bare_question = λ m l d w n E out. plain_path.bare_question (made_ours m) l d w n E out ∙ ap (λ (x : Result Plain Reply). answered (said_as Word x) out) (plain_path.replies (made_ours m) n E);
  bare_context = λ m l d w E out. plain_path.bare_context (made_ours m) l d w E out;
  bare_lines = λ m l d w E out. plain_path.bare_lines (made_ours m) l d w E out;
}
