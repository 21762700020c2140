-- What holds of a reading and of an exchanged question holds of the reading with the question exchanged. Assumes nothing.
use Rattle.replies.specs.declared.Reply.{Reply}
use Rattle.std.specs.Prelude.{Result}
use mathlib.Core.List.{[]}
use Prim.Native.Nat.{ℕ}
use Rattle.asking.specs.declared.Answer.{Answer}
use Rattle.promises.specs.Calls.{Ask, Read, case_line, context, file, line, list_all, member, plain_context, plainly, question, reads, stage_lines}
use Rattle.refuted.specs.Exchange.{answering}
use Rattle.store.specs.declared.Store.{Store}

module _ (f : Store → ℕ → ℕ → Result Answer Reply) (r : Store → (a : Ask) → Read a) (s : Store) (P : (a : Ask) → Read a → Type 0) where
  pub by_question : ((a : Ask) → P a (r s a)) → ((n E : ℕ) → P (question n E) (reads (question n E) (f s n E) s [])) → (a : Ask) → P a (answering f r s a)
  by_question p q (question n E) = q n E
  by_question p q (context E out) = p (context E out)
  by_question p q (member n place) = p (member n place)
  by_question p q (line n out) = p (line n out)
  by_question p q (case_line out) = p (case_line out)
  by_question p q (list_all out) = p (list_all out)
  by_question p q (file out) = p (file out)
  by_question p q (plainly n E) = p (plainly n E)
  by_question p q (plain_context E out) = p (plain_context E out)
  by_question p q (stage_lines E out) = p (stage_lines E out)
