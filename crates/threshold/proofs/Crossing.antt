-- The functions of crate door are our calls, in numbers: each by the function's own theorem. Assumes nothing.
use mathlib.Core.List.{List}
use mathlib.Core.Logic.{◌↔◌}
use mathlib.Core.Path.{◌≡◌, ◌∙◌, ap, refl, sym}
use Prim.Native.Nat.{ℕ}
use Rattle.door.proofs.barely.door_bare.Met as bare-at
use Rattle.door.proofs.making.door_add.Met as add_at
use Rattle.door.proofs.making.door_add_all.Met as add-all-at
use Rattle.door.proofs.making.door_load.Met as load_at
use Rattle.door.proofs.making.door_open.Met as open_at
use Rattle.door.proofs.making.door_withdraw.Met as withdraw-at
use Rattle.door.proofs.reading.door_context.Met as context-at
use Rattle.door.proofs.reading.door_member.Met as member_at_lem
use Rattle.door.proofs.reading.door_plain_context.Met as plain-context-at
use Rattle.door.proofs.reading.door_plain_question.Met as plainly-at
use Rattle.door.proofs.reading.door_question.Met as question-at
use Rattle.door.proofs.reading.door_shape.Met as shape_at
use Rattle.door.proofs.texts.door_case_line.Met as case-line-at
use Rattle.door.proofs.texts.door_line.Met as line_at_lem
use Rattle.door.proofs.texts.door_listing.Met as listing-at
use Rattle.door.proofs.texts.door_printed.Met as printed-at
use Rattle.door.proofs.texts.door_refusal.Met as refusal-at
use Rattle.door.proofs.texts.door_stages.Met as stages_at
use Rattle.door.proofs.texts.door_write.Met as write-at
use Rattle.lines.specs.Lines.{refusal_text}
use Rattle.lent.specs.Lent.{fitted}
use Rattle.promises.specs.Calls.{ours}
use Rattle.replies.specs.Replies.{number_of}
use Rattle.replies.specs.declared.Reply.{Reply}
use Rattle.text.specs.Texts.{refusal as refusalLine}
use Rattle.threshold.proofs.Apart.{apart}
use Rattle.threshold.specs.Crossing.{Crosses, OnceAcross, Threshold}

same : {X : Type 0} → X ↔ X
same = (λ x. x, λ x. x)

refusals : (r : Reply) (k : ℕ) (out : List ℕ) → ours.refusal r k out ≡ fitted (refusalLine (number_of r) k) out
unfolding refusal_text
refusals r k out = refl

crosses : Crosses ours
crosses = record {
  opening = record { keeps = λ M. open_at.met; free = λ κs a. tt; exact = λ κs a r e. same };
  loading = record { keeps = λ M. load_at.met; free = λ κs a. tt; exact = λ κs a r e. same };
  adding = record { keeps = λ M. add_at.met; free = λ κs a. tt; exact = λ κs a r e. same };
  adding_all = record { keeps = λ M. add-all-at.met; exact = λ M 𝓤 𝓛 mem run. refl };
  withdrawing = record { keeps = λ M. withdraw-at.met; free = λ κs a. tt; exact = λ κs a r e. same };
  shape = record { keeps = λ M. shape_at.met; free = λ κs a. tt; exact = λ κs a r e. same };
  question = record { keeps = λ M. question-at.met; free = λ κs a. tt; exact = λ κs a r e. same };
  context = record { keeps = λ M. context-at.met; free = λ κs a. tt; exact = λ κs a r e. same };
  member = record { keeps = λ M. member_at_lem.met; free = λ κs a. tt; exact = λ κs a r e. same };
  line = record { keeps = λ M. line_at_lem.met; free = λ κs a. tt; exact = λ κs a r e. same };
  case_line = record { keeps = λ M. case-line-at.met; free = λ κs a. tt; exact = λ κs a r e. same };
  listing = record { keeps = λ M. listing-at.met; free = λ κs a. tt; exact = λ κs a r e. same };
  plainly = record { keeps = λ M. plainly-at.met; free = λ κs a. tt; exact = λ κs a r e. same };
  plain_context = record { keeps = λ M. plain-context-at.met; free = λ κs a. tt; exact = λ κs a r e. same };
  stage_lines = record { keeps = λ M. stages_at.met; free = λ κs a. tt; exact = λ κs a r e. same };
  bare = record { keeps = λ M. bare-at.met; exact = λ M 𝓤 𝓛 mem run. refl };
  file = record { keeps = λ M. write-at.met; free = λ κs a. tt; exact = λ κs a r e. same };
  refusal = record { keeps = λ M. refusal-at.met; free = λ κs a. tt; exact = λ κs a r e. same };
  refusals = refusals;
  printing = record { keeps = λ M. printed-at.met; free = λ κs a. tt; exact = λ κs a r e. same };
}

once : OnceAcross
once = record {
  opening = λ κs a r r' w w' p q. (p ∙ sym q, refl);
  loading = λ κs a r r' w w' p q. (p ∙ sym q, refl);
  adding = λ κs a r r' w w' p q. (p ∙ sym q, refl);
  adding_all = λ κs a r r' w w' p q. (p.0 ∙ sym q.0, ap (λ (l : List ℕ). (tt, (tt, (l, tt)))) (p.1 ∙ sym q.1));
  withdrawing = λ κs a r r' w w' p q. (p ∙ sym q, refl);
  shape = λ κs a r r' w w' p q. (p ∙ sym q, refl);
  question = λ κs a r r' w w' p q. (p ∙ sym q, refl);
  context = λ κs a r r' w w' p q. (p.0 ∙ sym q.0, ap (λ (l : List ℕ). (tt, (tt, (l, tt)))) (p.1 ∙ sym q.1));
  member = λ κs a r r' w w' p q. (p ∙ sym q, refl);
  line = λ κs a r r' w w' p q. (p.0 ∙ sym q.0, ap (λ (l : List ℕ). (tt, (tt, (l, tt)))) (p.1 ∙ sym q.1));
  case_line = λ κs a r r' w w' p q. (p.0 ∙ sym q.0, ap (λ (l : List ℕ). (tt, (l, tt))) (p.1 ∙ sym q.1));
  listing = λ κs a r r' w w' p q. (p.0 ∙ sym q.0, ap (λ (l : List ℕ). (tt, (l, tt))) (p.1 ∙ sym q.1));
  plainly = λ κs a r r' w w' p q. (p ∙ sym q, refl);
  plain_context = λ κs a r r' w w' p q. (p.0 ∙ sym q.0, ap (λ (l : List ℕ). (tt, (tt, (l, tt)))) (p.1 ∙ sym q.1));
  stage_lines = λ κs a r r' w w' p q. (p.0 ∙ sym q.0, ap (λ (l : List ℕ). (tt, (tt, (l, tt)))) (p.1 ∙ sym q.1));
  bare = λ κs a r r' w w' p q. (p.0 ∙ sym q.0, ap (λ (l : List ℕ). (tt, (tt, (l, tt)))) (p.1 ∙ sym q.1));
  file = λ κs a r r' w w' p q. (p.0 ∙ sym q.0, ap (λ (l : List ℕ). (tt, (l, tt))) (p.1 ∙ sym q.1));
  refusal = λ κs a r r' w w' p q. (p.0 ∙ sym q.0, ap (λ (l : List ℕ). (tt, (tt, (l, tt)))) (p.1 ∙ sym q.1));
  printing = λ κs a r r' w w' p q. (p.0 ∙ sym q.0, ap (λ (l : List ℕ). (tt, (l, tt))) (p.1 ∙ sym q.1));
}

pub threshold : Threshold ours
threshold = record { crosses = crosses; once = once; apart = apart }
