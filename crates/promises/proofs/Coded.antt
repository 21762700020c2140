-- Our calls are what the compiled functions do: each by the function's own theorem. Assumes nothing.
use mathlib.Core.Logic.{◌↔◌}
use mathlib.Core.Path.{refl}
use Rattle.asking.proofs.context.Met as context-at
use Rattle.asking.proofs.member.Met as member_at_lem
use Rattle.asking.proofs.question.Met as question-at
use Rattle.bare.proofs.ask.Met as bare-at
use Rattle.casefile.proofs.load.Met as load_at
use Rattle.lines.proofs.case_line.Met as case-line-at
use Rattle.lines.proofs.line.Met as line_at_lem
use Rattle.listing.proofs.listing.Met as listing-at
use Rattle.listing.proofs.printed.Met as printed-at
use Rattle.lines.proofs.refusal.Met as refusal-at
use Rattle.numbers.proofs.read.Met as read_at
use Rattle.plain.proofs.context.Met as plain-context-at
use Rattle.plain.proofs.question.Met as plainly-at
use Rattle.promises.specs.Calls.{ours}
use Rattle.promises.specs.Coded.{Coded}
use Rattle.season.proofs.add_all.Met as add-all-at
use Rattle.stagetext.proofs.lines.Met as stage-lines-at
use Rattle.store.proofs.Store.add.Met as add_at
use Rattle.store.proofs.Store.open.Met as open_at
use Rattle.store.proofs.Store.shape.Met as shape_at
use Rattle.store.proofs.Store.withdraw.Met as withdraw-at
use Rattle.store.proofs.judged.Met as judged-at
use Rattle.writing.proofs.write.Met as write-at

same : {X : Type 0} → X ↔ X
same = (λ x. x, λ x. x)

pub coded : Coded ours
coded = record {
  opening = record { keeps = λ M. open_at.met; free = λ κs a. tt; exact = λ κs a r e. same };
  loading = record { keeps = λ M. load_at.met; free = λ κs a. tt; exact = λ κs a r e. same };
  adding = record { keeps = λ M. add_at.met; free = λ κs a. tt; exact = λ κs a r e. same };
  adding_all = record { keeps = λ M. add-all-at.met; exact = λ M 𝓤 𝓛 mem run. refl };
  withdrawing = record { keeps = λ M. withdraw-at.met; free = λ κs a. tt; exact = λ κs a r e. same };
  question = record { keeps = λ M. question-at.met; free = λ κs a. tt; exact = λ κs a r e. same };
  context = record { keeps = λ M. context-at.met; free = λ κs a. tt; exact = λ κs a r e. same };
  member = record { keeps = λ M. member_at_lem.met; free = λ κs a. tt; exact = λ κs a r e. same };
  line = record { keeps = λ M. line_at_lem.met; free = λ κs a. tt; exact = λ κs a r e. same };
  case_line = record { keeps = λ M. case-line-at.met; free = λ κs a. tt; exact = λ κs a r e. same };
  listing = record { keeps = λ M. listing-at.met; free = λ κs a. tt; exact = λ κs a r e. same };
  writing = record { keeps = λ M. write-at.met; free = λ κs a. tt; exact = λ κs a r e. same };
  printing = record { keeps = λ M. printed-at.met; free = λ κs a. tt; exact = λ κs a r e. same };
  judging = record { keeps = λ M. judged-at.met; free = λ κs a. tt; exact = λ κs a r e. same };
  shape = record { keeps = λ M. shape_at.met; free = λ κs a. tt; exact = λ κs a r e. same };
  refusal = record { keeps = λ M. refusal-at.met; free = λ κs a. tt; exact = λ κs a r e. same };
  decoding = record { keeps = λ M. read_at.met; free = λ κs a. tt; exact = λ κs a r e. same };
  plainly = record { keeps = λ M. plainly-at.met; free = λ κs a. tt; exact = λ κs a r e. same };
  plain_context = record { keeps = λ M. plain-context-at.met; free = λ κs a. tt; exact = λ κs a r e. same };
  stage_lines = record { keeps = λ M. stage-lines-at.met; free = λ κs a. tt; exact = λ κs a r e. same };
  bare = record { keeps = λ M. bare-at.met; exact = λ M 𝓤 𝓛 mem run. refl };
}
