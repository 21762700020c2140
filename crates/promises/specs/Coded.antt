-- The calls held to the compiled code: of any arguments, each of the functions ends, is safe, and answers and leaves in the lent bytes what C says. Assumes nothing.
use Rattle.std.specs.Prelude.{List, ◌≡◌, ℕ, Result}
use Rattle.asking.specs.contracts.context as context-at
use Rattle.asking.proofs.context.Reads as context-reads
use Rattle.asking.proofs.context.Symbol as context-code
use Rattle.asking.specs.contracts.member as member_at_lem
use Rattle.asking.proofs.member.Reads as member-reads
use Rattle.asking.proofs.member.Symbol as member-code
use Rattle.asking.specs.contracts.question as question-at
use Rattle.asking.proofs.question.Reads as question-reads
use Rattle.asking.proofs.question.Symbol as question-code
use Rattle.asking.specs.Asking.{Left, left}
use Rattle.asking.specs.declared.Asked.{Asked}
use Rattle.asking.specs.declared.Shown.{Shown}
use Rattle.bare.specs.contracts.ask as bare-at
use Rattle.bare.proofs.ask.Symbol as bare-code
use Rattle.bare.specs.Bare.{answered}
use Rattle.casefile.specs.contracts.load as load_at
use Rattle.casefile.proofs.load.Reads as load-reads
use Rattle.casefile.proofs.load.Symbol as load_code
use Rattle.lines.specs.contracts.case_line as case-line-at
use Rattle.lines.proofs.case_line.Reads as case-line-reads
use Rattle.lines.proofs.case_line.Symbol as case-line-code
use Rattle.lines.specs.contracts.line as line_at_lem
use Rattle.lines.proofs.line.Reads as line_reads_lem
use Rattle.lines.proofs.line.Symbol as line_code
use Rattle.listing.specs.contracts.listing as listing-at
use Rattle.listing.proofs.listing.Reads as listing-reads
use Rattle.listing.proofs.listing.Symbol as listing-code
use Rattle.listing.specs.contracts.printed as printed-at
use Rattle.listing.proofs.printed.Reads as printed-reads
use Rattle.listing.proofs.printed.Symbol as printed-code
use Rattle.lines.specs.contracts.refusal as refusal-at
use Rattle.lines.proofs.refusal.Reads as refusal-reads
use Rattle.lines.proofs.refusal.Symbol as refusal-code
use Rattle.lent.specs.Lent.{Wrote}
use Rattle.lent.specs.declared.Listed.{Listed}
use Rattle.numbers.specs.contracts.read as read_at
use Rattle.numbers.proofs.read.Reads as read-reads
use Rattle.numbers.proofs.read.Symbol as read-code
use Rattle.plain.specs.contracts.context as plain-context-at
use Rattle.plain.proofs.context.Reads as plain-context-reads
use Rattle.plain.proofs.context.Symbol as plain-context-code
use Rattle.plain.specs.contracts.question as plainly-at
use Rattle.plain.proofs.question.Reads as plainly-reads
use Rattle.plain.proofs.question.Symbol as plainly-code
use Rattle.plain.specs.declared.Told.{Told}
use Rattle.promises.specs.Calls.{Calls, Read, case_line, context, file, line, list_all, member, plain_context, plainly, question, stage_lines}
use Rattle.promises.specs.Keeps.{Claim, Tied, Walked}
use Rattle.season.specs.contracts.add_all as add-all-at
use Rattle.season.proofs.add_all.Symbol as add-all-code
use Rattle.stagetext.specs.contracts.lines as stage-lines-at
use Rattle.stagetext.proofs.lines.Reads as stage-lines-reads
use Rattle.stagetext.proofs.lines.Symbol as stage-lines-code
use Rattle.store.specs.contracts.Store.add as add_at
use Rattle.store.proofs.Store.add.Reads as add_reads
use Rattle.store.proofs.Store.add.Symbol as add-code
use Rattle.store.specs.contracts.Store.open as open_at
use Rattle.store.proofs.Store.open.Reads as open-reads
use Rattle.store.proofs.Store.open.Symbol as open_code
use Rattle.store.specs.contracts.Store.shape as shape_at
use Rattle.store.proofs.Store.shape.Reads as shape-reads
use Rattle.store.proofs.Store.shape.Symbol as shape-code
use Rattle.store.specs.contracts.Store.withdraw as withdraw-at
use Rattle.store.proofs.Store.withdraw.Reads as withdraw-reads
use Rattle.store.proofs.Store.withdraw.Symbol as withdraw-code
use Rattle.store.specs.contracts.judged as judged-at
use Rattle.store.proofs.judged.Reads as judged-reads
use Rattle.store.proofs.judged.Symbol as judged-code
use Rattle.store.specs.Calls.{answer}
use Rattle.writing.specs.contracts.write as write-at
use Rattle.writing.proofs.write.Reads as write-reads
use Rattle.writing.proofs.write.Symbol as write-code
use Rattle.replies.specs.declared.Reply.{Reply}

-- ---- the structs in which the code hands over what a call leaves

abbrev pub asked : {n E : ℕ} → Read (question n E) → Asked
asked x = record { answer = x.said; store = x.store }

abbrev pub contexted : {E : ℕ} {out : List ℕ} → Read (context E out) → Left
contexted x = left (answer x.said x.store) x.bytes

abbrev pub shown : {n place : ℕ} → Read (member n place) → Shown
shown x = record { answer = x.said; store = x.store }

abbrev pub lined : {n : ℕ} {out : List ℕ} → Read (line n out) → Listed
lined x = record { answer = x.said; store = x.store }

abbrev pub headed : {out : List ℕ} → Read (case_line out) → Listed
headed x = record { answer = x.said; store = x.store }

abbrev pub listed_by : {out : List ℕ} → Read (list_all out) → Listed
listed_by x = record { answer = x.said; store = x.store }

abbrev pub filed : {out : List ℕ} → Read (file out) → Listed
filed x = record { answer = x.said; store = x.store }

abbrev pub told : {n E : ℕ} → Read (plainly n E) → Told
told x = record { answer = x.said; store = x.store }

abbrev pub plain_contexted : {E : ℕ} {out : List ℕ} → Read (plain_context E out) → Left
plain_contexted x = left (answer x.said x.store) x.bytes

abbrev pub staged : {E : ℕ} {out : List ℕ} → Read (stage_lines E out) → Listed
staged x = record { answer = x.said; store = x.store }

abbrev pub wrote : Result ℕ Reply → List ℕ → Wrote
wrote r b = record { answer = r; bytes = b }

-- what `add_all` ensures
abbrev pub all_added : Calls → Claim add-all-at.ended
all_added C κs a r e =
    (r ≡ (C.adding_all a.0 a.1.0.now a.1.1.0.now).outcome)
    × (e.1.1.0.now ≡ (C.adding_all a.0 a.1.0.now a.1.1.0.now).bytes)

-- what `ask` of a bare list ensures
abbrev pub bare_asked : Calls → Claim bare-at.ended
bare_asked C κs a r e = answered r e.1.1.0.now ≡ C.bare a.0 a.1.0.now a.1.1.0.now

-- ---- the functions: a the arguments, r the result, e the parameters at exit

pub record Coded (C : Calls) : Type 2 where
  pub opening : Tied open_at.ended open_code.code open_code.name open-reads.Asked open-reads.Learnt
      (λ κs a r e. r ≡ C.opening a.0 a.1.0)
  pub loading : Tied load_at.ended load_code.code load_code.name load-reads.Asked load-reads.Learnt
      (λ κs a r e. r ≡ C.loading a.0.now)
  pub adding : Tied add_at.ended add-code.code add-code.name add_reads.Asked add_reads.Learnt
      (λ κs a r e. r ≡ C.adding a.0 a.1.0 a.1.1.0.now)
  pub adding_all : Walked add-all-at.ended add-all-code.code add-all-code.name (λ M 𝓤 𝓛. add-all-at.clauses 𝓛) (all_added C)
  pub withdrawing : Tied withdraw-at.ended withdraw-code.code withdraw-code.name withdraw-reads.Asked withdraw-reads.Learnt
      (λ κs a r e. r ≡ C.withdrawing a.0 a.1.0 a.1.1.0.now)
  pub question : Tied question-at.ended question-code.code question-code.name question-reads.Asked question-reads.Learnt
      (λ κs a r e. r ≡ asked (C.reading a.0 (question a.1.0 a.1.1.0)))
  pub context : Tied context-at.ended context-code.code context-code.name context-reads.Asked context-reads.Learnt
      (λ κs a r e. left r e.1.1.0.now ≡ contexted (C.reading a.0 (context a.1.0 a.1.1.0.now)))
  pub member : Tied member_at_lem.ended member-code.code member-code.name member-reads.Asked member-reads.Learnt
      (λ κs a r e. r ≡ shown (C.reading a.0 (member a.1.0 a.1.1.0)))
  pub line : Tied line_at_lem.ended line_code.code line_code.name line_reads_lem.Asked line_reads_lem.Learnt
      (λ κs a r e. (r ≡ lined (C.reading a.0 (line a.1.0 a.1.1.0.now))) × (e.1.1.0.now ≡ (C.reading a.0 (line a.1.0 a.1.1.0.now)).bytes))
  pub case_line : Tied case-line-at.ended case-line-code.code case-line-code.name case-line-reads.Asked case-line-reads.Learnt
      (λ κs a r e. (r ≡ headed (C.reading a.0 (case_line a.1.0.now))) × (e.1.0.now ≡ (C.reading a.0 (case_line a.1.0.now)).bytes))
  pub listing : Tied listing-at.ended listing-code.code listing-code.name listing-reads.Asked listing-reads.Learnt
      (λ κs a r e. (r ≡ listed_by (C.reading a.0 (list_all a.1.0.now))) × (e.1.0.now ≡ (C.reading a.0 (list_all a.1.0.now)).bytes))
  pub writing : Tied write-at.ended write-code.code write-code.name write-reads.Asked write-reads.Learnt
      (λ κs a r e. (r ≡ filed (C.reading a.0 (file a.1.0.now))) × (e.1.0.now ≡ (C.reading a.0 (file a.1.0.now)).bytes))
  pub printing : Tied printed-at.ended printed-code.code printed-code.name printed-reads.Asked printed-reads.Learnt
      (λ κs a r e. wrote r e.1.0.now ≡ C.printing a.0.now a.1.0.now)
  pub judging : Tied judged-at.ended judged-code.code judged-code.name judged-reads.Asked judged-reads.Learnt
      (λ κs a r e. r ≡ C.judging a.0)
  pub shape : Tied shape_at.ended shape-code.code shape-code.name shape-reads.Asked shape-reads.Learnt
      (λ κs a r e. r ≡ C.shape a.0)
  pub refusal : Tied refusal-at.ended refusal-code.code refusal-code.name refusal-reads.Asked refusal-reads.Learnt
      (λ κs a r e. wrote r e.1.1.0.now ≡ C.refusal a.0 a.1.0 a.1.1.0.now)
  pub decoding : Tied read_at.ended read-code.code read-code.name read-reads.Asked read-reads.Learnt
      (λ κs a r e. r ≡ C.decoding a.0.now a.1.0)
  pub plainly : Tied plainly-at.ended plainly-code.code plainly-code.name plainly-reads.Asked plainly-reads.Learnt
      (λ κs a r e. r ≡ told (C.reading a.0 (plainly a.1.0 a.1.1.0)))
  pub plain_context : Tied plain-context-at.ended plain-context-code.code plain-context-code.name plain-context-reads.Asked plain-context-reads.Learnt
      (λ κs a r e. left r e.1.1.0.now ≡ plain_contexted (C.reading a.0 (plain_context a.1.0 a.1.1.0.now)))
  pub stage_lines : Tied stage-lines-at.ended stage-lines-code.code stage-lines-code.name stage-lines-reads.Asked stage-lines-reads.Learnt
      (λ κs a r e. (r ≡ staged (C.reading a.0 (stage_lines a.1.0 a.1.1.0.now))) × (e.1.1.0.now ≡ (C.reading a.0 (stage_lines a.1.0 a.1.1.0.now)).bytes))
  pub bare : Walked bare-at.ended bare-code.code bare-code.name (λ M 𝓤 𝓛. bare-at.clauses 𝓛) (bare_asked C)
