-- What crosses the door is what the calls say: of any arguments each function of crate door ends, is safe, asks nothing and answers what C says, in numbers; and nothing is lost by it. Assumes nothing.
use Rattle.std.specs.Prelude.{List, ◌≡◌, ℕ}
use Rattle.casefile.specs.declared.Loaded.{Loaded}
use Rattle.door.specs.contracts.barely.door_bare as bare-at
use Rattle.door.proofs.barely.door_bare.Symbol as bare-code
use Rattle.door.specs.contracts.making.door_add as add_at
use Rattle.door.proofs.making.door_add.Reads as add_reads
use Rattle.door.proofs.making.door_add.Symbol as add-code
use Rattle.door.specs.contracts.making.door_add_all as add-all-at
use Rattle.door.proofs.making.door_add_all.Symbol as add-all-code
use Rattle.door.specs.contracts.making.door_load as load_at
use Rattle.door.proofs.making.door_load.Reads as load-reads
use Rattle.door.proofs.making.door_load.Symbol as load_code
use Rattle.door.specs.contracts.making.door_open as open_at
use Rattle.door.proofs.making.door_open.Reads as open-reads
use Rattle.door.proofs.making.door_open.Symbol as open_code
use Rattle.door.specs.contracts.making.door_withdraw as withdraw-at
use Rattle.door.proofs.making.door_withdraw.Reads as withdraw-reads
use Rattle.door.proofs.making.door_withdraw.Symbol as withdraw-code
use Rattle.door.specs.contracts.reading.door_context as context-at
use Rattle.door.proofs.reading.door_context.Reads as context-reads
use Rattle.door.proofs.reading.door_context.Symbol as context-code
use Rattle.door.specs.contracts.reading.door_member as member_at_lem
use Rattle.door.proofs.reading.door_member.Reads as member-reads
use Rattle.door.proofs.reading.door_member.Symbol as member-code
use Rattle.door.specs.contracts.reading.door_plain_context as plain-context-at
use Rattle.door.proofs.reading.door_plain_context.Reads as plain-context-reads
use Rattle.door.proofs.reading.door_plain_context.Symbol as plain-context-code
use Rattle.door.specs.contracts.reading.door_plain_question as plainly-at
use Rattle.door.proofs.reading.door_plain_question.Reads as plainly-reads
use Rattle.door.proofs.reading.door_plain_question.Symbol as plainly-code
use Rattle.door.specs.contracts.reading.door_question as question-at
use Rattle.door.proofs.reading.door_question.Reads as question-reads
use Rattle.door.proofs.reading.door_question.Symbol as question-code
use Rattle.door.specs.contracts.reading.door_shape as shape_at
use Rattle.door.proofs.reading.door_shape.Reads as shape-reads
use Rattle.door.proofs.reading.door_shape.Symbol as shape-code
use Rattle.door.specs.contracts.texts.door_case_line as case-line-at
use Rattle.door.proofs.texts.door_case_line.Reads as case-line-reads
use Rattle.door.proofs.texts.door_case_line.Symbol as case-line-code
use Rattle.door.specs.contracts.texts.door_line as line_at_lem
use Rattle.door.proofs.texts.door_line.Reads as line_reads_lem
use Rattle.door.proofs.texts.door_line.Symbol as line_code
use Rattle.door.specs.contracts.texts.door_listing as listing-at
use Rattle.door.proofs.texts.door_listing.Reads as listing-reads
use Rattle.door.proofs.texts.door_listing.Symbol as listing-code
use Rattle.door.specs.contracts.texts.door_printed as printed-at
use Rattle.door.proofs.texts.door_printed.Reads as printed-reads
use Rattle.door.proofs.texts.door_printed.Symbol as printed-code
use Rattle.door.specs.contracts.texts.door_refusal as refusal-at
use Rattle.door.proofs.texts.door_refusal.Reads as refusal-reads
use Rattle.door.proofs.texts.door_refusal.Symbol as refusal-code
use Rattle.door.specs.contracts.texts.door_stages as stages_at
use Rattle.door.proofs.texts.door_stages.Reads as stages-reads
use Rattle.door.proofs.texts.door_stages.Symbol as stages-code
use Rattle.door.specs.contracts.texts.door_write as write-at
use Rattle.door.proofs.texts.door_write.Reads as write-reads
use Rattle.door.proofs.texts.door_write.Symbol as write-code
use Rattle.across.specs.Across.{barely_by, found_by, loaded_by, made_by, plainly_by, query_by, reasoned_by, wrote_by}
use Rattle.across.specs.declared.Asked.{Asked}
use Rattle.handed.specs.declared.Handed.{Handed}
use Rattle.lent.specs.Lent.{fitted}
use Rattle.promises.specs.Calls.{Calls, case_line, context, file, line, list_all, member, ours, plain_context, plainly, question, stage_lines}
use Rattle.promises.specs.Keeps.{Claim, Tied, Walked}
use Rattle.promises.specs.Once.{Once}
use Rattle.replies.specs.Replies.{number_of}
use Rattle.replies.specs.declared.Reply.{Reply}
use Rattle.store.specs.declared.Outcome.{Outcome}
use Rattle.store.specs.declared.Store.{Store}
use Rattle.text.specs.Texts.{refusal as refusalLine}

-- ---- each function, held to its compiled code: a the arguments, r the result, e the parameters at exit

abbrev pub all_added : Calls → Claim add-all-at.ended
all_added C κs a r e =
    (r ≡ made_by (C.adding_all a.0 a.1.0.now a.1.1.0.now).outcome)
    × (e.1.1.0.now ≡ (C.adding_all a.0 a.1.0.now a.1.1.0.now).bytes)

abbrev pub bare_asked : Calls → Claim bare-at.ended
bare_asked C κs a r e =
    (r ≡ barely_by (C.bare (query_by a.0) a.1.0.now a.1.1.0.now).answer)
    × (e.1.1.0.now ≡ (C.bare (query_by a.0) a.1.0.now a.1.1.0.now).bytes)

pub record Crosses (C : Calls) : Type 2 where
  pub opening : Tied open_at.ended open_code.code open_code.name open-reads.Asked open-reads.Learnt
      (λ κs a r e. r ≡ made_by (C.opening a.0 a.1.0))
  pub loading : Tied load_at.ended load_code.code load_code.name load-reads.Asked load-reads.Learnt
      (λ κs a r e. r ≡ loaded_by (C.loading a.0.now))
  pub adding : Tied add_at.ended add-code.code add-code.name add_reads.Asked add_reads.Learnt
      (λ κs a r e. r ≡ made_by (C.adding a.0 a.1.0 a.1.1.0.now))
  pub adding_all : Walked add-all-at.ended add-all-code.code add-all-code.name (λ M 𝓤 𝓛. add-all-at.clauses 𝓛) (all_added C)
  pub withdrawing : Tied withdraw-at.ended withdraw-code.code withdraw-code.name withdraw-reads.Asked withdraw-reads.Learnt
      (λ κs a r e. r ≡ made_by (C.withdrawing a.0 a.1.0 a.1.1.0.now))
  pub shape : Tied shape_at.ended shape-code.code shape-code.name shape-reads.Asked shape-reads.Learnt
      (λ κs a r e. r ≡ C.shape a.0)
  pub question : Tied question-at.ended question-code.code question-code.name question-reads.Asked question-reads.Learnt
      (λ κs a r e. r ≡ reasoned_by (C.reading a.0 (question a.1.0 a.1.1.0)).said)
  pub context : Tied context-at.ended context-code.code context-code.name context-reads.Asked context-reads.Learnt
      (λ κs a r e. (r ≡ number_of (C.reading a.0 (context a.1.0 a.1.1.0.now)).said) × (e.1.1.0.now ≡ (C.reading a.0 (context a.1.0 a.1.1.0.now)).bytes))
  pub member : Tied member_at_lem.ended member-code.code member-code.name member-reads.Asked member-reads.Learnt
      (λ κs a r e. r ≡ found_by (C.reading a.0 (member a.1.0 a.1.1.0)).said)
  pub line : Tied line_at_lem.ended line_code.code line_code.name line_reads_lem.Asked line_reads_lem.Learnt
      (λ κs a r e. (r ≡ wrote_by (C.reading a.0 (line a.1.0 a.1.1.0.now)).said) × (e.1.1.0.now ≡ (C.reading a.0 (line a.1.0 a.1.1.0.now)).bytes))
  pub case_line : Tied case-line-at.ended case-line-code.code case-line-code.name case-line-reads.Asked case-line-reads.Learnt
      (λ κs a r e. (r ≡ wrote_by (C.reading a.0 (case_line a.1.0.now)).said) × (e.1.0.now ≡ (C.reading a.0 (case_line a.1.0.now)).bytes))
  pub listing : Tied listing-at.ended listing-code.code listing-code.name listing-reads.Asked listing-reads.Learnt
      (λ κs a r e. (r ≡ wrote_by (C.reading a.0 (list_all a.1.0.now)).said) × (e.1.0.now ≡ (C.reading a.0 (list_all a.1.0.now)).bytes))
  pub plainly : Tied plainly-at.ended plainly-code.code plainly-code.name plainly-reads.Asked plainly-reads.Learnt
      (λ κs a r e. r ≡ plainly_by (C.reading a.0 (plainly a.1.0 a.1.1.0)).said)
  pub plain_context : Tied plain-context-at.ended plain-context-code.code plain-context-code.name plain-context-reads.Asked plain-context-reads.Learnt
      (λ κs a r e. (r ≡ number_of (C.reading a.0 (plain_context a.1.0 a.1.1.0.now)).said) × (e.1.1.0.now ≡ (C.reading a.0 (plain_context a.1.0 a.1.1.0.now)).bytes))
  pub stage_lines : Tied stages_at.ended stages-code.code stages-code.name stages-reads.Asked stages-reads.Learnt
      (λ κs a r e. (r ≡ wrote_by (C.reading a.0 (stage_lines a.1.0 a.1.1.0.now)).said) × (e.1.1.0.now ≡ (C.reading a.0 (stage_lines a.1.0 a.1.1.0.now)).bytes))
  pub bare : Walked bare-at.ended bare-code.code bare-code.name (λ M 𝓤 𝓛. bare-at.clauses 𝓛) (bare_asked C)
  pub file : Tied write-at.ended write-code.code write-code.name write-reads.Asked write-reads.Learnt
      (λ κs a r e. (r ≡ wrote_by (C.reading a.0 (file a.1.0.now)).said) × (e.1.0.now ≡ (C.reading a.0 (file a.1.0.now)).bytes))
  pub refusal : Tied refusal-at.ended refusal-code.code refusal-code.name refusal-reads.Asked refusal-reads.Learnt
      (λ κs a r e. (r ≡ wrote_by (fitted (refusalLine a.0 a.1.0) a.1.1.0.now).answer) × (e.1.1.0.now ≡ (fitted (refusalLine a.0 a.1.0) a.1.1.0.now).bytes))
  -- .. which at each reply's number is the call's own line
  pub refusals : (r : Reply) (k : ℕ) (out : List ℕ) → C.refusal r k out ≡ fitted (refusalLine (number_of r) k) out
  pub printing : Tied printed-at.ended printed-code.code printed-code.name printed-reads.Asked printed-reads.Learnt
      (λ κs a r e. (r ≡ wrote_by (C.printing a.0.now a.1.0.now).answer) × (e.1.0.now ≡ (C.printing a.0.now a.1.0.now).bytes))

-- ---- a contract allows one answer

pub record OnceAcross : Type 0 where
  pub opening : Once open_at.ended open-reads.Learnt
  pub loading : Once load_at.ended load-reads.Learnt
  pub adding : Once add_at.ended add_reads.Learnt
  pub adding_all : Once add-all-at.ended (all_added ours)
  pub withdrawing : Once withdraw-at.ended withdraw-reads.Learnt
  pub shape : Once shape_at.ended shape-reads.Learnt
  pub question : Once question-at.ended question-reads.Learnt
  pub context : Once context-at.ended context-reads.Learnt
  pub member : Once member_at_lem.ended member-reads.Learnt
  pub line : Once line_at_lem.ended line_reads_lem.Learnt
  pub case_line : Once case-line-at.ended case-line-reads.Learnt
  pub listing : Once listing-at.ended listing-reads.Learnt
  pub plainly : Once plainly-at.ended plainly-reads.Learnt
  pub plain_context : Once plain-context-at.ended plain-context-reads.Learnt
  pub stage_lines : Once stages_at.ended stages-reads.Learnt
  pub bare : Once bare-at.ended (bare_asked ours)
  pub file : Once write-at.ended write-reads.Learnt
  pub refusal : Once refusal-at.ended refusal-reads.Learnt
  pub printing : Once printed-at.ended printed-reads.Learnt

-- ---- nothing is lost: what crosses alike was said alike

abbrev pub Alike : {X Y : Type 0} → (X → Y) → X → X → Type 0
Alike f x y = f x ≡ f y → x ≡ y

pub record ToldApart (C : Calls) : Type 0 where
  pub made : (o p : Outcome) → Alike made_by o p
  pub loaded : (l k : Loaded) → Alike loaded_by l k
  pub questions : (s t : Store) (n m E F : ℕ) → Alike reasoned_by (C.reading s (question n E)).said (C.reading t (question m F)).said
  pub contexts : (s t : Store) (E F : ℕ) (out into : List ℕ) → Alike number_of (C.reading s (context E out)).said (C.reading t (context F into)).said
  pub members : (s t : Store) (n m i j : ℕ) → Alike found_by (C.reading s (member n i)).said (C.reading t (member m j)).said
  pub lines : (s t : Store) (n m : ℕ) (out into : List ℕ) → Alike wrote_by (C.reading s (line n out)).said (C.reading t (line m into)).said
  pub firsts : (s t : Store) (out into : List ℕ) → Alike wrote_by (C.reading s (case_line out)).said (C.reading t (case_line into)).said
  pub listings : (s t : Store) (out into : List ℕ) → Alike wrote_by (C.reading s (list_all out)).said (C.reading t (list_all into)).said
  pub plainlies : (s t : Store) (n m E F : ℕ) → Alike plainly_by (C.reading s (plainly n E)).said (C.reading t (plainly m F)).said
  pub plain_contexts : (s t : Store) (E F : ℕ) (out into : List ℕ) → Alike number_of (C.reading s (plain_context E out)).said (C.reading t (plain_context F into)).said
  pub stages : (s t : Store) (E F : ℕ) (out into : List ℕ) → Alike wrote_by (C.reading s (stage_lines E out)).said (C.reading t (stage_lines F into)).said
  pub files : (s t : Store) (out into : List ℕ) → Alike wrote_by (C.reading s (file out)).said (C.reading t (file into)).said
  -- .. to the same question: a word, the reply of the context, or the length of the lines
  pub bares : (q p : Asked) (l k : List Handed) (out into : List ℕ) → q.what ≡ p.what → Alike barely_by (C.bare (query_by q) l out).answer (C.bare (query_by p) k into).answer
  pub prints : (bytes others out into : List ℕ) → Alike wrote_by (C.printing bytes out).answer (C.printing others into).answer

pub record Threshold (C : Calls) : Type 2 where
  pub crosses : Crosses C
  pub once : OnceAcross
  pub apart : ToldApart C
