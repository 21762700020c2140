-- Two answers that the generated contract of a public function allows are equal, with all that it leaves in lent places. Assumes nothing.
use Rattle.std.specs.Prelude.{◌≡◌}
use contract.Lifetimes.{Lfts}
use denote.Triple.Clauses.{Ended, Lasts, at_exit}
use denote.Triple.Entry.{Args, Res}
use Rattle.asking.specs.contracts.context as context-at
use Rattle.asking.proofs.context.Reads as context-reads
use Rattle.asking.specs.contracts.member as member_at_lem
use Rattle.asking.proofs.member.Reads as member-reads
use Rattle.asking.specs.contracts.question as question-at
use Rattle.asking.proofs.question.Reads as question-reads
use Rattle.casefile.specs.contracts.load as load_at
use Rattle.casefile.proofs.load.Reads as load-reads
use Rattle.following.specs.contracts.from_all as from-all-at
use Rattle.following.proofs.from_all.Reads as from-all-reads
use Rattle.items.specs.contracts.header as header_at
use Rattle.items.proofs.header.Reads as header-reads
use Rattle.items.specs.contracts.record as record-at
use Rattle.items.proofs.record.Reads as record-reads
use Rattle.joining.specs.contracts.pool.Pool.late as late-at
use Rattle.joining.proofs.pool.Pool.late.Reads as late-reads
use Rattle.labels.specs.contracts.build as build-at
use Rattle.labels.proofs.build.Reads as build-reads
use Rattle.members.specs.contracts.first_within as first-within-at
use Rattle.members.proofs.first_within.Reads as first-within-reads
use Rattle.listing.specs.contracts.listing as listing-at
use Rattle.listing.proofs.listing.Reads as listing-reads
use Rattle.listing.specs.contracts.printed as printed-at
use Rattle.listing.proofs.printed.Reads as printed-reads
use Rattle.labels.specs.contracts.stirred as stirred-at
use Rattle.labels.proofs.stirred.Reads as stirred-reads
use Rattle.wording.specs.contracts.lined as lined-at
use Rattle.wording.proofs.lined.Reads as lined-reads
use Rattle.lines.specs.contracts.case_line as case-line-at
use Rattle.lines.proofs.case_line.Reads as case-line-reads
use Rattle.lines.specs.contracts.line as line_at_lem
use Rattle.lines.proofs.line.Reads as line_reads_lem
use Rattle.lines.specs.contracts.refusal as refusal-at
use Rattle.lines.proofs.refusal.Reads as refusal-reads
use Rattle.numbers.specs.contracts.read as read_at
use Rattle.numbers.proofs.read.Reads as read-reads
use Rattle.numbers.specs.contracts.Reader.number as next-number-at
use Rattle.numbers.proofs.Reader.number.Reads as next-number-reads
use Rattle.numbers.specs.contracts.Reader.two as next-two-at
use Rattle.numbers.proofs.Reader.two.Reads as next-two-reads
use Rattle.numbers.specs.contracts.two as two_at
use Rattle.numbers.proofs.two.Reads as two-reads
use Rattle.replies.specs.contracts.number as number_at
use Rattle.replies.proofs.number.Reads as number-reads
use Rattle.holding.specs.contracts.holds as holds_at
use Rattle.holding.proofs.holds.Reads as holds-reads
use Rattle.holding.specs.contracts.insert as insert-at
use Rattle.holding.proofs.insert.Reads as insert-reads
use Rattle.rules.specs.contracts.Held.nothing as nothing-at
use Rattle.rules.proofs.Held.nothing.Reads as nothing-reads
use Rattle.holding.specs.contracts.remove as remove-at
use Rattle.holding.proofs.remove.Reads as remove-reads
use Rattle.rules.specs.contracts.Held.right as right-at
use Rattle.rules.proofs.Held.right.Reads as right-reads
use Rattle.rules.specs.contracts.canonical as canonical-at
use Rattle.rules.proofs.canonical.Reads as canonical-reads
use Rattle.rules.specs.contracts.fault as fault-at
use Rattle.rules.proofs.fault.Reads as fault-reads
use Rattle.script.specs.contracts.bytes as bytes-at
use Rattle.script.proofs.bytes.Reads as bytes-reads
use Rattle.script.specs.contracts.field as field_at
use Rattle.script.proofs.field.Reads as field-reads
use Rattle.script.specs.contracts.has_above as has-above-at
use Rattle.script.proofs.has_above.Reads as has-above-reads
use Rattle.script.specs.contracts.has_zero as has-zero-at
use Rattle.script.proofs.has_zero.Reads as has-zero-reads
use Rattle.script.specs.contracts.line_end as line-end-at
use Rattle.script.proofs.line_end.Reads as line-end-reads
use Rattle.script.specs.contracts.numbers as numerals-at
use Rattle.script.proofs.numbers.Reads as numerals-reads
use Rattle.script.specs.contracts.same as same_at
use Rattle.script.proofs.same.Reads as same_Reads
use Rattle.script.specs.contracts.set_of as set-of-at
use Rattle.script.proofs.set_of.Reads as set-of-reads
use Rattle.season.specs.contracts.add_all as add-all-at
use Rattle.season.specs.contracts.add_some as add-some-at
use Rattle.season.proofs.add_some.Reads as add-some-reads
use Rattle.sets.specs.contracts.before as before_at
use Rattle.sets.proofs.before.Reads as before-reads
use Rattle.sets.specs.contracts.has as has-at
use Rattle.sets.proofs.has.Reads as has-reads
use Rattle.sets.specs.contracts.low as low-at
use Rattle.sets.proofs.low.Reads as low_reads
use Rattle.sets.specs.contracts.meet as meet-at
use Rattle.sets.proofs.meet.Reads as meet-reads
use Rattle.sets.specs.contracts.only as only_at
use Rattle.sets.proofs.only.Reads as only-reads
use Rattle.sets.specs.contracts.union as union-at
use Rattle.sets.proofs.union.Reads as union-reads
use Rattle.sets.specs.contracts.within as within_at
use Rattle.sets.proofs.within.Reads as within-reads
use Rattle.sets.specs.contracts.without as without_at
use Rattle.sets.proofs.without.Reads as without-reads
use Rattle.shape.specs.contracts.right as lists_at
use Rattle.shape.proofs.right.Reads as lists-reads
use Rattle.slices.specs.contracts.equal as equal-at
use Rattle.slices.proofs.equal.Reads as equal-reads
use Rattle.slices.specs.contracts.has as has-number-at
use Rattle.slices.proofs.has.Reads as has-number-reads
use Rattle.slices.specs.contracts.over as over-top-at
use Rattle.slices.proofs.over.Reads as over-top-reads
use Rattle.slices.specs.contracts.zeros as zeros-at
use Rattle.slices.proofs.zeros.Reads as zeros-reads
use Rattle.stages.specs.contracts.judge as judge-at
use Rattle.stages.proofs.judge.Reads as judge-reads
use Rattle.stages.specs.contracts.start as start-at
use Rattle.stages.proofs.start.Reads as start-reads
use Rattle.store.specs.contracts.Store.add as add_at
use Rattle.store.proofs.Store.add.Reads as add_reads
use Rattle.store.specs.contracts.Store.after as after-at
use Rattle.store.proofs.Store.after.Reads as after-reads
use Rattle.store.specs.contracts.Store.refusal as store-refusal-at
use Rattle.store.proofs.Store.refusal.Reads as store-refusal-reads
use Rattle.changing.specs.contracts.less as less-at
use Rattle.changing.proofs.less.Reads as less-reads
use Rattle.changing.specs.contracts.more as more-at
use Rattle.changing.proofs.more.Reads as more-reads
use Rattle.store.specs.contracts.Store.open as open_at
use Rattle.store.proofs.Store.open.Reads as open-reads
use Rattle.store.specs.contracts.Store.shape as shape_at
use Rattle.store.proofs.Store.shape.Reads as shape-reads
use Rattle.store.specs.contracts.Store.withdraw as withdraw-at
use Rattle.store.proofs.Store.withdraw.Reads as withdraw-reads
use Rattle.store.specs.contracts.judged as judged-at
use Rattle.store.proofs.judged.Reads as judged-reads
use Rattle.text.specs.contracts.Writer.braces as braces-at
use Rattle.text.proofs.Writer.braces.Reads as braces-reads
use Rattle.text.specs.contracts.Writer.word as copy_at
use Rattle.text.proofs.Writer.word.Reads as copy-reads
use Rattle.text.specs.contracts.Writer.head as head_at
use Rattle.text.proofs.Writer.head.Reads as head-reads
use Rattle.text.specs.contracts.Writer.line as row_at
use Rattle.text.proofs.Writer.line.Reads as row_reads
use Rattle.text.specs.contracts.Writer.refused as refused-at
use Rattle.text.proofs.Writer.refused.Reads as refused-reads
use Rattle.text.specs.contracts.Writer.new as begun-at
use Rattle.text.proofs.Writer.new.Reads as begun-reads
use Rattle.text.specs.contracts.Writer.byte as byte-at
use Rattle.text.proofs.Writer.byte.Reads as byte-reads
use Rattle.text.specs.contracts.Writer.text as text-at
use Rattle.text.proofs.Writer.text.Reads as text-reads
use Rattle.wording.specs.contracts.head as line-one-at
use Rattle.wording.proofs.head.Reads as line-one-reads
use Rattle.lent.specs.contracts.fit as fit_at
use Rattle.lent.proofs.fit.Reads as fit-reads
use Rattle.writing.specs.contracts.write as write-at
use Rattle.writing.proofs.write.Reads as write-reads
use Rattle.promises.specs.Calls.{ours}
use Rattle.following.specs.contracts.stages as following-stages-at
use Rattle.following.proofs.stages.Reads as following-stages-reads
use Rattle.following.specs.contracts.mark as following-mark-at
use Rattle.following.proofs.mark.Reads as following-mark-reads
use Rattle.plain.specs.contracts.sown as sown_at
use Rattle.plain.proofs.sown.Reads as sown-reads
use Rattle.plain.specs.contracts.follow as follow-at
use Rattle.plain.proofs.follow.Reads as follow-reads
use Rattle.plain.specs.contracts.word as plain-word-at
use Rattle.plain.proofs.word.Reads as plain-word-reads
use Rattle.plain.specs.contracts.fill as plain-fill-at
use Rattle.plain.proofs.fill.Reads as plain-fill-reads
use Rattle.plain.specs.contracts.question as plainly-at
use Rattle.plain.proofs.question.Reads as plainly-reads
use Rattle.plain.specs.contracts.context as plain-context-at
use Rattle.plain.proofs.context.Reads as plain-context-reads
use Rattle.stagetext.specs.contracts.put as put-at
use Rattle.stagetext.proofs.put.Reads as put_reads
use Rattle.stagetext.specs.contracts.lines as stage-lines-at
use Rattle.stagetext.proofs.lines.Reads as stage-lines-reads
use Rattle.text.specs.contracts.Writer.number as digits-at
use Rattle.text.proofs.Writer.number.Reads as digits-reads
use Rattle.text.specs.contracts.Writer.field as spaced-at
use Rattle.text.proofs.Writer.field.Reads as spaced-reads
use Rattle.bare.specs.contracts.ask_some as ask-some-at
use Rattle.bare.proofs.ask_some.Reads as ask-some-reads
use Rattle.bare.specs.contracts.ask as bare-at
use Rattle.promises.specs.Coded.{all_added, bare_asked}
use Rattle.promises.specs.Keeps.{Claim}

-- what is said of a result holds of one at most
abbrev pub One : {X : Type 0} → (X → Type 0) → Type 0
One {X} P = (r r' : X) → P r → P r' → r ≡ r'

-- of a contract's claim: one result, and one last value of every place lent
abbrev pub Once : (T : Ended) → Claim T → Type 0
Once T P = (κs : Lfts T.signature.lifetimes) (a : Args T.signature κs) (r r' : Res T.signature κs) (w w' : Lasts T κs a) → P κs a r (at_exit T κs a w) → P κs a r' (at_exit T κs a w') → (r ≡ r') × (w ≡ w')

pub record OnceEach : Type 0 where
  pub open_one : Once open_at.ended open-reads.Learnt
  pub add_one : Once add_at.ended add_reads.Learnt
  pub more_one : Once more-at.ended more-reads.Learnt
  pub less_one : Once less-at.ended less-reads.Learnt
  pub after_one : Once after-at.ended after-reads.Learnt
  pub store_refusal_one : Once store-refusal-at.ended store-refusal-reads.Learnt
  pub add_all_one : Once add-all-at.ended (all_added ours)
  pub add_some_one : Once add-some-at.ended add-some-reads.Learnt
  pub withdraw_one : Once withdraw-at.ended withdraw-reads.Learnt
  pub judged_one : Once judged-at.ended judged-reads.Learnt
  pub shape_one : Once shape_at.ended shape-reads.Learnt
  pub question_one : Once question-at.ended question-reads.Learnt
  pub context_one : Once context-at.ended context-reads.Learnt
  pub member_one : Once member_at_lem.ended member-reads.Learnt
  pub line_one : Once line_at_lem.ended line_reads_lem.Learnt
  pub case_line_one : Once case-line-at.ended case-line-reads.Learnt
  pub refusal_one : Once refusal-at.ended refusal-reads.Learnt
  pub listing_one : Once listing-at.ended listing-reads.Learnt
  pub printed_one : Once printed-at.ended printed-reads.Learnt
  pub write_one : Once write-at.ended write-reads.Learnt
  pub fit_one : Once fit_at.ended fit-reads.Learnt
  pub lined_one : Once lined-at.ended lined-reads.Learnt
  pub load_one : Once load_at.ended load-reads.Learnt
  pub number_one : Once number_at.ended number-reads.Learnt
  pub union_one : Once union-at.ended union-reads.Learnt
  pub within_one : Once within_at.ended within-reads.Learnt
  pub meet_one : Once meet-at.ended meet-reads.Learnt
  pub without_one : Once without_at.ended without-reads.Learnt
  pub only_one : Once only_at.ended only-reads.Learnt
  pub has_one : Once has-at.ended has-reads.Learnt
  pub before_one : Once before_at.ended before-reads.Learnt
  pub low_one : Once low-at.ended low_reads.Learnt
  pub has_number_one : Once has-number-at.ended has-number-reads.Learnt
  pub over_top_one : Once over-top-at.ended over-top-reads.Learnt
  pub zeros_one : Once zeros-at.ended zeros-reads.Learnt
  pub equal_one : Once equal-at.ended equal-reads.Learnt
  pub fault_one : Once fault-at.ended fault-reads.Learnt
  pub canonical_one : Once canonical-at.ended canonical-reads.Learnt
  pub nothing_one : Once nothing-at.ended nothing-reads.Learnt
  pub right_one : Once right-at.ended right-reads.Learnt
  pub holds_one : Once holds_at.ended holds-reads.Learnt
  pub insert_one : Once insert-at.ended insert-reads.Learnt
  pub remove_one : Once remove-at.ended remove-reads.Learnt
  pub from_all_one : Once from-all-at.ended from-all-reads.Learnt
  pub first_within_one : Once first-within-at.ended first-within-reads.Learnt
  pub late_one : Once late-at.ended late-reads.Learnt
  pub stirred_one : Once stirred-at.ended stirred-reads.Learnt
  pub build_one : Once build-at.ended build-reads.Learnt
  pub start_one : Once start-at.ended start-reads.Learnt
  pub judge_one : Once judge-at.ended judge-reads.Learnt
  pub lists_one : Once lists_at.ended lists-reads.Learnt
  pub copy_one : Once copy_at.ended copy-reads.Learnt
  pub braces_one : Once braces-at.ended braces-reads.Learnt
  pub row_one : Once row_at.ended row_reads.Learnt
  pub head_one : Once head_at.ended head-reads.Learnt
  pub refused_one : Once refused-at.ended refused-reads.Learnt
  pub begun_one : Once begun-at.ended begun-reads.Learnt
  pub byte_one : Once byte-at.ended byte-reads.Learnt
  -- of a part of lent bytes that is handed out: the bytes
  pub text_one : (κs : Lfts text-at.ended.signature.lifetimes) (a : Args text-at.ended.signature κs) (r r' : Res text-at.ended.signature κs) (w w' : Lasts text-at.ended κs a) → text-reads.Learnt κs a r (at_exit text-at.ended κs a w) → text-reads.Learnt κs a r' (at_exit text-at.ended κs a w') → r.now ≡ r'.now
  pub line_one_one : Once line-one-at.ended line-one-reads.Learnt
  pub read_one : Once read_at.ended read-reads.Learnt
  pub next_number_one : Once next-number-at.ended next-number-reads.Learnt
  pub next_two_one : Once next-two-at.ended next-two-reads.Learnt
  pub two_one : Once two_at.ended two-reads.Learnt
  pub header_one : Once header_at.ended header-reads.Learnt
  pub record_one : Once record-at.ended record-reads.Learnt
  pub line_end_one : Once line-end-at.ended line-end-reads.Learnt
  pub field_one : Once field_at.ended field-reads.Learnt
  pub numerals_one : Once numerals-at.ended numerals-reads.Learnt
  pub bytes_one : Once bytes-at.ended bytes-reads.Learnt
  pub same_one : Once same_at.ended same_Reads.Learnt
  pub has_zero_one : Once has-zero-at.ended has-zero-reads.Learnt
  pub has_above_one : Once has-above-at.ended has-above-reads.Learnt
  pub set_of_one : Once set-of-at.ended set-of-reads.Learnt
  pub following_stages_one : Once following-stages-at.ended following-stages-reads.Learnt
  pub following_mark_one : Once following-mark-at.ended following-mark-reads.Learnt
  pub sown_one : Once sown_at.ended sown-reads.Learnt
  pub follow_one : Once follow-at.ended follow-reads.Learnt
  pub plain_word_one : Once plain-word-at.ended plain-word-reads.Learnt
  pub plain_fill_one : Once plain-fill-at.ended plain-fill-reads.Learnt
  pub plainly_one : Once plainly-at.ended plainly-reads.Learnt
  pub plain_context_one : Once plain-context-at.ended plain-context-reads.Learnt
  pub put_one : Once put-at.ended put_reads.Learnt
  pub stage_lines_one : Once stage-lines-at.ended stage-lines-reads.Learnt
  pub digits_one : Once digits-at.ended digits-reads.Learnt
  pub spaced_one : Once spaced-at.ended spaced-reads.Learnt
  pub ask_some_one : Once ask-some-at.ended ask-some-reads.Learnt
  pub bare_one : Once bare-at.ended (bare_asked ours)
