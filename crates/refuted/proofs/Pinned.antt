-- What the shared definitions give, as it is written out. Assumes nothing.
use Rattle.std.specs.Prelude.{Some, None, Ok, Err}
use mathlib.Core.Bool.{Bool, true}
use mathlib.Core.List.{◌++◌, ◌∷◌, List, [], map}
use mathlib.Core.Option.{some}
use mathlib.Core.Path.{◌∙◌, ◌≡◌, ap, ap₂, refl}
use Prim.Native.Nat.{◌<◌, ◌≤◌, ℕ}
use Prim.Native.String.{String}
use native.Mathlib.Omega.{arith}
use lib.Count.{ones}
use lib.ListN.{drop, get_or, length}
use Rattle.asking.specs.Asking.{answer_set, first_in, question_of, reasoned}
use Rattle.asking.specs.declared.Answer.TheVariants.{Inconsistent, Supported, Unsupported}
use Rattle.bare.specs.Bare.{answered, ask_of, barely, faults_of, tell_of, wrote_as}
use Rattle.bare.specs.declared.Told.TheVariants.{Filled, Lines, Word}
use Rattle.bare.specs.declared.What.{What}
use Rattle.bare.specs.declared.What.TheVariants.{Context, Number as Of, Stages}
use Rattle.casefile.specs.Case.{Case, case_of, records_from, whole}
use Rattle.following.specs.First.{since_of, up_to}
use Rattle.handed.specs.Supplied.{supplied_by}
use Rattle.items.specs.Items.{Item, header_from, numbers_from, record_from, unless}
use Rattle.lent.specs.Lent.{fitted, kept, written_length}
use Rattle.std.proofs.Common.{Ok, Err}
use Rattle.lines.specs.Lines.{refusal_text}
use Rattle.wording.specs.Wording.{word_of}
use Rattle.numbers.specs.Numbers.{number_from, second_from}
use Rattle.plain.specs.Plainly.{byte_of, plain_by}
use Rattle.plain.specs.declared.Plain.{Plain}
use Rattle.plain.specs.declared.Plain.TheVariants.{Inconsistent as Against, Supported as Plainly, Unsupported as Neither}
use Rattle.promises.proofs.Files.{files}
use Rattle.promises.proofs.Form.{Form, form_said}
use Rattle.promises.proofs.Plain.{plain_path}
use Rattle.promises.proofs.Standing.{as_they_stand}
use Rattle.promises.proofs.Truth.{demand_2}
use Rattle.promises.specs.Calls.{Read, case_line, context, file, line, ours, over, plain_context, reads, stage_lines, written}
use Rattle.promises.specs.Demand2.{byte_by, carried_by, contradicted_by, first_text}
use Rattle.promises.specs.Files.{file_for}
use Rattle.promises.specs.Made.{Made, in_order, put_in}
use Rattle.promises.specs.Plain.{asking, unthird}
use Rattle.refuted.proofs.Cases.{answers, prints}
use Rattle.refuted.proofs.Files.{file_are, file_done, file_form, file_made}
use Rattle.refuted.specs.Cases.{ListsAre}
use Rattle.refuted.specs.Pinned.{Pinned, PrintsFile, Refuses, keys_bytes, long_item, own_item, sowing, sowing_bytes, sowing_file, sowing_list}
use Rattle.replies.specs.declared.Reply.{Reply}
use Rattle.replies.specs.declared.Reply.TheVariants.{After, Done, Itself, Label, Long, Number, Short, Supports}
use Rattle.rules.specs.Held.{put}
use Rattle.rules.specs.Items.{fault_of, same_justification, set_of}
use Rattle.stages.specs.declared.Lists.{Lists}
use Rattle.stagetext.specs.Stagetext.{last_stage, latest, stage_line, stage_text}
use Rattle.store.specs.Reading.{label_held}
use Rattle.store.specs.declared.Store.{Store}
use Rattle.text.specs.Texts.{braced, digits, digits_in, field, heading, joined, refusal, row, spaced, word}
use Rattle.theory.specs.Cases.{at, from, verdict}
use Rattle.theory.specs.Demands.{carries, contradicts, follows_from_all}
use Rattle.theory.specs.Judge.{judge, same_sets}
use Rattle.theory.specs.Limits.{limits}
use Rattle.theory.specs.Lists.{alike, all_of, choose, each, numbers_below, numbers_to, some_of, those}
use Rattle.theory.specs.Places.{table}
use Rattle.theory.specs.Sets.{among, by_size, contains, digit, in_range, listing, together, within}
use Rattle.theory.specs.Stages.{Justification, ahead, follows, gives, lesser}
use Rattle.listing.proofs.Cases.{beside_printed, beyond_printed, empty_printed, listed_printed, long_printed, twice_printed}
use Rattle.listing.specs.Listing.{listing_of}
use Rattle.writing.specs.Writing.{bytes_of, record_for}
use borrow.Author.Tests.{le-ltb}

abbrev item : ℕ → List ℕ → Item
item c l = record { consequent = c; supports = l }

abbrev sown : Case
sown = record {
  header = record { assumptions = 3; claims = 4; records = 6 };
  items = item 0 (2 ∷ 3 ∷ []) ∷ item 4 (1 ∷ []) ∷ item 5 (2 ∷ []) ∷ item 6 (3 ∷ 4 ∷ []) ∷ item 7 (3 ∷ 5 ∷ []) ∷ item 0 (1 ∷ 2 ∷ []) ∷ [];
}

abbrev keyed : Case
keyed = record {
  header = record { assumptions = 3; claims = 3; records = 7 };
  items = item 6 (1 ∷ []) ∷ item 5 (2 ∷ 3 ∷ []) ∷ item 4 (1 ∷ 2 ∷ []) ∷ item 5 (1 ∷ 3 ∷ []) ∷ item 0 (1 ∷ 2 ∷ 3 ∷ []) ∷ item 5 (1 ∷ 2 ∷ []) ∷ item 4 (3 ∷ []) ∷ [];
}

spelled : (case_of sowing_bytes ≡ whole sown) × (case_of keys_bytes ≡ whole keyed)
unfolding case_of header_from number_from second_from records_from record_from numbers_from unless fault_of some_of
spelled = (refl, refl)

abbrev sown_held : List Justification
sown_held = from 0 (1 ∷ 2 ∷ []) ∷ from 0 (2 ∷ 3 ∷ []) ∷ from 4 (1 ∷ []) ∷ from 5 (2 ∷ []) ∷ from 6 (3 ∷ 4 ∷ []) ∷ from 7 (3 ∷ 5 ∷ []) ∷ []

abbrev keyed_held : List Justification
keyed_held = from 0 (1 ∷ 2 ∷ 3 ∷ []) ∷ from 4 (3 ∷ []) ∷ from 4 (1 ∷ 2 ∷ []) ∷ from 5 (1 ∷ 2 ∷ []) ∷ from 5 (1 ∷ 3 ∷ []) ∷ from 5 (2 ∷ 3 ∷ []) ∷ from 6 (1 ∷ []) ∷ []

held : (in_order (put_in sown) ≡ sown_held) × (in_order (put_in keyed) ≡ keyed_held)
unfolding in_order put set_of those some_of numbers_below same_justification same_sets alike ahead lesser
held = (refl, refl)

judged : (judge limits 3 7 sown_held ≡ at 2 (3 ∷ 6 ∷ []) ((1 ∷ []) ∷ (2 ∷ []) ∷ (4 ∷ []) ∷ (1 ∷ []) ∷ (2 ∷ []) ∷ (5 ∷ []) ∷ [] ∷ []))
    × (judge limits 3 6 keyed_held ≡ at 1 (7 ∷ []) ((1 ∷ []) ∷ (2 ∷ []) ∷ (4 ∷ []) ∷ (4 ∷ 3 ∷ []) ∷ (3 ∷ 5 ∷ 6 ∷ []) ∷ (1 ∷ []) ∷ []))
unfolding verdict
judged = (refl, refl)

-- ---- the sowing

abbrev s : Store
s = sowing ours

made : Made ours 3 4 (put_in sown) s
made = file_made sowing_bytes sown spelled.0 (omega arith)

form : Form 3 4 (put_in sown) s
form = file_form sowing_bytes sown spelled.0 (omega arith)

are : ListsAre s 2 (3 ∷ 6 ∷ []) ((1 ∷ []) ∷ (2 ∷ []) ∷ (4 ∷ []) ∷ (1 ∷ []) ∷ (2 ∷ []) ∷ (5 ∷ []) ∷ [] ∷ [])
are = file_are sowing_bytes sown spelled.0 (omega arith) 2 _ (ap (judge limits 3 7) held.0 ∙ judged.0)

-- seven labels, one by one
seven : (l : Lists) (ls : List (List ℕ)) → map (label_held l) (numbers_to 7) ≡ ls
    → (label_held l 1 ≡ get_or ls 0 []) × (label_held l 2 ≡ get_or ls 1 []) × (label_held l 3 ≡ get_or ls 2 []) × (label_held l 4 ≡ get_or ls 3 []) × (label_held l 5 ≡ get_or ls 4 []) × (label_held l 6 ≡ get_or ls 5 []) × (label_held l 7 ≡ get_or ls 6 [])
unfolding numbers_to numbers_below
seven l ls p =
    let g : ℕ → List (List ℕ) → List ℕ = λ i x. get_or x i [] in
    (ap (g 0) p, ap (g 1) p, ap (g 2) p, ap (g 3) p, ap (g 4) p, ap (g 5) p, ap (g 6) p)

abbrev with : ℕ → List ℕ → Bool → List ℕ
with n l c = row limits.assumptions n (word_of n l c) l

-- of a list that is not empty, and of the nogoods, whatever follows
texts : (c : Bool) → (with 0 (3 ∷ 6 ∷ []) c ≡ word "0 nogood {1,2} {2,3}\n") × (with 1 (1 ∷ []) c ≡ word "1 supported {1}\n") × (with 2 (2 ∷ []) c ≡ word "2 supported {2}\n") × (with 3 (4 ∷ []) c ≡ word "3 supported {3}\n")
    × (with 4 (1 ∷ []) c ≡ word "4 supported {1}\n") × (with 5 (2 ∷ []) c ≡ word "5 supported {2}\n") × (with 6 (5 ∷ []) c ≡ word "6 supported {1,3}\n") × (with 7 [] true ≡ word "7 contradicted\n")
unfolding row word_of digits digits_in spaced each word braced joined those among digit numbers_to numbers_below
texts c = (refl, refl, refl, refl, refl, refl, refl, refl)

seven_follows : follows_from_all 3 (put_in sown) 7 ≡ true
unfolding follows_from_all together follows among digit some_of gives all_of set_of those numbers_below
seven_follows = refl

six_long : length (word "6 supported {1,3}\n") ≡ 18
unfolding word
six_long = refl

first_text_lem : (heading 3 4 6 2 ≡ word "case 3 4 6 2\n") × (length (word "case 3 4 6 2\n") ≡ 13)
unfolding heading field digits digits_in word
first_text_lem = (refl, refl)

case_text_lem : first_text 3 4 (put_in sown) s ≡ word "case 3 4 6 2\n"
case_text_lem = ap₂ (λ (n d : ℕ). heading 3 4 n d) (ap length held.0) are.depth ∙ first_text_lem.0

first_line : (out : List ℕ) → 13 ≤ length out → ours.reading s (case_line out) ≡ reads (case_line out) (written (word "case 3 4 6 2\n")) s (over (word "case 3 4 6 2\n") out)
first_line out h =
    (demand_2.tells made).case_line out (omega (arith, ap length case_text_lem, first_text_lem.1)) ∙ ap (λ (t : List ℕ). reads (case_line out) (written t) s (over t out)) case_text_lem

sown_file : file_for 3 4 (put_in sown) ≡ sowing_file
unfolding each bytes_of record_for
sown_file = ap (λ (J : List Justification). each bytes_of (3 ∷ 4 ∷ length J ∷ each record_for J)) held.0

named : (reasoned (first_in (3 ∷ 6 ∷ []) 5) (first_in (5 ∷ []) 5) ≡ Supported 5) × (reasoned (first_in (3 ∷ 6 ∷ []) 5) (first_in [] 5) ≡ Unsupported) × (reasoned (first_in (3 ∷ 6 ∷ []) 6) (first_in [] 6) ≡ Inconsistent 6)
unfolding first_in within
named = (refl, refl, refl)

asked : (question_of s 6 5 ≡ Ok (Supported 5)) × (question_of s 7 5 ≡ Ok Unsupported) × (question_of s 7 6 ≡ Ok (Inconsistent 6))
asked =
    let l = seven s.lists _ are.labels in (
      answers form 6 5 (omega arith) (omega arith) _ _ are.nogoods l.5 ∙ ap Ok named.0,
      answers form 7 5 (omega arith) (omega arith) _ _ are.nogoods l.6 ∙ ap Ok named.1,
      answers form 7 6 (omega arith) (omega arith) _ _ are.nogoods l.6 ∙ ap Ok named.2,
    )

table_of : (table 8 (byte_by 3 (put_in sown) 5) ≡ 0 ∷ 1 ∷ 0 ∷ 1 ∷ 1 ∷ 0 ∷ 1 ∷ 3 ∷ []) × (table 8 (byte_by 3 (put_in sown) 6) ≡ 2 ∷ 2 ∷ 2 ∷ 2 ∷ 2 ∷ 2 ∷ 2 ∷ 2 ∷ [])
unfolding table contradicted_by carried_by follows_from_all together listing by_size ones carries contradicts follows among digit some_of gives all_of set_of those numbers_below
table_of = (refl, refl)

-- ---- without labels

abbrev lines : List ℕ
lines = word "0 2 3\n1 0 2 3 5\n2 0 2 3 5 7\n"

lines_long : length lines ≡ 28
unfolding word
lines_long = refl

-- by what was put in, and by the bare list
words : (plain_by (put_in sown) 5 6 ≡ Plainly) × (plain_by (put_in sown) 5 7 ≡ Neither) × (plain_by (put_in sown) 6 7 ≡ Against) × (plain_by (barely 7 sowing_list) 5 6 ≡ Plainly)
unfolding plain_by carries contradicts follows among digit some_of gives all_of set_of those numbers_below supplied_by
words = (refl, refl, refl, refl)

staged : (stage_text 7 (put_in sown) 6 ≡ lines) × (stage_text 7 (barely 7 sowing_list) 6 ≡ lines)
unfolding stage_text stage_line last_stage latest since_of up_to follows among digit gives some_of all_of those each numbers_below table digits digits_in field word set_of supplied_by
staged = (refl, refl)

unthirded : (rest : List ℕ) → table 8 (λ n. unthird (get_or ((0 ∷ 1 ∷ 0 ∷ 1 ∷ 1 ∷ 0 ∷ 1 ∷ 3 ∷ []) ++ rest) n 0)) ≡ 0 ∷ 1 ∷ 0 ∷ 1 ∷ 1 ∷ 0 ∷ 1 ∷ 0 ∷ []
unfolding table
unthirded rest = refl

listed_bytes_lem : table 8 (λ n. byte_of (plain_by (barely 7 sowing_list) 5 n)) ≡ 0 ∷ 1 ∷ 0 ∷ 1 ∷ 1 ∷ 0 ∷ 1 ∷ 0 ∷ []
unfolding table plain_by carries contradicts follows among digit some_of gives all_of set_of those numbers_below supplied_by
listed_bytes_lem = refl

faultless : faults_of 7 sowing_list ≡ Done
unfolding faults_of fault_of some_of supplied_by
faultless = refl

by_list : (w : What) (E : ℕ) (out : List ℕ) → E < 8 → ask_of (asking 3 4 w E) sowing_list out ≡ tell_of 7 (barely 7 sowing_list) E w out
by_list w E out h = plain_path.bare (asking 3 4 w E) sowing_list out (omega arith) (omega arith) faultless h

list_bytes : (out : List ℕ) → 8 ≤ length out → ask_of (asking 3 4 Context 5) sowing_list out ≡ answered (Ok Filled) ((0 ∷ 1 ∷ 0 ∷ 1 ∷ 1 ∷ 0 ∷ 1 ∷ 0 ∷ []) ++ drop 8 out)
list_bytes out h =
    by_list Context 5 out (omega arith)
    ∙ ap (λ (b : Bool). choose b (answered (Err Short) out) (answered (Ok Filled) (table 8 (λ n. byte_of (plain_by (barely 7 sowing_list) 5 n)) ++ drop 8 out))) (le-ltb (length out) 8 h)
    ∙ ap (λ (t : List ℕ). answered (Ok Filled) (t ++ drop 8 out)) listed_bytes_lem

list_lines : (out : List ℕ) → 28 ≤ length out → ask_of (asking 3 4 Stages 6) sowing_list out ≡ answered (Ok (Lines 28)) (lines ++ drop 28 out)
unfolding fitted
list_lines out h =
    by_list Stages 6 out (omega arith) ∙ ap (λ (t : List ℕ). wrote_as (fitted t out)) staged.1
    ∙ ap (λ (b : Bool). wrote_as (choose b (kept Short out) (record { answer = Ok (length lines); bytes = lines ++ drop (length lines) out }))) (le-ltb (length out) (length lines) (omega (arith, lines_long)))
    ∙ ap (λ (n : ℕ). answered (Ok (Lines n)) (lines ++ drop n out)) lines_long

list_refused : (out : List ℕ) → (ask_of (asking 3 4 (Of 6) 5) (own_item ∷ long_item ∷ []) out ≡ answered (Err Itself) out)
    × (ask_of (asking 3 4 Context 5) (long_item ∷ own_item ∷ []) out ≡ answered (Err Supports) out) × (ask_of (asking 3 4 Stages 8) sowing_list out ≡ answered (Err Number) out)
    × (ask_of (asking 3 4 (Of 8) 5) sowing_list out ≡ answered (Err Number) out)
unfolding ask_of faults_of fault_of some_of supplied_by in_range
list_refused out = (refl, refl, refl, refl)

-- ---- refusals

refusals : (refusal_text (Label 14) 13 ≡ word "refused 8 13\n") × (refusal_text Long 0 ≡ word "refused 14 0\n") × (refusal_text After 256 ≡ word "refused 13 256\n")
unfolding refusal_text refusal field digits digits_in word
refusals = (refl, refl, refl)

refuses : (r : Reply) (k : ℕ) (t : String) → refusal_text r k ≡ word t → Refuses ours r k t
refuses r k t e out h =
    as_they_stand.refusal r k out (omega (arith, ap length e)) ∙ ap (λ (x : List ℕ). record { answer = written x; bytes = over x out }) e

word_bytes : word "case {1,2}\n" ≡ 99 ∷ 97 ∷ 115 ∷ 101 ∷ 32 ∷ 123 ∷ 49 ∷ 44 ∷ 50 ∷ 125 ∷ 10 ∷ []
unfolding word
word_bytes = refl

-- what is printed of a file
printed_as : (bytes : List ℕ) (t : String) → listing_of bytes ≡ word t → PrintsFile ours bytes t
unfolding fitted
printed_as bytes t e out h = ap (λ (x : List ℕ). fitted x out) e ∙ rw (le-ltb (length out) (length (word t)) h)

longer_serves : map (contains (1 ∷ 6 ∷ 3 ∷ [])) (numbers_below 8) ≡ map (contains (1 ∷ 6 ∷ [])) (numbers_below 8)
unfolding contains some_of within numbers_below
longer_serves = refl

pub pinned : Pinned ours
pinned =
    let l = seven s.lists _ are.labels in
    record {
      limits_are = refl;
      numbers = refl;
      bytes = word_bytes;
      sowing_done = file_done sowing_bytes sown spelled.0 (omega arith);
      sowing_first = first_line;
      sowing_0 = prints form 0 (omega arith) _ _ "0 nogood {1,2} {2,3}\n" are.nogoods refl (texts _).0;
      sowing_1 = prints form 1 (omega arith) _ _ "1 supported {1}\n" l.0 refl (texts _).1;
      sowing_2 = prints form 2 (omega arith) _ _ "2 supported {2}\n" l.1 refl (texts _).2;
      sowing_3 = prints form 3 (omega arith) _ _ "3 supported {3}\n" l.2 refl (texts _).3;
      sowing_4 = prints form 4 (omega arith) _ _ "4 supported {1}\n" l.3 refl (texts _).4;
      sowing_5 = prints form 5 (omega arith) _ _ "5 supported {2}\n" l.4 refl (texts _).5;
      sowing_6 = prints form 6 (omega arith) _ _ "6 supported {1,3}\n" l.5 refl (texts _).6;
      sowing_7 = prints form 7 (omega arith) _ _ "7 contradicted\n" l.6 seven_follows (texts true).7;
      sowing_length = λ out h.
          let p = prints form 6 (omega arith) _ _ "6 supported {1,3}\n" l.5 refl (texts _).6 out (omega (arith, six_long)) in
          ap (λ (x : Read (line 6 out)). written_length x.said) p ∙ ap some six_long;
      sowing_asked = asked;
      sowing_named = (ap answer_set asked.0, ap answer_set asked.1, ap answer_set asked.2);
      sowing_context = λ out h. (demand_2.tells made).context 5 out (omega arith) (omega arith) ∙ ap (λ (t : List ℕ). reads (context 5 out) Done s (t ++ drop 8 out)) table_of.0;
      sowing_against = λ out h. (demand_2.tells made).context 6 out (omega arith) (omega arith) ∙ ap (λ (t : List ℕ). reads (context 6 out) Done s (t ++ drop 8 out)) table_of.1;
      sowing_plain = (
        plain_path.says made 6 5 (omega arith) (omega arith) ∙ ap Ok words.0,
        plain_path.says made 7 5 (omega arith) (omega arith) ∙ ap Ok words.1,
        plain_path.says made 7 6 (omega arith) (omega arith) ∙ ap Ok words.2,
      );
      sowing_bytes_lem = λ out h.
          let e : (ours.reading s (context 5 out)).bytes ≡ (0 ∷ 1 ∷ 0 ∷ 1 ∷ 1 ∷ 0 ∷ 1 ∷ 3 ∷ []) ++ drop 8 out =
          ap (λ (x : Read (context 5 out)). x.bytes) ((demand_2.tells made).context 5 out (omega arith) (omega arith)) ∙ ap (λ (t : List ℕ). t ++ drop 8 out) table_of.0 in
          plain_path.context_bytes_lem made 5 out (omega arith) h
          ∙ ap (λ (b : List ℕ). reads (plain_context 5 out) Done s (table 8 (λ n. unthird (get_or b n 0)) ++ drop 8 out)) e
          ∙ ap (λ (t : List ℕ). reads (plain_context 5 out) Done s (t ++ drop 8 out)) (unthirded (drop 8 out));
      sowing_stages = λ out h. plain_path.lines made 6 out (omega arith) (omega (arith, ap length staged.0, lines_long)) ∙ ap (λ (t : List ℕ). reads (stage_lines 6 out) (written t) s (over t out)) staged.0;
      bare_word = λ out. by_list (Of 6) 5 out (omega arith) ∙ ap (λ (x : Plain). answered (Ok (Word x)) out) words.3;
      bare_context = list_bytes;
      bare_stages = list_lines;
      bare_refused = list_refused;
      sowing_file_lem = λ out h. files.says made out (omega (arith, ap length sown_file)) ∙ ap (λ (t : List ℕ). reads (file out) (written t) s (over t out)) sown_file;
      eighteen = printed_as _ _ listed_printed;
      twice = printed_as _ _ twice_printed;
      beyond = printed_as _ _ beyond_printed;
      beside = printed_as _ _ beside_printed;
      nothing = printed_as _ _ empty_printed;
      long = λ bytes h. printed_as bytes _ (long_printed bytes h);
      longer = (longer_serves, omega arith);
      label_refused = refuses (Label 14) 13 "refused 8 13\n" refusals.0;
      long_refused = refuses Long 0 "refused 14 0\n" refusals.1;
      after_refused = refuses After 256 "refused 13 256\n" refusals.2;
      keys_held = form_said (file_form keys_bytes keyed spelled.1 (omega arith)) ∙ held.1;
      keys_lists = file_are keys_bytes keyed spelled.1 (omega arith) 1 _ (ap (judge limits 3 6) held.1 ∙ judged.1);
    }
