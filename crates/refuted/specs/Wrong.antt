-- Wrong programs, each as a value of the calls and refuted by a demand, by what a made store holds, or by what is said of forged stores: the five empty ones of document 01, then those that go wrong in one call. Nothing else cites this file. Assumes nothing.
use Rattle.replies.specs.declared.Reply.{Reply}
use Rattle.std.specs.Prelude.{Bool, ◌&&◌, not, true, List, [], ◌++◌, ◌∷◌, map, reverse, ◌≡◌, ◌+◌, ◌≤◌, suc, ℕ, eqb, ltb, drop, length, Err, None, Result, Ok}
use Rattle.asking.specs.Asking.{Left, answer_number, first_in, left, question_of, reasoned, standing}
use Rattle.asking.specs.declared.Answer.{Answer}
use Rattle.asking.specs.declared.Answer.TheVariants.{Inconsistent, Supported, Unsupported}
use Rattle.casefile.specs.Case.{Case, Reading, case_of, joined, refused, whole}
use Rattle.casefile.specs.Load.{loaded_of, recorded}
use Rattle.casefile.specs.declared.Loaded.{Loaded}
use Rattle.following.specs.First.{since_of}
use Rattle.handed.specs.Supplied.{supplied_by}
use Rattle.handed.specs.declared.Handed.{Handed}
use Rattle.items.specs.Items.{Item}
use Rattle.lent.specs.Lent.{Wrote, fitted, kept}
use Rattle.wording.specs.Wording.{line_with}
use Rattle.promises.specs.Calls.{Ask, Calls, Read, case_line, context, file, line, list_all, member, ours, plain_context, plainly, question, reads, stage_lines}
use Rattle.promises.specs.Demand1.{Refusals}
use Rattle.promises.specs.Demand2.{Demand2, IsDepth}
use Rattle.promises.specs.Demand3.{Demand3}
use Rattle.promises.specs.Made.{Input, Made, Stores, in_order}
use Rattle.promises.specs.Plain.{PlainPath, word_alone}
use Rattle.promises.specs.Season.{OneByOne}
use Rattle.promises.specs.Standing.{AsTheyStand}
use Rattle.promises.specs.Table.{ReplyTable}
use Rattle.refuted.specs.Exchange.{exchanged, with_adding, with_adding_all, with_line, with_loading, with_opening, with_plainly, with_question, with_stages, with_withdrawing}
use Rattle.replies.specs.Replies.{number_of}
use Rattle.replies.specs.declared.Reply.TheVariants.{Counts, Done, Ends, Nogoods, Number, Shape}
use Rattle.rules.specs.Held.{held_of, put, said_by}
use Rattle.rules.specs.Items.{fault_of, justification_of, same_justification}
use Rattle.rules.specs.declared.Held.{Held}
use Rattle.season.specs.Season.{give_of}
use Rattle.stages.specs.Lists.{lists_of}
use Rattle.stages.specs.declared.Lists.{Lists}
use Rattle.stagetext.specs.Stagetext.{last_stage, stage_line}
use Rattle.store.specs.Calls.{answer, is_done, no_store, store_of}
use Rattle.store.specs.Reading.{label_held, nogoods_held}
use Rattle.store.specs.Shape.{right_shape, top}
use Rattle.store.specs.declared.Outcome.{Outcome}
use Rattle.store.specs.declared.Store.{Store}
use Rattle.theory.specs.Judge.{Stage, consequents}
use Rattle.theory.specs.Lists.{all_of, choose, each, numbers_below, numbers_to, some_of, those}
use Rattle.theory.specs.Sets.{in_range, listing, together as everyOne}
use Rattle.theory.specs.Stages.{Justification, follows, minimal}

-- ---- empty programs

-- refuses each call
abbrev pub refusing_read : Store → (a : Ask) → Read a
refusing_read s (question n E) = reads (question n E) (Err Shape) s []
refusing_read s (context E out) = reads (context E out) Shape s out
refusing_read s (member n place) = reads (member n place) (Err Shape) s []
refusing_read s (line n out) = reads (line n out) (Err Shape) s out
refusing_read s (case_line out) = reads (case_line out) (Err Shape) s out
refusing_read s (list_all out) = reads (list_all out) (Err Shape) s out
refusing_read s (file out) = reads (file out) (Err Shape) s out
refusing_read s (plainly n E) = reads (plainly n E) (Err Shape) s []
refusing_read s (plain_context E out) = reads (plain_context E out) Shape s out
refusing_read s (stage_lines E out) = reads (stage_lines E out) (Err Shape) s out

abbrev pub refusing : Calls
refusing = exchanged ours (λ A M. answer Counts no_store) (λ bytes. record { reply = Ends; «record» = 0; store = no_store }) (λ s c l. answer Shape s) (λ s l out. left (answer Shape s) out) (λ s c l. answer Shape s) refusing_read

-- calls every set unsupported
abbrev pub denying : Calls
denying = with_question (λ s n E. Ok Unsupported) ours

-- adds nothing and reports 0
abbrev pub idle : Calls
idle = with_adding (λ s c l. answer Done s) ours

-- does all stages in the first add and none later: the lists stay
abbrev pub lists_kept : Store → Outcome → Outcome
lists_kept s o = record { reply = o.reply; store = record { held = o.store.held; lists = s.lists } }

abbrev pub once : Calls
once = with_adding (λ s c l. choose (eqb s.held.count 0) (ours.adding s c l) (lists_kept s (ours.adding s c l))) ours

-- a made-up depth: one too many
abbrev pub deepened : Lists → Lists
deepened l = record { sizes = l.sizes; members = l.members; count = l.count; nogoods = l.nogoods; depth = suc l.depth }

abbrev pub deeper : Outcome → Outcome
deeper o = record { reply = o.reply; store = record { held = o.store.held; lists = deepened o.store.lists } }

abbrev pub deep : Calls
deep = with_opening (λ A M. deeper (ours.opening A M)) ours

-- ---- wrong in one call

-- keeps the order of arrival: adds as ours does to what it holds put in order, but what is new stands last
abbrev pub put_in_order : Store → Store
put_in_order s = record { held = held_of s.held.assumptions s.held.claims (in_order (said_by s.held)); lists = s.lists }

abbrev pub at_the_end : Store → Justification → Lists → Store
at_the_end s j l = record { held = held_of s.held.assumptions s.held.claims (said_by s.held ++ j ∷ []); lists = l }

abbrev pub arriving : Store → Justification → Outcome → Outcome
arriving s j o = answer o.reply (choose (is_done o.reply) (at_the_end s j o.store.lists) s)

abbrev pub arrival : Calls
arrival = with_adding (λ s c l. arriving s (justification_of (top s.held) c l) (ours.adding (put_in_order s) c l)) ours

-- adds without striking: a label lists the smallest sets from which its number follows, whatever else follows from them
abbrev pub unstruck : ℕ → ℕ → List Justification → ℕ → List ℕ → Stage
unstruck A N J k bad = record { nogoods = bad; labels = map (λ n. those (minimal A (λ E. follows J k E n)) (listing A)) (numbers_to N) }

abbrev pub unstruck_lists : Store → Lists
unstruck_lists s = lists_of s.lists.depth (unstruck s.held.assumptions (top s.held) (said_by s.held) s.lists.depth (nogoods_held s.lists))

abbrev pub sparing : Outcome → Outcome
sparing o = choose (is_done o.reply) (answer Done (record { held = o.store.held; lists = unstruck_lists o.store })) o

abbrev pub lenient : Calls
lenient = with_adding (λ s c l. sparing (ours.adding s c l)) ours

-- judges a file by its prefixes: the stages of nothing, of its first record, of its first two, and so on; the first refusal decides
unfoldable pub by_prefixes : ℕ → ℕ → List Justification → List Item → Outcome
by_prefixes A M J [] = store_of no_store A M J
by_prefixes A M J (i ∷ l) =
    choose (not (is_done (store_of no_store A M J).reply)) (store_of no_store A M J)
    (by_prefixes A M (joined (justification_of (A + M) i.consequent i.supports) J) l)

abbrev pub prefixes_of : Reading Case → Loaded
prefixes_of (whole f) = recorded f.header.records (by_prefixes f.header.assumptions f.header.claims [] f.items)
prefixes_of (refused x r) = loaded_of (refused x r)

abbrev pub prefixed : Calls
prefixed = with_loading (λ bytes. prefixes_of (case_of bytes)) ours

-- a question that forgets the nogoods: supported by the first member of the label that the set contains, else unsupported
abbrev pub forgetting : Lists → ℕ → ℕ → Result Answer Reply → Result Answer Reply
forgetting l n E (Err r) = Err r
forgetting l n E (Ok (Inconsistent G)) = Ok (reasoned None (first_in (label_held l n) E))
forgetting l n E (Ok (Supported F)) = Ok (Supported F)
forgetting l n E (Ok Unsupported) = Ok Unsupported

abbrev pub forgetful : Calls
forgetful = with_question (λ s n E. forgetting s.lists n E (question_of s n E)) ours

-- opens and loads, but answers every adding that the nogoods are full
abbrev pub always_full : Calls
always_full = with_adding (λ s c l. answer Nogoods s) ours

-- adds the items of a list as far as the first refusal; the bytes after it stay
unfoldable pub up_to_refused : Store → List Handed → List Handed
up_to_refused s [] = []
up_to_refused s (h ∷ l) = h ∷ choose (ltb 1 (number_of (give_of s h).reply)) [] (up_to_refused (give_of s h).store l)

abbrev pub stopping : Calls
stopping = with_adding_all (λ s l out. choose (is_done (ours.adding_all s l out).outcome.reply) (ours.adding_all s (up_to_refused s l) out) (ours.adding_all s l out)) ours

-- judges a list at once: where its items are without fault and the stages of them all with what is held stay within the limits, all are put in
abbrev pub handed_by : Store → Handed → Justification
handed_by s h = justification_of (top s.held) h.consequent (supplied_by h)

abbrev pub together : Store → List Handed → Outcome
together s l = store_of s s.held.assumptions s.held.claims (in_order (map (handed_by s) l ++ said_by s.held))

abbrev pub faultless : Store → Handed → Bool
faultless s h = is_done (fault_of (top s.held) h.consequent (supplied_by h))

-- .. and answered 1 where they are held or came before, else 0
unfoldable pub new_ones : List Justification → List Justification → List ℕ
new_ones J [] = []
new_ones J (j ∷ l) = choose (some_of (same_justification j) J) 1 0 ∷ new_ones (j ∷ J) l

abbrev pub put_together : Store → List Handed → List ℕ → Left
put_together s l out = left (answer Done (together s l).store) (new_ones (said_by s.held) (map (handed_by s) l) ++ drop (length l) out)

abbrev pub at_once : Calls
at_once = with_adding_all (λ s l out.
    choose (is_done (ours.adding_all s l out).outcome.reply && (all_of (faultless s) l && is_done (together s l).reply)) (put_together s l out) (ours.adding_all s l out)) ours

-- withdraws the rule and keeps the lists
abbrev pub emptying : Calls
emptying = with_withdrawing (λ s c l. lists_kept s (ours.withdrawing s c l)) ours

-- withdraws every rule of the consequent
abbrev pub others_than : ℕ → List Justification → List Justification
others_than c J = those (λ j. not (eqb c j.consequent)) J

abbrev pub clearing : Calls
clearing = with_withdrawing (λ s c l. choose (is_done (ours.withdrawing s c l).reply) (store_of s s.held.assumptions s.held.claims (others_than c (said_by s.held))) (ours.withdrawing s c l)) ours

-- withdraws the rule and keeps the count: the place is not freed
abbrev pub count_kept : Store → Outcome → Outcome
count_kept s o = record {
  reply = o.reply;
  store = record { held = record { assumptions = o.store.held.assumptions; claims = o.store.held.claims; count = s.held.count; entries = o.store.held.entries }; lists = o.store.lists };
}

abbrev pub not_freed : Calls
not_freed = with_withdrawing (λ s c l. count_kept s (ours.withdrawing s c l)) ours

-- holds what names its own consequent as a support; its lists stay, as no label would change
abbrev pub holding : Store → Justification → Store
holding s j = record { held = held_of s.held.assumptions s.held.claims (put j (said_by s.held)); lists = s.lists }

abbrev pub welcoming : Calls
welcoming = with_adding (λ s c l. choose (some_of (eqb c) l) (answer Done (holding s (justification_of (top s.held) c l))) (ours.adding s c l)) ours

-- a question that works the lists out anew from the justifications and reads none: right of every made store, wrong of a forged one
abbrev pub worked_out : Held → ℕ → ℕ → Answer
worked_out h n E = standing (store_of no_store h.assumptions h.claims (said_by h)).store.lists n E

abbrev pub deducing : Calls
deducing = with_question (λ s n E. choose (eqb (answer_number (question_of s n E)) 0) (Ok (worked_out s.held n E)) (question_of s n E)) ours

-- a plain question answered from the labels: right of every made store, wrong of a forged one
abbrev pub from_labels : Calls
from_labels = with_plainly (λ s n E. word_alone (question_of s n E)) ours

-- names the set asked
abbrev pub echo : ℕ → Result Answer Reply → Result Answer Reply
echo E (Ok (Inconsistent G)) = Ok (Inconsistent E)
echo E (Ok (Supported F)) = Ok (Supported E)
echo E (Ok Unsupported) = Ok Unsupported
echo E (Err r) = Err r

abbrev pub echoing : Calls
echoing = with_question (λ s n E. echo E (question_of s n E)) ours

-- names the last nogood or member that lies within the set
abbrev pub last_named : Lists → ℕ → ℕ → Answer
last_named l n E = reasoned (first_in (reverse (nogoods_held l)) E) (first_in (reverse (label_held l n)) E)

abbrev pub lasting : Calls
lasting = with_question (λ s n E. choose (eqb (answer_number (question_of s n E)) 0) (Ok (last_named s.lists n E)) (question_of s n E)) ours

-- the line of n, f telling of an empty label whether its number follows from all assumptions together
abbrev pub lined_by : (Store → ℕ → Bool) → Store → ℕ → List ℕ → Wrote
lined_by f s n out =
    choose (not (right_shape s)) (kept Shape out)
    (choose (ltb (top s.held) n) (kept Number out)
    (fitted (line_with s.lists n (f s n)) out))

-- follows the justifications no further than the store's depth
abbrev pub at_depth : Store → ℕ → Bool
at_depth s n = follows (said_by s.held) s.lists.depth (everyOne s.held.assumptions) n

abbrev pub shallow : Calls
shallow = with_line (lined_by at_depth) ours

-- calls every empty label contradicted
abbrev pub always : Calls
always = with_line (lined_by (λ s n. true)) ours

-- follows no further once falsity has followed: its lines end with that stage
abbrev pub halted_at : List Justification → ℕ → ℕ
halted_at J E = choose (ltb (since_of J E 0) (last_stage J E)) (since_of J E 0) (last_stage J E)

abbrev pub halted_text : ℕ → List Justification → ℕ → List ℕ
halted_text N J E = each (stage_line N J E) (numbers_below (halted_at J E + 1))

abbrev pub halted_lines : Store → ℕ → List ℕ → Wrote
halted_lines s E out =
    choose (not (right_shape s)) (kept Shape out)
    (choose (not (in_range s.held.assumptions E)) (kept Number out)
    (fitted (halted_text (top s.held) (said_by s.held) E) out))

abbrev pub halting : Calls
halting = with_stages halted_lines ours

-- ---- classes

-- answers no adding with 0
abbrev pub AddsNone : Calls → Type 0
AddsNone C = (s : Store) (c : ℕ) (l : List ℕ) → (C.adding s c l).reply ≡ Done → ⊥

-- answers no loading with 0
abbrev pub LoadsNone : Calls → Type 0
LoadsNone C = (bytes : List ℕ) → (C.loading bytes).reply ≡ Done → ⊥

-- what demand 2 says of the depth
pub record Depths (C : Calls) : Type 0 where
  pub depth : {A M : ℕ} {H : Input} {s : Store} → Made C A M H s → IsDepth A (A + M) H s.lists.depth

pub record Refuted : Type 0 where
  pub refuses : Demand2 refusing → ⊥
  pub refuses_table : ReplyTable refusing → ⊥
  -- .. and any program that answers no adding with 0, or no loading
  pub adds_none : (C : Calls) → AddsNone C → Demand2 C → ⊥
  pub loads_none : (C : Calls) → LoadsNone C → Demand2 C → ⊥
  pub denies : Demand2 denying → ⊥
  pub adds_nothing : Demand2 idle → ⊥
  pub stages_once : Demand2 once → ⊥
  -- .. by the depth of its stores alone; so does any program with a made store whose depth is not the depth
  pub made_up_depth : Depths deep → ⊥
  pub any_made_up : (C : Calls) {A M : ℕ} {H : Input} {s : Store} → Made C A M H s → (IsDepth A (A + M) H s.lists.depth → ⊥) → Demand2 C → ⊥
  pub too_deep : ((A M : ℕ) (H : Input) (s : Store) → Made deep A M H s → s.lists.depth ≤ length (consequents H)) → ⊥
  pub keeps_arrival : Demand3 arrival → ⊥
  pub strikes_nothing : Demand2 lenient → ⊥
  pub judges_prefixes : Demand2 prefixed → ⊥
  pub forgets_nogoods : Demand2 forgetful → ⊥
  pub calls_all_full : Demand2 always_full → ⊥
  pub stops_at_the_depth : Demand2 shallow → ⊥
  pub calls_all_contradicted : Demand2 always → ⊥
  pub stops_at_falsity : PlainPath halting → ⊥
  pub names_the_asked : Demand2 echoing → ⊥
  pub names_the_last : Demand2 lasting → ⊥
  pub holds_its_own : Stores welcoming → ⊥
  pub stops_at_a_refusal : OneByOne stopping → ⊥
  pub judges_at_once : OneByOne at_once → ⊥
  pub withdraws_no_list : Demand2 emptying → ⊥
  pub clears_a_consequent : Stores clearing → ⊥
  pub frees_no_place : Stores not_freed → ⊥
  pub reads_labels : AsTheyStand from_labels → ⊥
  -- .. of which the plain path cannot tell
  pub reads_labels_untold : PlainPath from_labels
  pub reads_no_list : AsTheyStand deducing → ⊥
  -- .. of which no other demand can tell
  pub reads_no_list_untold : Refusals deducing × Demand2 deducing × Demand3 deducing × Stores deducing × OneByOne deducing × PlainPath deducing
