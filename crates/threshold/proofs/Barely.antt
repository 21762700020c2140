-- What crossed of a bare list, read back by what was asked. Assumes nothing.
use mathlib.Core.Bool.{Bool, ◌||◌, false, not, true, true≢false}
use mathlib.Core.List.{List, [], ◌++◌, ◌∷◌}
use mathlib.Core.Path.{◌≡◌, ap, refl, subst, sym}
use Prim.Native.Nat.{◌+◌, ℕ, suc, zero}
use lib.Dec.{eqb, ltb}
use lib.ListN.{drop, length}
use Rattle.bare.specs.Bare.{Answered, answered, ask_of, barely, fault_of_item, faults_of, tell_of, said_as, wrote_as}
use Rattle.bare.specs.declared.Told.{Told as Barely}
use Rattle.bare.specs.declared.Told.TheVariants.{Filled, Lines, Word}
use Rattle.across.specs.Across.{barely_by, query_by, what_by}
use Rattle.across.specs.declared.Asked.{Asked}
use Rattle.across.specs.declared.Told.{Told}
use Rattle.handed.specs.Supplied.{supplied_by}
use Rattle.handed.specs.declared.Handed.{Handed}
use Rattle.std.specs.Prelude.{Result, Ok, Err}
use Rattle.lent.specs.Lent.{Wrote, fitted, kept}
use Rattle.plain.specs.Plainly.{byte_of, plain_by}
use Rattle.plain.specs.declared.Plain.{Plain}
use Rattle.plain.specs.declared.Plain.TheVariants.{Inconsistent as Contradicted, Supported as Followed, Unsupported as Unreached}
use Rattle.theory.specs.Demands.{carries, contradicts}
use Rattle.replies.specs.Replies.{number_of}
use Rattle.replies.specs.declared.Reply.{Reply}
use Rattle.replies.specs.declared.Reply.TheVariants.{Counts, Done, Falsity, Itself, Number, Short, Supports}
use Rattle.rules.specs.Items.{fault_of}
use Rattle.stagetext.specs.Stagetext.{stage_text}
use Rattle.store.specs.Calls.{is_done}
use Rattle.theory.specs.Limits.{over_counts}
use Rattle.theory.specs.Lists.{choose, some_of}
use Rattle.theory.specs.Places.{table}
use Rattle.theory.specs.Sets.{in_range}
use Rattle.theory.specs.Stages.{Justification}
use Rattle.threshold.proofs.Back.{Replied, by_back, chosen, plain_from, reply_of}
use Rattle.threshold.specs.Crossing.{Alike}

-- the answer to what was asked by its number, by the reply, what was asked, and the value
abbrev answer_from : ℕ → ℕ → ℕ → Result Barely Reply
answer_from (suc k) w v = Err (reply_of (suc k) 0)
answer_from zero zero v = said_as Word (plain_from zero v)
answer_from zero (suc zero) v = Ok Filled
answer_from zero (suc (suc w)) v = Ok (Lines v)

abbrev barely_from : ℕ → Told → Result Barely Reply
barely_from w t = answer_from t.reply w t.value

-- an answer to what was asked by the number w reads back
abbrev Reads : ℕ → Result Barely Reply → Type 0
Reads w a = barely_from w (barely_by a) ≡ a

abbrev Back : ℕ → Answered → Type 0
Back w a = Reads w a.answer

-- ---- the refusals that a list may have: none is 0, none names a number

fault_back : (N c : ℕ) (l : List ℕ) → Replied (fault_of N c l)
unfolding fault_of
fault_back N c l =
    let itself = choose (some_of (eqb c) l) Itself Done in
    let falsity = choose (some_of (eqb 0) l) Falsity itself in
    let number = choose (ltb N c || some_of (ltb N) l) Number falsity in
    chosen Replied (ltb 4 (length l)) Supports number refl
    (chosen Replied (ltb N c || some_of (ltb N) l) Number falsity refl
    (chosen Replied (some_of (eqb 0) l) Falsity itself refl
    (chosen Replied (some_of (eqb c) l) Itself Done refl refl)))

faults_back : (N : ℕ) (l : List Handed) → Replied (faults_of N l)
unfolding faults_of
faults_back N [] = refl
faults_back N (h ∷ l) = chosen Replied (is_done (fault_of_item N h)) (faults_of N l) (fault_of_item N h) (faults_back N l) (fault_back N h.consequent (supplied_by h))

no_answer : (k w : ℕ) (r : Reply) → eqb k 0 ≡ false → reply_of k 0 ≡ r → answer_from k w 0 ≡ Err r
no_answer zero w r h i = absurd (true≢false h)
no_answer (suc k) w r h i = ap Err i

refusal_back : (w : ℕ) (r : Reply) (out : List ℕ) → is_done r ≡ false → Replied r → Back w (answered (Err r) out)
refusal_back w r out h i = no_answer (number_of r) w r h i

-- ---- the answers

word_back : (J : List Justification) (E n : ℕ) → Reads 0 (Ok (Word (plain_by J E n)))
unfolding plain_by
word_back J E n =
    let says : Plain → Type 0 = λ a. Reads 0 (Ok (Word a)) in
    chosen says (contradicts J E) Contradicted (choose (carries J E n) Followed Unreached) refl (chosen says (carries J E n) Followed Unreached refl refl)

tell_back : (w n N E : ℕ) (J : List Justification) (out : List ℕ) → Back w (tell_of N J E (what_by w n) out)
unfolding fitted
tell_back zero n N E J out = chosen (Reads 0) (ltb N n) (Err Number) (Ok (Word (plain_by J E n))) refl (word_back J E n)
tell_back (suc zero) n N E J out = chosen (Back 1) (ltb (length out) (N + 1)) (answered (Err Short) out) (answered (Ok Filled) (table (N + 1) (λ n. byte_of (plain_by J E n)) ++ drop (N + 1) out)) refl refl
tell_back (suc (suc k)) n N E J out =
    let t : List ℕ = stage_text N J E in
    chosen (λ (x : Wrote). Back (suc (suc k)) (wrote_as x)) (ltb (length out) (length t)) (kept Short out) (record { answer = Ok (length t); bytes = t ++ drop (length t) out }) refl refl

-- .. or the refusal r, where it is one
unless : (w : ℕ) (r : Reply) (out : List ℕ) (later : Answered) → Replied r → Back w later → Back w (choose (not (is_done r)) (answered (Err r) out) later)
unless w r out later i p = go (is_done r) refl
  where
    go : (b : Bool) → is_done r ≡ b → Back w (choose (not b) (answered (Err r) out) later)
    go true e = p
    go false e = refusal_back w r out e i

ask_back : (q : Asked) (l : List Handed) (out : List ℕ) → Back q.what (ask_of (query_by q) l out)
unfolding ask_of
ask_back q l out =
    let w = q.what in
    let N = q.assumptions + q.claims in
    let refusal : Reply → Answered = λ r. answered (Err r) out in
    let told = tell_of N (barely N l) q.set (what_by w q.number) out in
    let ranged = choose (not (in_range q.assumptions q.set)) (refusal Number) told in
    let faultless = choose (not (is_done (faults_of N l))) (refusal (faults_of N l)) ranged in
    chosen (Back w) (over_counts (query_by q).assumptions (query_by q).claims) (refusal Counts) faultless (refusal_back w Counts out refl refl)
    (unless w (faults_of N l) out ranged (faults_back N l)
    (chosen (Back w) (not (in_range q.assumptions q.set)) (refusal Number) told (refusal_back w Number out refl refl)
    (tell_back w q.number N q.set (barely N l) out)))

pub bares : (q p : Asked) (l k : List Handed) (out into : List ℕ) → q.what ≡ p.what → Alike barely_by (ask_of (query_by q) l out).answer (ask_of (query_by p) k into).answer
bares q p l k out into same =
    by_back barely_by (barely_from q.what) (ask_of (query_by q) l out).answer (ask_of (query_by p) k into).answer (ask_back q l out)
    (subst (λ (w : ℕ). Back w (ask_of (query_by p) k into)) (sym same) (ask_back p k into))
