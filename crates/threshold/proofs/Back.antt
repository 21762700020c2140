-- What crossed, read back: so nothing is lost. Assumes nothing.
use Rattle.std.specs.Prelude.{Option, Some, None, Result, Ok, Err}
use mathlib.Core.Bool.{Bool, ◌||◌, false, not, true}
use mathlib.Core.List.{List, ◌++◌}
use mathlib.Core.Path.{◌≡◌, ◌∙◌, ap, refl, sym}
use Prim.Native.Nat.{◌+◌, ℕ, suc, zero}
use lib.Dec.{eqb, leb, ltb}
use lib.ListN.{drop, get_or, length}
use Rattle.asking.specs.Asking.{context_reply, first_in, member_at, member_of, question_of, reasoned, standing}
use Rattle.asking.specs.declared.Answer.{Answer}
use Rattle.asking.specs.declared.Answer.TheVariants.{Inconsistent, Supported, Unsupported}
use Rattle.casefile.specs.declared.Loaded.{Loaded}
use Rattle.across.specs.Across.{found_by, loaded_by, made_by, named_or0, plainly_by, reasoned_by, wrote_by}
use Rattle.across.specs.declared.Kept.{Kept}
use Rattle.across.specs.declared.Reasoned.{Reasoned}
use Rattle.across.specs.declared.Told.{Told}
use Rattle.lent.specs.Lent.{Wrote, fitted, kept}
use Rattle.lines.specs.Lines.{case_text, heading_of, line_of, line_text}
use Rattle.std.proofs.Common.{Result, Ok, Err}
use Rattle.listing.specs.Listing.{listed_of, listing_text}
use Rattle.plain.specs.Plainly.{plain_by, plain_of}
use Rattle.plain.specs.declared.Plain.{Plain}
use Rattle.plain.specs.declared.Plain.TheVariants.{Inconsistent as Contradicted, Supported as Followed, Unsupported as Unreached}
use Rattle.replies.specs.Replies.{number_of}
use Rattle.rules.specs.Held.{said_by}
use Rattle.replies.specs.declared.Reply.{Reply}
use Rattle.replies.specs.declared.Reply.TheVariants.{Done, Already, Shape, Counts, Number, Falsity, Supports, Full, Label, Nogoods, Ends, Form, After, Long, Short, Place, Itself, Unheld}
use Rattle.stages.specs.declared.Lists.{Lists}
use Rattle.stagetext.specs.Stagetext.{stage_text, stages_of}
use Rattle.store.specs.Reading.{label_held, list_held, nogoods_held}
use Rattle.store.specs.Shape.{right_shape, top}
use Rattle.store.specs.declared.Outcome.{Outcome}
use Rattle.store.specs.declared.Store.{Store}
use Rattle.theory.specs.Demands.{carries, contradicts}
use Rattle.theory.specs.Lists.{choose}
use Rattle.theory.specs.Sets.{in_range}
use Rattle.theory.specs.Stages.{Justification}
use Rattle.writing.specs.Writing.{file_of as fileText, write_of}
use Rattle.threshold.specs.Crossing.{Alike}

-- a function with something that reads back tells apart
pub by_back : {X Y : Type 0} (f : X → Y) (back : Y → X) (x y : X) → back (f x) ≡ x → back (f y) ≡ y → Alike f x y
by_back f back x y p q e = sym p ∙ ap back e ∙ q

-- whichever of two is chosen
pub chosen : {X : Type 0} (P : X → Type 0) (b : Bool) (x y : X) → P x → P y → P (choose b x y)
chosen P true x y p q = p
chosen P false x y p q = q

-- the reply of a number and of what it names
abbrev pub reply_of : ℕ → ℕ → Reply
reply_of k n =
    choose (eqb k 1) Already
    (choose (eqb k 2) Shape
    (choose (eqb k 3) Counts
    (choose (eqb k 4) Number
    (choose (eqb k 5) Falsity
    (choose (eqb k 6) Supports
    (choose (eqb k 7) Full
    (choose (eqb k 8) (Label n)
    (choose (eqb k 9) Nogoods
    (choose (eqb k 11) Ends
    (choose (eqb k 12) Form
    (choose (eqb k 13) After
    (choose (eqb k 14) Long
    (choose (eqb k 15) Short
    (choose (eqb k 16) Place
    (choose (eqb k 17) Itself
    (choose (eqb k 18) Unheld
    Done))))))))))))))))

reply_back : (r : Reply) → reply_of (number_of r) (named_or0 r) ≡ r
reply_back Done = refl
reply_back Already = refl
reply_back Shape = refl
reply_back Counts = refl
reply_back Number = refl
reply_back Falsity = refl
reply_back Supports = refl
reply_back Full = refl
reply_back (Label n) = refl
reply_back Nogoods = refl
reply_back Ends = refl
reply_back Form = refl
reply_back After = refl
reply_back Long = refl
reply_back Short = refl
reply_back Place = refl
reply_back Itself = refl
reply_back Unheld = refl

-- ---- what makes a store

abbrev outcome_of : Kept → Outcome
outcome_of k = record { reply = reply_of k.reply k.named; store = k.store }

pub made : (o p : Outcome) → Alike made_by o p
made o p =
    by_back made_by outcome_of o p
    (ap (λ (r : Reply). record { reply = r; store = o.store }) (reply_back o.reply))
    (ap (λ (r : Reply). record { reply = r; store = p.store }) (reply_back p.reply))

abbrev file_of : Kept → Loaded
file_of k = record { reply = reply_of k.reply k.named; «record» = k.«record»; store = k.store }

pub loaded : (l k : Loaded) → Alike loaded_by l k
loaded l k =
    by_back loaded_by file_of l k
    (ap (λ (r : Reply). record { reply = r; «record» = l.«record»; store = l.store }) (reply_back l.reply))
    (ap (λ (r : Reply). record { reply = r; «record» = k.«record»; store = k.store }) (reply_back k.reply))

-- ---- question: an answer that is no refusal reads back, and so do the refusals 2 and 4

abbrev answer_by : ℕ → ℕ → ℕ → Result Answer Reply
answer_by zero zero E = Ok Unsupported
answer_by zero (suc zero) E = Ok (Supported E)
answer_by zero (suc (suc a)) E = Ok (Inconsistent E)
answer_by (suc k) a E = Err (reply_of (suc k) 0)

abbrev pub answer_of : Reasoned → Result Answer Reply
answer_of r = answer_by r.reply r.answer r.reason

reasoned_back : (g f : Option ℕ) → answer_of (reasoned_by (Ok (reasoned g f))) ≡ Ok (reasoned g f)
reasoned_back (Some G) f = refl
reasoned_back None (Some F) = refl
reasoned_back None None = refl

abbrev Asked : Result Answer Reply → Type 0
Asked a = answer_of (reasoned_by a) ≡ a

standing_back : (l : Lists) (n E : ℕ) → Asked (Ok (standing l n E))
unfolding standing
standing_back l n E = reasoned_back (first_in (nogoods_held l) E) (first_in (label_held l n) E)

pub question_back : (s : Store) (n E : ℕ) → Asked (question_of s n E)
unfolding question_of
question_back s n E =
    let later = choose (ltb (top s.held) n || not (in_range s.held.assumptions E)) (Err Number) (Ok (standing s.lists n E)) in
    chosen Asked (not (right_shape s)) (Err Shape) later refl
    (chosen Asked (ltb (top s.held) n || not (in_range s.held.assumptions E)) (Err Number) (Ok (standing s.lists n E)) refl (standing_back s.lists n E))

-- ---- the plain question

abbrev pub plain_from : ℕ → ℕ → Result Plain Reply
plain_from zero zero = Ok Unreached
plain_from zero (suc zero) = Ok Followed
plain_from zero (suc (suc a)) = Ok Contradicted
plain_from (suc k) a = Err (reply_of (suc k) 0)

abbrev Plainly : Result Plain Reply → Type 0
Plainly a = plain_from (plainly_by a).reply (plainly_by a).value ≡ a

by_following : (J : List Justification) (E n : ℕ) → Plainly (Ok (plain_by J E n))
unfolding plain_by
by_following J E n =
    let says : Plain → Type 0 = λ w. Plainly (Ok w) in
    chosen says (contradicts J E) Contradicted (choose (carries J E n) Followed Unreached) refl
    (chosen says (carries J E n) Followed Unreached refl refl)

pub plainly_back : (s : Store) (n E : ℕ) → Plainly (plain_of s n E)
unfolding plain_of
plainly_back s n E =
    let last : Result Plain Reply = Ok (plain_by (said_by s.held) E n) in
    chosen Plainly (not (right_shape s)) (Err Shape) (choose (ltb (top s.held) n || not (in_range s.held.assumptions E)) (Err Number) last) refl
    (chosen Plainly (ltb (top s.held) n || not (in_range s.held.assumptions E)) (Err Number) last refl (by_following (said_by s.held) E n))

-- ---- context

abbrev pub Replied : Reply → Type 0
Replied r = reply_of (number_of r) 0 ≡ r

context_back : (b c d : Bool) → Replied (choose b Shape (choose c Number (choose d Short Done)))
context_back true c d = refl
context_back false true d = refl
context_back false false true = refl
context_back false false false = refl

pub replied_back : (s : Store) (E room : ℕ) → Replied (context_reply s E room)
unfolding context_reply
replied_back s E room = context_back (not (right_shape s)) (not (in_range s.held.assumptions E)) (ltb room (top s.held + 1))

-- ---- member

abbrev found_from : ℕ → ℕ → Result ℕ Reply
found_from zero E = Ok E
found_from (suc k) E = Err (reply_of (suc k) 0)

abbrev pub found_of : Told → Result ℕ Reply
found_of t = found_from t.reply t.value

found_back : (b c d : Bool) (E : ℕ) → found_of (found_by (choose b (Err Shape) (choose c (Err Number) (choose d (Err Place) (Ok E))))) ≡ choose b (Err Shape) (choose c (Err Number) (choose d (Err Place) (Ok E)))
found_back true c d E = refl
found_back false true d E = refl
found_back false false true E = refl
found_back false false false E = refl

pub member_back : (s : Store) (n place : ℕ) → found_of (found_by (member_of s n place)) ≡ member_of s n place
unfolding member_of member_at
member_back s n place = found_back (not (right_shape s)) (ltb (top s.held) n) (leb (length (list_held s.lists n)) place) (get_or (list_held s.lists n) place 0)

-- ---- texts

abbrev pub written_from : ℕ → ℕ → Result ℕ Reply
written_from zero n = Ok n
written_from (suc k) n = Err (reply_of (suc k) 0)

abbrev pub written_of : Told → Result ℕ Reply
written_of t = written_from t.reply t.value

abbrev Back : Wrote → Type 0
Back w = written_of (wrote_by w.answer) ≡ w.answer

pub fitted_back : (t out : List ℕ) → Back (fitted t out)
unfolding fitted
fitted_back t out = chosen Back (ltb (length out) (length t)) (kept Short out) (record { answer = Ok (length t); bytes = t ++ drop (length t) out }) refl refl

-- after a look at the shape
shaped_back : (b : Bool) (out : List ℕ) (w : Wrote) → Back w → Back (choose b (kept Shape out) w)
shaped_back b out w p = chosen Back b (kept Shape out) w refl p

pub line_back : (s : Store) (n : ℕ) (out : List ℕ) → Back (line_of s n out)
unfolding line_of
line_back s n out =
    shaped_back (not (right_shape s)) out (choose (ltb (top s.held) n) (kept Number out) (fitted (line_text s n) out))
    (chosen Back (ltb (top s.held) n) (kept Number out) (fitted (line_text s n) out) refl (fitted_back (line_text s n) out))

pub heading_back : (s : Store) (out : List ℕ) → Back (heading_of s out)
unfolding heading_of
heading_back s out = shaped_back (not (right_shape s)) out (fitted (case_text s) out) (fitted_back (case_text s) out)

pub listed_back : (s : Store) (out : List ℕ) → Back (listed_of s out)
unfolding listed_of
listed_back s out = shaped_back (not (right_shape s)) out (fitted (listing_text s) out) (fitted_back (listing_text s) out)

pub stages_back : (s : Store) (E : ℕ) (out : List ℕ) → Back (stages_of s E out)
unfolding stages_of
stages_back s E out =
    let last = fitted (stage_text (top s.held) (said_by s.held) E) out in
    shaped_back (not (right_shape s)) out (choose (not (in_range s.held.assumptions E)) (kept Number out) last)
    (chosen Back (not (in_range s.held.assumptions E)) (kept Number out) last refl (fitted_back (stage_text (top s.held) (said_by s.held) E) out))

pub file_back : (s : Store) (out : List ℕ) → Back (write_of s out)
unfolding write_of
file_back s out = shaped_back (not (right_shape s)) out (fitted (fileText s.held) out) (fitted_back (fileText s.held) out)
