-- Demand 2, over what was put in and not over the store's arrays: answers, labels, nogoods, the depth, and when a list is called full. Assumes nothing.
use Rattle.std.specs.Prelude.{Bool, ◌&&◌, false, not, true, ◌↔◌, ◌⊎◌, ◌≡◌, ◌+◌, ◌<◌, ◌^◌, ◌≤◌, suc, zero, ℕ, leb, drop, get_or, length, Result, Ok, Err}
use mathlib.Core.List.{List, Memᴰ as Mem, ◌++◌}
use Rattle.asking.specs.declared.Answer.{Answer}
use Rattle.asking.specs.declared.Answer.TheVariants.{Inconsistent, Supported, Unsupported}
use Rattle.casefile.specs.Case.{Case, case_of, whole}
use Rattle.promises.specs.Calls.{Calls, case_line, context, line, list_all, member, over, question, reads, written}
use Rattle.promises.specs.Made.{Input, Made, in_order, put_in}
use Rattle.promises.specs.Room.{AddSays, StagesSay, WithdrawSays}
use Rattle.replies.specs.declared.Reply.{Reply}
use Rattle.replies.specs.declared.Reply.TheVariants.{Done, Long, Place}
use Rattle.store.specs.Reading.{label_held, nogoods_held}
use Rattle.store.specs.declared.Store.{Store}
use Rattle.text.specs.Texts.{heading, row, word}
use Rattle.theory.specs.Demands.{carries, contradicts, follows_from_all}
use Rattle.theory.specs.Judge.{consequents, stage_at}
use Rattle.theory.specs.Limits.{file_bytes, limits}
use Rattle.theory.specs.Lists.{choose, each, numbers_below, some_of, sorted_by}
use Rattle.theory.specs.Places.{table}
use Rattle.theory.specs.Sets.{before, listing, within}
use Rattle.theory.specs.Stages.{label_at, nogoods_at}

-- ---- smallest sets

-- E has P, and no smaller set inside it has
pub record Smallest (A : ℕ) (P : ℕ → Bool) (E : ℕ) : Type 0 where
  pub range : E < 2 ^ A
  pub has : P E ≡ true
  pub no_smaller : (F : ℕ) → within F E ≡ true → P F ≡ true → F ≡ E

-- F is the first in listing order of the smallest sets with P that lie within E
pub record FirstOf (A : ℕ) (P : ℕ → Bool) (E F : ℕ) : Type 0 where
  pub smallest : Smallest A P F
  pub inside : within F E ≡ true
  pub first : (G : ℕ) → Smallest A P G → within G E ≡ true → (G ≡ F) ⊎ (before F G ≡ true)

-- ---- questions

-- when each answer is given, of a number n and a set E in range, and which set it names
abbrev pub QuestionSays : ℕ → Input → ℕ → ℕ → Result Answer Reply → Type 0
QuestionSays A H n E (Ok (Inconsistent G)) = (contradicts H E ≡ true) × FirstOf A (contradicts H) E G
-- the set contradicts nothing and n follows from it by the rules held
QuestionSays A H n E (Ok (Supported F)) = (carries H E n ≡ true) × FirstOf A (λ D. carries H D n) E F
QuestionSays A H n E (Ok Unsupported) = (contradicts H E ≡ false) × (carries H E n ≡ false)
QuestionSays A H n E (Err r) = ⊥

-- some set of A assumptions carries n
unfoldable pub carried_by : ℕ → Input → ℕ → Bool
carried_by A H n = some_of (λ E. carries H E n) (listing A)

-- n, from 1 on, is carried by no set, and follows from all A assumptions together, falsity ignored
unfoldable pub contradicted_by : ℕ → Input → ℕ → Bool
contradicted_by A H zero = false
contradicted_by A H (suc i) = not (carried_by A H (suc i)) && follows_from_all A H (suc i)

-- 2 if E is inconsistent, else 1 if n is supported, else 3 where the line would say `contradicted`, else 0
abbrev pub byte_by : ℕ → Input → ℕ → ℕ → ℕ
byte_by A H E n = choose (contradicts H E) 2 (choose (carries H E n) 1 (choose (contradicted_by A H n) 3 0))

-- ---- lists

-- the smallest sets that have P, all of them, once, in listing order
pub record ListsSmallest (A : ℕ) (P : ℕ → Bool) (l : List ℕ) : Type 0 where
  pub exactly : (E : ℕ) → Mem E l ↔ Smallest A P E
  pub order : sorted_by before l ≡ true

-- what is listed for n: for 0 the sets that contradict themselves, else those that carry n
abbrev pub listed_for : Input → ℕ → ℕ → Bool
listed_for H zero E = contradicts H E
listed_for H (suc i) E = carries H E (suc i)

-- the set at that place of a list
abbrev pub at_place : List ℕ → ℕ → Result ℕ Reply
at_place l place = choose (leb (length l) place) (Err Place) (Ok (get_or l place 0))

-- the word of n: `nogood` for 0; for the others `supported` where some set carries it, else `contradicted` where it follows from all assumptions together, else `unsupported`
unfoldable pub word_by : ℕ → Input → ℕ → List ℕ
word_by A H zero = word " nogood"
word_by A H (suc i) = choose (carried_by A H (suc i)) (word " supported") (choose (follows_from_all A H (suc i)) (word " contradicted") (word " unsupported"))

-- the line of n whose list is l, as the listing has it
abbrev pub text_of : ℕ → Input → ℕ → List ℕ → List ℕ
text_of A H n l = row limits.assumptions n (word_by A H n) l

-- line one: A, M, distinct justifications held, depth
abbrev pub first_text : ℕ → ℕ → Input → Store → List ℕ
first_text A M H s = heading A M (length (in_order H)) s.lists.depth

-- the whole listing, l n being the list of n: line one, then the lines of 0 to A + M, each once and in order
abbrev pub whole_text : ℕ → ℕ → Input → Store → (ℕ → List ℕ) → List ℕ
whole_text A M H s l = first_text A M H s ++ each (λ n. text_of A H n (l n)) (numbers_below (suc (A + M)))

-- the least k for which all labels and nogoods at k and k + 1 agree
pub record IsDepth (A N : ℕ) (H : Input) (k : ℕ) : Type 0 where
  pub agrees : stage_at A N H k ≡ stage_at A N H (suc k)
  pub least : (i : ℕ) → i < k → stage_at A N H i ≡ stage_at A N H (suc i) → ⊥

-- ---- a store s with A assumptions and M claims, in which H was put

pub record Tells (C : Calls) (A M : ℕ) (H : Input) (s : Store) : Type 0 where
  -- for every number and every set of assumptions
  pub question : (n E : ℕ) → n ≤ A + M → E < 2 ^ A → (a : Result Answer Reply) → ((C.reading s (question n E)).said ≡ a) ↔ QuestionSays A H n E a
  -- byte n, for n from 0 to A + M; bytes from A + M + 1 on are kept
  pub context : (E : ℕ) (out : List ℕ) → E < 2 ^ A → A + M + 1 ≤ length out → C.reading s (context E out) ≡ reads (context E out) Done s (table (A + M + 1) (byte_by A H E) ++ drop (A + M + 1) out)
  -- each label lists the sets of this kind that have no smaller one inside them, all of them, once; so do the nogoods
  pub label : (n : ℕ) → n ≤ A + M → ListsSmallest A (λ E. carries H E n) (label_held s.lists n)
  pub nogoods : ListsSmallest A (contradicts H) (nogoods_held s.lists)
  -- member reads them, place by place (only one list is so: the order is strict)
  pub member : (n : ℕ) → n ≤ A + M → (l : List ℕ) × ListsSmallest A (listed_for H n) l × ((place : ℕ) → (C.reading s (member n place)).said ≡ at_place l place)
  -- so does the text line, of that one list; and line one
  pub line : (n : ℕ) → n ≤ A + M → (l : List ℕ) × ListsSmallest A (listed_for H n) l × ((out : List ℕ) → length (text_of A H n l) ≤ length out → C.reading s (line n out) ≡ reads (line n out) (written (text_of A H n l)) s (over (text_of A H n l) out))
  pub case_line : (out : List ℕ) → length (first_text A M H s) ≤ length out → C.reading s (case_line out) ≡ reads (case_line out) (written (first_text A M H s)) s (over (first_text A M H s) out)
  -- .. and the whole listing
  pub listing : (l : ℕ → List ℕ) × ((n : ℕ) → n ≤ A + M → ListsSmallest A (listed_for H n) (l n))
      × ((out : List ℕ) → length (whole_text A M H s l) ≤ length out → C.reading s (list_all out) ≡ reads (list_all out) (written (whole_text A M H s l)) s (over (whole_text A M H s l) out))
  -- the depth; the store's labels and nogoods are those at the depth, and every later stage agrees with them
  pub depth : IsDepth A (A + M) H s.lists.depth
  -- it never exceeds the number of different consequents, falsity counted
  pub depth_most : s.lists.depth ≤ length (consequents H)
  pub label_at_lem : (n : ℕ) → n ≤ A + M → label_held s.lists n ≡ label_at A H s.lists.depth n
  pub nogoods_at_lem : nogoods_held s.lists ≡ nogoods_at A H s.lists.depth
  pub later : (k : ℕ) → s.lists.depth ≤ k → stage_at A (A + M) H s.lists.depth ≡ stage_at A (A + M) H k
  -- when adding gives each reply: full exactly when the call comes as far as its stages and these need more room than the limits give
  pub adding : (c : ℕ) (l : List ℕ) (r : Reply) → ((C.adding s c l).reply ≡ r) ↔ AddSays A M H c l r
  -- .. and withdrawing
  pub withdrawing : (c : ℕ) (l : List ℕ) (r : Reply) → ((C.withdrawing s c l).reply ≡ r) ↔ WithdrawSays A M H c l r

-- ---- the demand

pub record Demand2 (C : Calls) : Type 0 where
  -- a store can be opened
  pub opens : (A M : ℕ) → A ≤ limits.assumptions → M ≤ limits.claims → (C.opening A M).reply ≡ Done
  -- a file without fault: the stages of its whole set decide
  pub loads : (bytes : List ℕ) (f : Case) → case_of bytes ≡ whole f → (r : Reply) → ((C.loading bytes).reply ≡ r) ↔ StagesSay f.header.assumptions (f.header.assumptions + f.header.claims) (put_in f) r
  -- every store made by the calls tells the truth of what was put in
  pub tells : {A M : ℕ} {H : Input} {s : Store} → Made C A M H s → Tells C A M H s
  -- what is printed of a file: above 4,096 bytes reply 14, which comes before all others and gives 0 ..
  pub prints_long : (bytes out : List ℕ) → file_bytes < length bytes → C.printing bytes out ≡ C.refusal Long 0 out
  -- .. else a refusal's line with its record ..
  pub prints_refused : (bytes out : List ℕ) → length bytes ≤ file_bytes → ((C.loading bytes).reply ≡ Done → ⊥) → C.printing bytes out ≡ C.refusal (C.loading bytes).reply (C.loading bytes).«record» out
  -- .. else the listing of the store that it loads
  pub prints_listed : (bytes out : List ℕ) → length bytes ≤ file_bytes → (C.loading bytes).reply ≡ Done
      → C.printing bytes out ≡ record { answer = (C.reading (C.loading bytes).store (list_all out)).said; bytes = (C.reading (C.loading bytes).store (list_all out)).bytes }
