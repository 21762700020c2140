-- Stores made by the calls, with what was put in; and what such a store holds. Assumes nothing.
use Rattle.std.specs.Prelude.{false, true, ◌↔◌, ◌≡◌, ◌+◌, ℕ, eqb}
use mathlib.Core.List.{List, Memᴰ as Mem, [], ◌∷◌, map}
use Rattle.asking.specs.Asking.{left}
use Rattle.casefile.specs.Case.{Case, case_of, whole}
use Rattle.handed.specs.Supplied.{supplied_by}
use Rattle.handed.specs.declared.Handed.{Handed}
use Rattle.promises.specs.Calls.{Ask, Calls}
use Rattle.replies.specs.declared.Reply.{Reply}
use Rattle.replies.specs.declared.Reply.TheVariants.{Done}
use Rattle.rules.specs.Held.{dropped, held_of, ordered, put, said_by}
use Rattle.rules.specs.Items.{justification_of, same_justification}
use Rattle.rules.specs.declared.Held.{Held}
use Rattle.stages.specs.Lists.{lists_of}
use Rattle.store.specs.Calls.{answer, no_store, store_of}
use Rattle.store.specs.Shape.{right_shape}
use Rattle.store.specs.declared.Store.{Store}
use Rattle.theory.specs.Judge.{Stage, judge, settled}
use Rattle.theory.specs.Limits.{limits}
use Rattle.theory.specs.Lists.{choose, some_of}
use Rattle.theory.specs.Stages.{Justification}

-- what was put into a store and not taken out: the last first
abbrev pub Input : Type 0
Input = List Justification

abbrev pub putting : Justification → Input → Input
putting j H = j ∷ H

abbrev pub taking : Justification → Input → Input
taking j H = dropped j H

-- what the items of a case put in, all of them
abbrev pub put_in : Case → Input
put_in f = map (λ i. justification_of (f.header.assumptions + f.header.claims) i.consequent i.supports) f.items

-- what the items of a list put in whose reply byte is 0, N being A + M
unfoldable pub gained : ℕ → List Handed → List ℕ → Input → Input
gained N [] bytes H = H
gained N (h ∷ l) [] H = H
gained N (h ∷ l) (b ∷ bytes) H = gained N l bytes (choose (eqb b 0) (putting (justification_of N h.consequent (supplied_by h)) H) H)

-- s came about by calls of C, with A assumptions and M claims; H is what the calls answered 0 put in and did not take out
pub data Made (C : Calls) (A M : ℕ) : Input → Store → Type 0 where
  -- by opening
  opened : {s : Store} → C.opening A M ≡ answer Done s → Made C A M [] s
  -- by loading a file that spells the case f, answered 0
  loaded : {s : Store} (bytes : List ℕ) (f : Case) → case_of bytes ≡ whole f → f.header.assumptions ≡ A → f.header.claims ≡ M → (C.loading bytes).reply ≡ Done → (C.loading bytes).store ≡ s → Made C A M (put_in f) s
  -- by judging what is held in its places, answered 0
  judged : {s : Store} (h : Held) → h.assumptions ≡ A → h.claims ≡ M → C.judging h ≡ answer Done s → Made C A M (said_by h) s
  -- by adding, answered 0
  added : {H : Input} {s t : Store} (c : ℕ) (l : List ℕ) → Made C A M H s → C.adding s c l ≡ answer Done t → Made C A M (putting (justification_of (A + M) c l) H) t
  -- a refused adding handed t back
  refused : {H : Input} {s t : Store} (c : ℕ) (l : List ℕ) (r : Reply) → Made C A M H s → C.adding s c l ≡ answer r t → (r ≡ Done → ⊥) → Made C A M H t
  -- by adding a list, answered 0: what the items answered 0 put in
  listed : {H : Input} {s t : Store} (l : List Handed) (out after : List ℕ) → Made C A M H s → C.adding_all s l out ≡ left (answer Done t) after → Made C A M (gained (A + M) l after H) t
  -- a refused list handed t back
  unlisted : {H : Input} {s t : Store} (l : List Handed) (out after : List ℕ) (r : Reply) → Made C A M H s → C.adding_all s l out ≡ left (answer r t) after → (r ≡ Done → ⊥) → Made C A M H t
  -- by withdrawing, answered 0: what was put in, without it
  withdrawn : {H : Input} {s t : Store} (c : ℕ) (l : List ℕ) → Made C A M H s → C.withdrawing s c l ≡ answer Done t → Made C A M (taking (justification_of (A + M) c l) H) t
  -- a refused withdrawing handed t back
  kept : {H : Input} {s t : Store} (c : ℕ) (l : List ℕ) (r : Reply) → Made C A M H s → C.withdrawing s c l ≡ answer r t → (r ≡ Done → ⊥) → Made C A M H t
  -- a call that reads handed t back
  asked : {H : Input} {s t : Store} (a : Ask) → Made C A M H s → (C.reading s a).store ≡ t → Made C A M H t

-- the same members, however often and in whatever order
abbrev pub SameMembers : Input → Input → Type 0
SameMembers H K = (j : Justification) → Mem j H ↔ Mem j K

-- the justifications of H in held order, each once
unfoldable pub in_order : Input → List Justification
in_order [] = []
in_order (j ∷ H) = let later : List Justification = in_order H in choose (some_of (same_justification j) later) later (put j later)

-- s holds exactly H, as a set, in held order and each once, and its lists are those of the stages of that set
pub record HoldsExactly (A M : ℕ) (H : Input) (s : Store) : Type 0 where
  pub members : SameMembers (said_by s.held) H
  pub order : ordered (said_by s.held) ≡ true
  pub held : s.held ≡ held_of A M (said_by s.held)
  pub depth : ℕ
  pub stage : Stage
  pub judged : judge limits A (A + M) (said_by s.held) ≡ settled depth stage
  pub lists : s.lists ≡ lists_of depth stage
  -- that is: the store of the set, judged once
  pub store : store_of no_store A M (in_order H) ≡ answer Done s

-- of every store made by the calls
pub record Stores (C : Calls) : Type 0 where
  pub holds : {A M : ℕ} {H : Input} {s : Store} → Made C A M H s → HoldsExactly A M H s
  -- none names its own consequent as a support
  pub no_own : {A M : ℕ} {H : Input} {s : Store} → Made C A M H s → (j : Justification) → Mem j (said_by s.held) → Mem j.consequent j.supports → ⊥
  -- .. and a store that holds one that does has the wrong shape
  pub own_wrong : (s : Store) (j : Justification) → Mem j (said_by s.held) → Mem j.consequent j.supports → C.shape s ≡ false
  -- its shape is right: no call on it answers 2
  pub right : {A M : ℕ} {H : Input} {s : Store} → Made C A M H s → right_shape s ≡ true
