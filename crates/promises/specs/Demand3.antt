-- Demand 3: two stores made by the calls, with the same counts of assumptions and claims, that hold the same rules, however they came there. Assumes nothing.
use mathlib.Core.List.{List, Memᴰ as Mem, ◌++◌, ◌∷◌}
use Rattle.std.specs.Prelude.{◌≡◌, ◌+◌, ◌≤◌, ℕ, ◌⊎◌, length}
use Rattle.asking.specs.Asking.{left}
use Rattle.casefile.specs.Case.{Case, case_of, whole}
use Rattle.handed.specs.declared.Handed.{Handed}
use Rattle.promises.specs.Calls.{Ask, Calls}
use Rattle.promises.specs.Made.{Input, Made, SameMembers, gained, put_in}
use Rattle.replies.specs.declared.Reply.TheVariants.{Already, Done}
use Rattle.rules.specs.Held.{said_by}
use Rattle.rules.specs.Items.{fault_of, justification_of}
use Rattle.store.specs.Calls.{answer}
use Rattle.store.specs.Reading.{label_held, nogoods_held}
use Rattle.store.specs.declared.Store.{Store}
use Rattle.theory.specs.Limits.{file_bytes}
use Rattle.theory.specs.Stages.{Justification}

-- every label, the nogoods, the depth, every line and the answer to every next call is the same in both, refusals included
pub record Same (C : Calls) (s t : Store) : Type 0 where
  pub label : (n : ℕ) → label_held s.lists n ≡ label_held t.lists n
  pub nogoods : nogoods_held s.lists ≡ nogoods_held t.lists
  pub depth : s.lists.depth ≡ t.lists.depth
  pub adding : (c : ℕ) (l : List ℕ) → C.adding s c l ≡ C.adding t c l
  pub adding_all : (l : List Handed) (out : List ℕ) → C.adding_all s l out ≡ C.adding_all t l out
  pub withdrawing : (c : ℕ) (l : List ℕ) → C.withdrawing s c l ≡ C.withdrawing t c l
  pub reading : (a : Ask) → C.reading s a ≡ C.reading t a
  pub shape : C.shape s ≡ C.shape t
  -- they are one store, so whatever is made of them is the same
  pub store : s ≡ t

-- K is H in another order: neighbours change places, as often as one likes
pub data Reordered : Input → Input → Type 0 where
  unmoved : {H : Input} → Reordered H H
  swapped : (H : Input) (i j : Justification) (K : Input) → Reordered (H ++ i ∷ j ∷ K) (H ++ j ∷ i ∷ K)
  further : {H K L : Input} → Reordered H K → Reordered K L → Reordered H L

pub record Demand3 (C : Calls) : Type 0 where
  -- the same was put in by the calls answered 0
  pub put_in_lem : {A M : ℕ} {H K : Input} {s t : Store} → Made C A M H s → Made C A M K t → SameMembers H K → Same C s t
  -- the same rules are held
  pub held : {A M : ℕ} {H K : Input} {s t : Store} → Made C A M H s → Made C A M K t → SameMembers (said_by s.held) (said_by t.held) → Same C s t
  -- added in any order
  pub any_order : {A M : ℕ} {H K : Input} {s t : Store} → Made C A M H s → Made C A M K t → Reordered H K → Same C s t
  -- .. two in particular
  pub two_orders : {A M : ℕ} {H : Input} {s s₁ s₂ t₁ t₂ : Store} (c d : ℕ) (l m : List ℕ) → Made C A M H s
      → C.adding s c l ≡ answer Done s₁ → C.adding s₁ d m ≡ answer Done s₂ → C.adding s d m ≡ answer Done t₁ → C.adding t₁ c l ≡ answer Done t₂ → Same C s₂ t₂
  -- .. in one call: two lists, of which the items answered 0 put the same in
  pub two_lists : {A M : ℕ} {H K : Input} {s s₁ t t₁ : Store} (l m : List Handed) (out others after later : List ℕ) → Made C A M H s → Made C A M K t
      → C.adding_all s l out ≡ left (answer Done s₁) after → C.adding_all t m others ≡ left (answer Done t₁) later
      → SameMembers (gained (A + M) l after H) (gained (A + M) m later K) → Same C s₁ t₁
  -- repeated: what was put in, its supports handed over in any order and repeated, is held already
  pub repeated : {A M : ℕ} {H : Input} {s : Store} (c : ℕ) (l : List ℕ) → Made C A M H s → fault_of (A + M) c l ≡ Done
      → Mem (justification_of (A + M) c l) H → C.adding s c l ≡ answer Already s
  -- loaded from a file: the store of a file answered 0 against one made by any other calls
  pub from_file : (bytes : List ℕ) (f : Case) {K : Input} {t : Store} → case_of bytes ≡ whole f → (C.loading bytes).reply ≡ Done
      → Made C f.header.assumptions f.header.claims K t → SameMembers (put_in f) K → Same C (C.loading bytes).store t
  -- .. two files with the same records in another order or repeated: the same reply, and the same store where it is 0
  pub two_files : (bytes others : List ℕ) (f g : Case) → case_of bytes ≡ whole f → case_of others ≡ whole g
      → f.header.assumptions ≡ g.header.assumptions → f.header.claims ≡ g.header.claims → SameMembers (put_in f) (put_in g)
      → ((C.loading bytes).reply ≡ (C.loading others).reply) × ((C.loading bytes).reply ≡ Done → Same C (C.loading bytes).store (C.loading others).store)
  -- .. and they print the same bytes: where it is 0, and else where they announce as many records
  pub same_print : (bytes others : List ℕ) (f g : Case) → case_of bytes ≡ whole f → case_of others ≡ whole g → length bytes ≤ file_bytes → length others ≤ file_bytes
      → f.header.assumptions ≡ g.header.assumptions → f.header.claims ≡ g.header.claims → SameMembers (put_in f) (put_in g)
      → ((C.loading bytes).reply ≡ Done) ⊎ (f.header.records ≡ g.header.records) → (out : List ℕ) → C.printing bytes out ≡ C.printing others out
  -- with refused calls, and calls that read, in between
  pub in_between : {A M : ℕ} {H : Input} {s t : Store} → Made C A M H s → Made C A M H t → Same C s t
  -- adding a new one and at once withdrawing it, both answered 0, gives the earlier store back
  pub undone : {A M : ℕ} {H : Input} {s t u : Store} (c : ℕ) (l : List ℕ) → Made C A M H s → C.adding s c l ≡ answer Done t → C.withdrawing t c l ≡ answer Done u → u ≡ s
  -- .. and withdrawing one and at once adding it again, both answered 0, does so too
  pub redone : {A M : ℕ} {H : Input} {s t u : Store} (c : ℕ) (l : List ℕ) → Made C A M H s → C.withdrawing s c l ≡ answer Done t → C.adding t c l ≡ answer Done u → u ≡ s
