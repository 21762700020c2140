-- Nothing shorter would serve: any list of sets that tells on every consistent set whether it supports a number contains the number's label; the same of the nogoods. Assumes nothing.
use Rattle.std.specs.Prelude.{Bool, false, not, true, ◌↔◌, ◌≡◌, ◌+◌, ◌<◌, ◌^◌, ◌≤◌, ℕ, length, Result, Ok, Err}
use mathlib.Core.List.{List, Memᴰ as Mem, [], ◌∷◌}
use Rattle.asking.specs.declared.Answer.{Answer}
use Rattle.asking.specs.declared.Answer.TheVariants.{Inconsistent, Supported, Unsupported}
use Rattle.promises.specs.Calls.{Calls, question}
use Rattle.promises.specs.Made.{Input, Made}
use Rattle.replies.specs.declared.Reply.{Reply}
use Rattle.store.specs.Reading.{label_held, nogoods_held}
use Rattle.store.specs.declared.Store.{Store}
use Rattle.theory.specs.Demands.{carries, contradicts}
use Rattle.theory.specs.Sets.{contains}

-- on every set E of A assumptions that passes ok, l contains a set within E exactly when E has P
abbrev pub Serves : ℕ → (ℕ → Bool) → (ℕ → Bool) → List ℕ → Type 0
Serves A ok P l = (E : ℕ) → E < 2 ^ A → ok E ≡ true → contains l E ≡ P E

-- no member twice
pub data Unrepeated : List ℕ → Type 0 where
  none : Unrepeated []
  more : {x : ℕ} {l : List ℕ} → (Mem x l → ⊥) → Unrepeated l → Unrepeated (x ∷ l)

-- m serves, and nothing shorter would
pub record Shortest (A : ℕ) (ok P : ℕ → Bool) (m : List ℕ) : Type 0 where
  pub serves : Serves A ok P m
  pub unrepeated : Unrepeated m
  -- any list of sets that serves contains every member of m
  pub contained : (l : List ℕ) → Serves A ok P l → (F : ℕ) → Mem F m → Mem F l
  -- so m has the fewest members
  pub fewest : (l : List ℕ) → Serves A ok P l → length m ≤ length l
  -- and a list of that length has the same members
  pub only : (l : List ℕ) → Serves A ok P l → length l ≡ length m → (F : ℕ) → Mem F l ↔ Mem F m

-- what a customer sees of an answer: the set is consistent; it supports
abbrev pub consistent : Result Answer Reply → Bool
consistent (Ok (Inconsistent G)) = false
consistent (Ok (Supported F)) = true
consistent (Ok Unsupported) = true
consistent (Err r) = true

abbrev pub supports : Result Answer Reply → Bool
supports (Ok (Inconsistent G)) = false
supports (Ok (Supported F)) = true
supports (Ok Unsupported) = false
supports (Err r) = false

-- the answer to n and E
abbrev pub asked : Calls → Store → ℕ → ℕ → Result Answer Reply
asked C s n E = (C.reading s (question n E)).said

pub record NothingShorter (C : Calls) : Type 0 where
  -- of every number, against every consistent set
  pub label : {A M : ℕ} {H : Input} {s : Store} → Made C A M H s → (n : ℕ) → n ≤ A + M → Shortest A (λ E. not (contradicts H E)) (λ E. carries H E n) (label_held s.lists n)
  -- of the nogoods, against all sets
  pub nogoods : {A M : ℕ} {H : Input} {s : Store} → Made C A M H s → Shortest A (λ E. true) (contradicts H) (nogoods_held s.lists)
  -- and by the answers of the question
  pub label_asked : {A M : ℕ} {H : Input} {s : Store} → Made C A M H s → (n : ℕ) → n ≤ A + M → Shortest A (λ E. consistent (asked C s n E)) (λ E. supports (asked C s n E)) (label_held s.lists n)
  pub nogoods_asked : {A M : ℕ} {H : Input} {s : Store} → Made C A M H s → Shortest A (λ E. true) (λ E. not (consistent (asked C s 0 E))) (nogoods_held s.lists)
