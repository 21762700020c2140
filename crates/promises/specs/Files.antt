-- Case files written by us: what is written of a store, and what loading it gives. Assumes nothing.
use Rattle.std.specs.Prelude.{true, List, ◌∷◌, ◌↔◌, ◌≡◌, ◌≤◌, ℕ, length}
use Rattle.promises.specs.Calls.{Calls, file, over, reads, written}
use Rattle.promises.specs.Made.{Input, Made, SameMembers, in_order}
use Rattle.replies.specs.declared.Reply.TheVariants.{Done}
use Rattle.rules.specs.Held.{said_by}
use Rattle.store.specs.Shape.{right_shape}
use Rattle.store.specs.declared.Store.{Store}
use Rattle.theory.specs.Limits.{file_bytes}
use Rattle.theory.specs.Lists.{each}
use Rattle.writing.specs.Writing.{bytes_of, record_for}

-- of s the bytes t are written: its length is answered, they come first in the lent bytes, later ones are kept
abbrev pub Writes : Calls → Store → List ℕ → List ℕ → Type 0
Writes C s t out = C.reading s (file out) ≡ reads (file out) (written t) s (over t out)

-- the file of what was put in: A, M, the count of those held, then a record for each in held order, each number in its shortest form
abbrev pub file_for : ℕ → ℕ → Input → List ℕ
file_for A M H = each bytes_of (A ∷ M ∷ length (in_order H) ∷ each record_for (in_order H))

pub record Files (C : Calls) : Type 0 where
  -- of a store made by the calls, what was put in is written
  pub says : {A M : ℕ} {H : Input} {s : Store} → Made C A M H s → (out : List ℕ) → length (file_for A M H) ≤ length out → Writes C s (file_for A M H) out
  -- .. and loading what was written answers 0, gives the same store, every field, and the count of those held
  pub round : {A M : ℕ} {H : Input} {s : Store} → Made C A M H s → (t out : List ℕ) → Writes C s t out
      → C.loading t ≡ record { reply = Done; «record» = length (said_by s.held); store = s }
  -- of a store of right shape, forged or not, only what is held is written
  pub held_alone : (s u : Store) (out : List ℕ) → right_shape s ≡ true → right_shape u ≡ true → s.held ≡ u.held
      → ((C.reading s (file out)).said ≡ (C.reading u (file out)).said) × ((C.reading s (file out)).bytes ≡ (C.reading u (file out)).bytes)
  -- .. and loading it gives what judging that anew gives: the reply and the store
  pub judged_anew : (s : Store) (t out : List ℕ) → Writes C s t out → ((C.loading t).reply ≡ (C.judging s.held).reply) × ((C.loading t).store ≡ (C.judging s.held).store)
  -- two stores opened alike write the same bytes exactly when they hold the same justifications
  pub tells_apart : (s u : Store) → right_shape s ≡ true → right_shape u ≡ true → s.held.assumptions ≡ u.held.assumptions → s.held.claims ≡ u.held.claims
      → (t v out out' : List ℕ) → Writes C s t out → Writes C u v out' → (t ≡ v) ↔ SameMembers (said_by s.held) (said_by u.held)
  -- .. and the bytes tell all that is held, A and M too
  pub tells_all : (s u : Store) (t out out' : List ℕ) → Writes C s t out → Writes C u t out' → s.held ≡ u.held
  -- what is written never exceeds 1,796 bytes, so it can be loaded ..
  pub few : (s : Store) (t out : List ℕ) → Writes C s t out → length t ≤ 1796
  -- .. and as many are enough
  pub enough : (s : Store) (out : List ℕ) → right_shape s ≡ true → 1796 ≤ length out → (t : List ℕ) × Writes C s t out
  -- what is written of the store of a file lists like that file ..
  pub lists_alike : (bytes t out place : List ℕ) → length bytes ≤ file_bytes → (C.loading bytes).reply ≡ Done → Writes C (C.loading bytes).store t out → C.printing t place ≡ C.printing bytes place
  -- .. and is written again as it is
  pub again : (bytes t v out out' : List ℕ) → (C.loading bytes).reply ≡ Done → Writes C (C.loading bytes).store t out → Writes C (C.loading t).store v out' → v ≡ t
