-- Demand 1: every call ends, for every input, and does nothing undefined; bad numbers, bad files and stores of the wrong shape are refused by number; a refusal hands back the store it was given and changes no byte of any buffer. Assumes nothing.
use Rattle.std.specs.Prelude.{List, ◌≡◌, ℕ, Ok, Err, true}
use Rattle.bare.specs.Bare.{in_kind, told_number}
use Rattle.bare.specs.declared.Told.{Told}
use Rattle.bare.specs.declared.Query.{Query}
use Rattle.handed.specs.declared.Handed.{Handed}
use Rattle.lent.specs.Lent.{written_number}
use Rattle.promises.specs.Calls.{Ask, Calls, lent_to, number_said}
use Rattle.promises.specs.Coded.{Coded}
use Rattle.promises.specs.Table.{ReplyTable}
use Rattle.replies.specs.declared.Reply.{Reply}
use Rattle.replies.specs.declared.Reply.TheVariants.{Done}
use Rattle.rules.specs.declared.Held.{Held}
use Rattle.store.specs.declared.Store.{Store}

-- the second half: whatever store is handed in, forged or not
pub record Refusals (C : Calls) : Type 0 where
  -- every call answers by the reply table
  pub table : ReplyTable C
  -- a refused opening, loading or judging returns no store: the one of open(0, 0) stands there
  pub opening : (A M : ℕ) → ((C.opening A M).reply ≡ Done → ⊥) → (C.opening A M).store ≡ (C.opening 0 0).store
  pub loading : (bytes : List ℕ) → ((C.loading bytes).reply ≡ Done → ⊥) → (C.loading bytes).store ≡ (C.opening 0 0).store
  pub judging : (h : Held) → ((C.judging h).reply ≡ Done → ⊥) → (C.judging h).store ≡ (C.opening 0 0).store
  -- a refused adding hands back the store it was given
  pub adding : (s : Store) (c : ℕ) (l : List ℕ) → ((C.adding s c l).reply ≡ Done → ⊥) → (C.adding s c l).store ≡ s
  -- so does a refused list, and no byte of its replies is written
  pub adding_all : (s : Store) (l : List Handed) (out : List ℕ) → ((C.adding_all s l out).outcome.reply ≡ Done → ⊥) → (C.adding_all s l out).outcome.store ≡ s
  pub adding_bytes : (s : Store) (l : List Handed) (out : List ℕ) → ((C.adding_all s l out).outcome.reply ≡ Done → ⊥) → (C.adding_all s l out).bytes ≡ out
  -- a refused withdrawing hands it back too
  pub withdrawing : (s : Store) (c : ℕ) (l : List ℕ) → ((C.withdrawing s c l).reply ≡ Done → ⊥) → (C.withdrawing s c l).store ≡ s
  -- a call that reads always does
  pub reading : (s : Store) (a : Ask) → (C.reading s a).store ≡ s
  -- and refused, it changes no byte
  pub bytes : (s : Store) (a : Ask) → (number_said a (C.reading s a).said ≡ 0 → ⊥) → (C.reading s a).bytes ≡ lent_to a
  pub refusal_bytes : (r : Reply) (k : ℕ) (out : List ℕ) → (written_number (C.refusal r k out).answer ≡ 0 → ⊥) → (C.refusal r k out).bytes ≡ out
  pub bare_bytes : (q : Query) (l : List Handed) (out : List ℕ) → (told_number (C.bare q l out).answer ≡ 0 → ⊥) → (C.bare q l out).bytes ≡ out
  -- a refusal of a bare list is said as the call of a store says it; any other answer is a word, a context or lines, as is asked
  pub bare_kind : (q : Query) (l : List Handed) (out : List ℕ) → (told_number (C.bare q l out).answer ≡ 0 → ⊥) → (r : Reply) × ((C.bare q l out).answer ≡ Err r)
  pub bare_done : (q : Query) (l : List Handed) (out : List ℕ) → (t : Told) → (C.bare q l out).answer ≡ Ok t → in_kind q.what t ≡ true
  -- and what no number refuses is such an answer
  pub bare_said : (q : Query) (l : List Handed) (out : List ℕ) → told_number (C.bare q l out).answer ≡ 0 → (t : Told) × ((C.bare q l out).answer ≡ Ok t)
  pub printing_bytes : (bytes out : List ℕ) → (written_number (C.printing bytes out).answer ≡ 0 → ⊥) → (C.printing bytes out).bytes ≡ out

pub record Demand1 (C : Calls) : Type 2 where
  -- every call of the compiled code ends, for every input, does nothing undefined, and answers what C says
  pub ends : Coded C
  pub refusals : Refusals C
