-- Programs that write another file than ours, each refuted by what is promised of the files. Nothing else cites this file. Assumes nothing.
use Rattle.std.specs.Prelude.{not, List, ◌++◌, ◌∷◌, map, reverse, ℕ, Ok}
use Rattle.lent.specs.Lent.{Wrote, fitted, kept}
use Rattle.promises.specs.Calls.{Calls, ours}
use Rattle.promises.specs.Files.{Files}
use Rattle.refuted.specs.Exchange.{with_file}
use Rattle.replies.specs.declared.Reply.TheVariants.{Shape}
use Rattle.rules.specs.Held.{said_by}
use Rattle.rules.specs.declared.Held.{Held}
use Rattle.store.specs.Reading.{label_held}
use Rattle.store.specs.Shape.{right_shape, top}
use Rattle.store.specs.declared.Store.{Store}
use Rattle.theory.specs.Lists.{choose, each, numbers_to}
use Rattle.writing.specs.Writing.{bytes_of, file_of, record_for}

-- the text of a store of right shape, where it fits
abbrev pub texting : (Store → List ℕ) → Store → List ℕ → Wrote
texting t s out = choose (not (right_shape s)) (kept Shape out) (fitted (t s) out)

-- writes nothing, and answers the length 0
abbrev pub silent : Calls
silent = with_file (λ s out. record { answer = Ok 0; bytes = out }) ours

-- writes the labels too, after the records
abbrev pub labels_of : Store → List ℕ
labels_of s = each (λ l. l) (map (label_held s.lists) (numbers_to (top s.held)))

abbrev pub labelling : Calls
labelling = with_file (texting (λ s. file_of s.held ++ labels_of s)) ours

-- writes the records in another order: the last first
abbrev pub back_file : Held → List ℕ
back_file h = each bytes_of (h.assumptions ∷ h.claims ∷ h.count ∷ each record_for (reverse (said_by h)))

abbrev pub unordered : Calls
unordered = with_file (texting (λ s. back_file s.held)) ours

pub record WritingRefuted : Type 0 where
  pub writes_nothing : Files silent → ⊥
  pub writes_labels : Files labelling → ⊥
  pub writes_unordered : Files unordered → ⊥
