-- Texts written into lent bytes, one after the other. Assumes nothing.
use Rattle.std.specs.Prelude.{List, ◌++◌, ◌+◌, ◌≤◌, ℕ, drop, length, take}
use Rattle.std.specs.Borrow.{MutBor}
use Rattle.text.specs.declared.Writer.{Writer}

-- nothing is written yet
abbrev pub begun : MutBor (List ℕ) → Writer
begun lent = record { bytes = lent; written = 0 }

-- what is written
unfoldable pub text_of : Writer → List ℕ
text_of w = take w.written w.bytes.now

-- there is room for the text t after what is written
abbrev pub Room : List ℕ → Writer → Type 0
Room t w = w.written + length t ≤ length w.bytes.now

-- the bytes with the text t from a place on, the others kept
unfoldable pub placed : List ℕ → ℕ → List ℕ → List ℕ
placed t at bytes = take at bytes ++ t ++ drop (at + length t) bytes

-- the text t is written after what was written, the bytes after it kept
unfoldable pub added : List ℕ → Writer → Writer
added t w = record { bytes = record w.bytes { now = placed t w.written w.bytes.now }; written = w.written + length t }
