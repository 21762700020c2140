-- What a call leaves, test by test. Assumes nothing.
use mathlib.Core.List.{List}
use mathlib.Core.Path.{◌∙◌, ◌≡◌, ap}
use Prim.Native.Nat.{ℕ}
use borrow.Author.Tests.{le-ltb}
use Rattle.lent.specs.Lent.{Leaves, fitted, kept}
use Rattle.lines.specs.Lines.{line_of, line_text}
use Rattle.std.proofs.Common.{Result, Err}
use Rattle.replies.specs.Replies.{checked}
use Rattle.replies.specs.declared.Reply.{Reply}
use Rattle.store.proofs.Reading.{Readable, refused_number}
use Rattle.store.specs.Reading.{refusal_of}
use Rattle.store.specs.Shape.{top}
use Rattle.store.specs.declared.Store.{Store}

module _ (s : Store) (out : List ℕ) where
  module _ (n : ℕ) where
    pub line_refused : (r : Reply) → Err r ≡ checked (refusal_of s n 0) → Leaves (line_of s n out) (Err r) out
    unfolding line_of
    line_refused r e = refused_number s n r e (λ x. kept x out) (fitted (line_text s n) out)

    pub line_rest : Readable s n 0 → {t : List ℕ} → t ≡ line_text s n → {r : Result ℕ Reply} {after : List ℕ} → Leaves (fitted t out) r after → Leaves (line_of s n out) r after
    unfolding line_of
    line_rest k f l = l ∙ ap (λ (x : List ℕ). fitted x out) f ∙ rw (k.right, le-ltb (top s.held) n k.number)
