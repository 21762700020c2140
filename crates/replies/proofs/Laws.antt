-- Done has the number 0, no other reply has; none has the number 10; all numbers have at most two digits. Assumes nothing.
use mathlib.Core.Logic.{◌⊎◌, inl, inr, ⊎_elim}
use mathlib.Core.Path.{◌≡◌, refl}
use Prim.Native.Nat.{◌<◌}
use native.Mathlib.Omega.{arith}
use lib.Dec.{lit<}
use Rattle.replies.specs.Replies.{number_of}
use Rattle.replies.specs.declared.Reply.{Reply}
use Rattle.replies.specs.declared.Reply.TheVariants.{After, Already, Counts, Done, Ends, Falsity, Form, Full, Itself, Label, Long, Nogoods, Number, Place, Shape, Short, Supports, Unheld}

-- what is shown of each reply
numbered : (r : Reply) → ((r ≡ Done) ⊎ (0 < number_of r)) × ((number_of r < 10) ⊎ (10 < number_of r)) × (number_of r < 100)
numbered Done = (inl refl, inl (lit< tt), lit< tt)
numbered Already = (inr (lit< tt), inl (lit< tt), lit< tt)
numbered Shape = (inr (lit< tt), inl (lit< tt), lit< tt)
numbered Counts = (inr (lit< tt), inl (lit< tt), lit< tt)
numbered Number = (inr (lit< tt), inl (lit< tt), lit< tt)
numbered Falsity = (inr (lit< tt), inl (lit< tt), lit< tt)
numbered Supports = (inr (lit< tt), inl (lit< tt), lit< tt)
numbered Full = (inr (lit< tt), inl (lit< tt), lit< tt)
numbered (Label n) = (inr (lit< tt), inl (lit< tt), lit< tt)
numbered Nogoods = (inr (lit< tt), inl (lit< tt), lit< tt)
numbered Ends = (inr (lit< tt), inr (lit< tt), lit< tt)
numbered Form = (inr (lit< tt), inr (lit< tt), lit< tt)
numbered After = (inr (lit< tt), inr (lit< tt), lit< tt)
numbered Long = (inr (lit< tt), inr (lit< tt), lit< tt)
numbered Short = (inr (lit< tt), inr (lit< tt), lit< tt)
numbered Place = (inr (lit< tt), inr (lit< tt), lit< tt)
numbered Itself = (inr (lit< tt), inr (lit< tt), lit< tt)
numbered Unheld = (inr (lit< tt), inr (lit< tt), lit< tt)

pub zero_done : (r : Reply) → number_of r ≡ 0 → r ≡ Done
zero_done r e = ⊎_elim (λ d. d) (λ (h : 0 < number_of r). absurd (omega arith)) (numbered r).0

pub two_digits : (r : Reply) → number_of r < 100
two_digits r = (numbered r).2

pub no_ten : (r : Reply) → number_of r ≡ 10 → ⊥
no_ten r e = ⊎_elim (λ (h : number_of r < 10). omega arith) (λ (h : 10 < number_of r). omega arith) (numbered r).1
