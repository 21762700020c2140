-- The lines of the listing, as document 01 has them, and the calls that write them into lent bytes. Assumes nothing.
use Rattle.std.specs.Prelude.{not, List, ◌*◌, ◌+◌, ℕ, ltb, Result}
use Rattle.lent.specs.Lent.{Hands, Leaves, Wrote, fitted, kept}
use Rattle.lent.specs.declared.Listed.{Listed}
use Rattle.replies.specs.Replies.{number_of}
use Rattle.replies.specs.declared.Reply.{Reply}
use Rattle.replies.specs.declared.Reply.TheVariants.{Number, Shape}
use Rattle.store.specs.Reading.{held_from_all}
use Rattle.store.specs.Shape.{right_shape, top}
use Rattle.store.specs.declared.Store.{Store}
use Rattle.text.specs.Texts.{heading, refusal}
use Rattle.theory.specs.Limits.{limits}
use Rattle.theory.specs.Lists.{choose}
use Rattle.wording.specs.Wording.{line_with}

-- ---- the lines

-- the line of n, the third word by the justifications held
unfoldable pub line_text : Store → ℕ → List ℕ
line_text s n = line_with s.lists n (held_from_all s n)

-- line one: `case`, A, M, distinct justifications held, depth
unfoldable pub case_text : Store → List ℕ
case_text s = heading s.held.assumptions s.held.claims s.held.count s.lists.depth

-- `refused`, the reply's number, and the record being read
unfoldable pub refusal_text : Reply → ℕ → List ℕ
refusal_text r k = refusal (number_of r) k

-- no line of a store of right shape is longer: `0 nogood`, all nogoods of 88 bytes after a space, a newline
abbrev pub longest : ℕ
longest = 8 + limits.nogoods * 89 + 1

-- ---- the calls

-- the text line of n: refusals 2, 4, 15 in this order
unfoldable pub line_of : Store → ℕ → List ℕ → Wrote
line_of s n out =
    choose (not (right_shape s)) (kept Shape out)
    (choose (ltb (top s.held) n) (kept Number out)
    (fitted (line_text s n) out))

-- the first line: refusals 2, 15
unfoldable pub heading_of : Store → List ℕ → Wrote
heading_of s out =
    choose (not (right_shape s)) (kept Shape out)
    (fitted (case_text s) out)

-- what the call of the line of n promises
abbrev pub Lined : Store → ℕ → List ℕ → Listed → List ℕ → Type 0
Lined s n out r after = Hands s (line_of s n out) r after

-- what the call of the first line promises
abbrev pub CaseLined : Store → List ℕ → Listed → List ℕ → Type 0
CaseLined s out r after = Hands s (heading_of s out) r after

-- what the call of a refusal's line promises: 15 alone can be refused
abbrev pub RefusalLined : Reply → ℕ → List ℕ → Result ℕ Reply → List ℕ → Type 0
RefusalLined reply k out r after = Leaves (fitted (refusal_text reply k) out) r after
