-- How long a line can be, and that no call refuses lent bytes as long as the longest. Assumes nothing.
use mathlib.Core.Bool.{Bool, false, true}
use mathlib.Core.List.{List, [], ◌∷◌}
use mathlib.Core.Path.{◌≡◌, refl}
use Prim.Native.Nat.{◌*◌, ◌<◌, ◌^◌, ◌≤◌, suc, zero, ℕ}
use native.Mathlib.Omega.{arith}
use lib.Dec.{lit<}
use lib.ListN.{drop, get_or, length, length-take}
use borrow.Author.Tests.{le-ltb}
use Rattle.lent.specs.Lent.{fitted}
use Rattle.std.proofs.Common.{Ok}
use Rattle.lines.specs.Lines.{case_text, heading_of, line_of, line_text, longest, refusal_text}
use Rattle.replies.proofs.Laws.{two_digits}
use Rattle.replies.specs.Replies.{number_of}
use Rattle.replies.specs.declared.Reply.{Reply}
use Rattle.store.specs.Reading.{held_from_all, list_held}
use Rattle.store.specs.Shape.{right_shape, top}
use Rattle.store.specs.declared.Store.{Store}
use Rattle.text.proofs.Digits.{digits_most}
use Rattle.text.proofs.Lengths.{heading_length, refusal_length, row_length}
use Rattle.text.specs.Texts.{word}
use Rattle.wording.proofs.Bounds.{bounded}
use Rattle.wording.specs.Wording.{line_with, word_of}
use Rattle.theory.specs.Limits.{limits}

-- ---- how long a line can be

pub word_length : (n : ℕ) (l : List ℕ) (c : Bool) → length (word_of n l c) ≤ 13
unfolding word_of word
word_length zero l c = omega arith
word_length (suc i) [] true = omega arith
word_length (suc i) [] false = omega arith
word_length (suc i) (E ∷ l) c = omega arith

nogood_length : (l : List ℕ) (c : Bool) → length (word_of 0 l c) ≡ 7
unfolding word_of word
nogood_length l c = refl

-- `0 nogood` and all nogoods, or a number of three digits, a word and a full label
pub line_length : (s : Store) (n : ℕ) (c : Bool) → right_shape s ≡ true → length s.lists.nogoods ≤ limits.nogoods → n ≤ limits.numbers → length (line_with s.lists n c) ≤ longest
unfolding line_with
line_length s zero c t e h =
    let l : List ℕ = list_held s.lists 0 in
    let b = bounded s t in
    omega (arith, row_length 0 (word_of 0 l c) l, digits_most 0 0 (lit< tt), nogood_length l c, length-take s.lists.count s.lists.nogoods)
line_length s (suc i) c t e h =
    let l : List ℕ = list_held s.lists (suc i) in
    let k : suc i < 1000 = omega arith in
    omega (arith, row_length (suc i) (word_of (suc i) l c) l, digits_most 2 (suc i) k, word_length (suc i) l c, (bounded s t).sizes i h, length-take (get_or s.lists.sizes i 0) (drop (limits.label * i) s.lists.members))

pub case_length : (s : Store) → right_shape s ≡ true → length (case_text s) ≤ 19
unfolding case_text
case_length s t =
    let b = bounded s t in
    heading_length s.held.assumptions s.held.claims s.held.count s.lists.depth (omega arith) (omega arith) (omega arith) (omega arith)

pub refused_length : (r : Reply) (k : ℕ) → k < 2 ^ 32 → length (refusal_text r k) ≤ 22
unfolding refusal_text
refused_length r k h = refusal_length (number_of r) k (two_digits r) h

-- ---- where the lent bytes are as long as the longest line, nothing is refused with 15

fits : (t out : List ℕ) → length t ≤ length out → (fitted t out).answer ≡ Ok (length t)
unfolding fitted
fits t out h = rw (le-ltb (length out) (length t) h)

module _ (s : Store) (right : right_shape s ≡ true) (out : List ℕ) (room : longest ≤ length out) where
  pub line_fits : length s.lists.nogoods ≤ limits.nogoods → (n : ℕ) → n ≤ top s.held → (line_of s n out).answer ≡ Ok (length (line_text s n))
  unfolding line_of line_text
  line_fits e n h =
      let b = bounded s right in
      let l : n ≤ limits.numbers = omega arith in
      let k : length (line_text s n) ≤ longest = line_length s n (held_from_all s n) right e l in
      rw (right, le-ltb (top s.held) n h) (fits (line_text s n) out (omega arith))

  pub case_fits : (heading_of s out).answer ≡ Ok (length (case_text s))
  unfolding heading_of
  case_fits = rw right (fits (case_text s) out (omega (arith, case_length s right)))

pub refusal_fits : (r : Reply) (k : ℕ) (out : List ℕ) → k < 2 ^ 32 → longest ≤ length out → (fitted (refusal_text r k) out).answer ≡ Ok (length (refusal_text r k))
refusal_fits r k out h room = fits (refusal_text r k) out (omega (arith, refused_length r k h))
