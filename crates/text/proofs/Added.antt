-- Laws of writing: texts written one after the other are one text written. Assumes nothing.
use Rattle.std.proofs.Common.{◌≡◌, ◌⊎◌, inl, inr, ℕ, ◌+◌, ◌<◌, ◌≤◌, List, [], ◌∷◌, ◌++◌, length, take, drop, set, refl, ap, arith, append_assoc, length-append, length-drop, replicate}
use Rattle.std.proofs.lemmas.List.{drop-drop, drop_at, length-replicate, length-take, length-take-le, set_split, take_at}
use Rattle.std.proofs.lemmas.Grind.{common_steps}
use Rattle.std.specs.Borrow.{MutBor}
use Rattle.text.specs.Writer.{Room, added, begun, placed, text_of}
use Rattle.text.specs.declared.Writer.{Writer}

-- ---- the bytes

placed_none : (at : ℕ) (b : List ℕ) → placed [] at b ≡ b
unfolding placed
placed_none at b = grind (arith, common_steps)

placed_one : (x at : ℕ) (b : List ℕ) → at < length b → set b at x ≡ placed (x ∷ []) at b
unfolding placed
placed_one x at b h = grind (arith, set_split, append_assoc)

placed_length : (s : List ℕ) (at : ℕ) (b : List ℕ) → at + length s ≤ length b → length (placed s at b) ≡ length b
unfolding placed
placed_length s at b h = omega (arith, h, length-append (take at b ++ s) (drop (at + length s) b), length-append (take at b) s, length-drop (at + length s) b, length-take at b)

module _ (s t : List ℕ) (at : ℕ) (b : List ℕ) where
  past : length b ≤ at → placed t (at + length s) (placed s at b) ≡ placed (s ++ t) at b
  unfolding placed
  past h = grind (arith, common_steps)

  within : at ≤ length b → placed t (at + length s) (placed s at b) ≡ placed (s ++ t) at b
  unfolding placed
  within h =
      let front : List ℕ = take at b ++ s in
      let l : length front ≡ at + length s = omega (arith, length-append (take at b) s, length-take-le at b h) in
      let d : at + length s + length t ≡ at + length (s ++ t) = omega (arith, length-append s t) in
      rw (take_at front (drop (at + length s) b) (at + length s) l, ← drop-drop (length t) (at + length s) (front ++ drop (at + length s) b), drop_at front (drop (at + length s) b) (at + length s) l, drop-drop (length t) (at + length s) b, d, append_assoc (take at b) s t) refl

  either_way : (at ≤ length b) ⊎ (length b ≤ at)
  either_way = grind arith

  placed_more : placed t (at + length s) (placed s at b) ≡ placed (s ++ t) at b
  placed_more = elim either_way [ inl h ↦ within h | inr h ↦ past h ]

-- ---- the writer

pub added_none : (w : Writer) → added [] w ≡ w
unfolding added
added_none w = let e : w.written + 0 ≡ w.written = omega arith in rw (placed_none w.written w.bytes.now, e) refl

pub added_one : (x : ℕ) (w : Writer) → w.written < length w.bytes.now → record { bytes = record w.bytes { now = set w.bytes.now w.written x }; written = w.written + 1 } ≡ added (x ∷ []) w
unfolding added
added_one x w h = rw (placed_one x w.written w.bytes.now h) refl

pub added_more : (s t : List ℕ) (w : Writer) → added t (added s w) ≡ added (s ++ t) w
unfolding added
added_more s t w =
    let e : w.written + length s + length t ≡ w.written + length (s ++ t) = omega (arith, length-append s t) in
    rw (placed_more s t w.written w.bytes.now, e) refl

pub written_added : (s : List ℕ) (w : Writer) → (added s w).written ≡ w.written + length s
unfolding added
written_added s w = refl

pub size_added : (s : List ℕ) (w : Writer) → Room s w → length (added s w).bytes.now ≡ length w.bytes.now
unfolding added
size_added s w h = placed_length s w.written w.bytes.now h

pub ruleset writes = (added_none, added_more, written_added, size_added, length-append)

-- ---- what is left to be written

-- T is to be written into w₀; w has its beginning, and t is left to be written
pub record Left (t : List ℕ) (w : Writer) (T : List ℕ) (w₀ : Writer) : Type 0 where
  pub room : Room t w
  pub done : added t w ≡ added T w₀

-- ---- a text from the first of lent bytes on

module _ (t : List ℕ) (lent : MutBor (List ℕ)) where
  pub begun_name : (added t (begun lent)).bytes.ghost_name ≡ lent.ghost_name
  unfolding added
  begun_name = refl

  pub begun_bytes : (added t (begun lent)).bytes.now ≡ t ++ drop (length t) lent.now
  unfolding added placed
  begun_bytes = grind (arith, common_steps)

  pub begun_text : text_of (added t (begun lent)) ≡ t
  unfolding added placed text_of
  begun_text = grind (arith, common_steps)

pub ruleset texts = (begun_name, begun_bytes, begun_text, written_added, size_added)

-- .. where a writer is one that begins there
module _ {lent : MutBor (List ℕ)} {w : Writer} (begins : w ≡ begun lent) (t : List ℕ) where
  pub fresh_room : length t ≤ length lent.now → Room t w
  fresh_room h = rw begins (omega (arith, h))

  module _ {w' : Writer} (e : w' ≡ added t w) where
    whole : w' ≡ added t (begun lent)
    whole = rw begins at e

    pub whole_name : w'.bytes.ghost_name ≡ lent.ghost_name
    whole_name = rw whole (begun_name t lent)

    pub whole_bytes : w'.bytes.now ≡ t ++ drop (length t) lent.now
    whole_bytes = rw whole (begun_bytes t lent)

    pub whole_length : w'.written ≡ length t
    whole_length = rw whole (omega (arith, written_added t (begun lent)))

    pub whole_text : text_of w' ≡ t
    whole_text = rw whole (begun_text t lent)

    pub whole_room : length t ≤ length lent.now → Room [] w'
    whole_room h = omega (arith, whole_length, h, ap length whole_bytes, length-append t (drop (length t) lent.now), length-drop (length t) lent.now)
