-- The right shape of a store, as document 01 has it. Assumes nothing.
use Rattle.std.specs.Prelude.{Bool, ◌&&◌, ◌≡◌, leb}
use Rattle.rules.specs.Held.{held_right}
pub use Rattle.rules.specs.Held.{top}
use Rattle.rules.specs.declared.Held.{Held}
use Rattle.shape.specs.Shape.{lists_right}
use Rattle.store.specs.declared.Store.{Store}
use Rattle.theory.specs.Limits.{limits}

-- what is held: counts within the limits, justifications in range and strictly in order, unused places zero
unfoldable pub held_fits : Held → Bool
held_fits h = leb h.assumptions limits.assumptions && (leb h.claims limits.claims && held_right h)

-- .. and every list
unfoldable pub right_shape : Store → Bool
right_shape s = held_fits s.held && lists_right s.lists s.held.assumptions (top s.held)

abbrev pub RightShape : Store → Bool → Type 0
RightShape s r = r ≡ right_shape s
