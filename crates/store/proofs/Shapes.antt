-- The shape of a store, test by test. Assumes nothing.
use mathlib.Core.Bool.{Bool, ◌&&◌, false, true}
use mathlib.Core.Path.{◌≡◌}
use Prim.Native.Nat.{◌<◌, ◌≤◌}
use lib.Dec.{leb}
use borrow.Author.Tests.{le-leb, leb-true, lt-leb}
use Rattle.rules.specs.Held.{held_right}
use Rattle.rules.specs.declared.Held.{Held}
use Rattle.shape.specs.Shape.{lists_right}
use Rattle.store.specs.Shape.{held_fits, right_shape, top}
use Rattle.store.specs.declared.Store.{Store}
use Rattle.theory.proofs.Lists.{and_left, and_right}
use Rattle.theory.specs.Limits.{limits}

module _ (h : Held) where
  pub fits_a : limits.assumptions < h.assumptions → false ≡ held_fits h
  unfolding held_fits
  fits_a p = rw (lt-leb h.assumptions limits.assumptions p)

  pub fits_m : h.assumptions ≤ limits.assumptions → limits.claims < h.claims → false ≡ held_fits h
  unfolding held_fits
  fits_m a p = rw (le-leb h.assumptions limits.assumptions a, lt-leb h.claims limits.claims p)

  pub fits_rest : h.assumptions ≤ limits.assumptions → h.claims ≤ limits.claims → held_right h ≡ held_fits h
  unfolding held_fits
  fits_rest a m = rw (le-leb h.assumptions limits.assumptions a, le-leb h.claims limits.claims m)

-- what a right shape says
pub record Fitting (h : Held) : Type 0 where
  pub few : h.assumptions ≤ limits.assumptions
  pub claims : h.claims ≤ limits.claims
  pub right : held_right h ≡ true

pub fits_elim : (h : Held) → held_fits h ≡ true → Fitting h
unfolding held_fits
fits_elim h t =
    let p : Bool = leb h.assumptions limits.assumptions in
    let q : Bool = leb h.claims limits.claims in
    let u : q && held_right h ≡ true = and_right p (q && held_right h) t in
    record { few = leb-true h.assumptions limits.assumptions (and_left p (q && held_right h) t); claims = leb-true h.claims limits.claims (and_left q (held_right h) u); right = and_right q (held_right h) u }

module _ (s : Store) where
  pub shape_held : held_fits s.held ≡ false → false ≡ right_shape s
  unfolding right_shape
  shape_held p = rw p

  pub shape_lists : held_fits s.held ≡ true → (r : Bool) → r ≡ lists_right s.lists s.held.assumptions (top s.held) → r ≡ right_shape s
  unfolding right_shape
  shape_lists p r e = rw p e

  pub shape_elim : right_shape s ≡ true → Fitting s.held × (lists_right s.lists s.held.assumptions (top s.held) ≡ true)
  unfolding right_shape
  shape_elim t =
      let p : Bool = held_fits s.held in
      let q : Bool = lists_right s.lists s.held.assumptions (top s.held) in
      (fits_elim s.held (and_left p q t), and_right p q t)
