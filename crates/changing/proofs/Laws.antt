-- One justification more or less, test by test. Assumes nothing.
use mathlib.Core.Bool.{Bool, false, not, true}
use mathlib.Core.List.{List}
use mathlib.Core.Path.{◌∙◌, ◌≡◌, ap, refl, sym}
use Prim.Native.Nat.{◌+◌, ◌<◌, ◌≤◌, ℕ}
use lib.Dec.{eqb}
use borrow.Author.Tests.{eqb-true, eq-eqb, le-leb, lt-leb, ne_eqb}
use Rattle.changing.specs.Changing.{excluded, included, less_of, more_of, placed_of, sifted}
use Rattle.std.specs.Prelude.{Err, Ok, Result}
use Rattle.replies.proofs.Checked.{checked_refusal}
use Rattle.replies.proofs.Laws.{zero_done}
use Rattle.replies.specs.Replies.{checked, number_of}
use Rattle.replies.specs.declared.Reply.{Reply}
use Rattle.replies.specs.declared.Reply.TheVariants.{Already, Done, Full, Unheld}
use Rattle.rules.proofs.Laws.{canonical_fits}
use Rattle.rules.specs.Held.{dropped, entry_of, fitting, held_of, meaning, put, said_by}
use Rattle.rules.specs.Items.{fault_of, justification_of, same_justification}
use Rattle.rules.specs.declared.Entry.{Entry}
use Rattle.rules.specs.declared.Held.{Held}
use Rattle.theory.specs.Lists.{choose, some_of}
use Rattle.theory.specs.Stages.{Justification}

-- ---- the item in its place

module _ (N c : ℕ) (l : List ℕ) where
  abbrev j : Justification
  j = justification_of N c l

  module _ {X : Type 0} (go : Justification → Result X Reply) where
    sift_fault : {r : Reply} → Err r ≡ checked (fault_of N c l) → Err r ≡ sifted N c l go
    sift_fault {r} t =
        let p = checked_refusal (fault_of N c l) r (sym t) in
        ap Err (sym p.0) ∙ rw (ne_eqb (number_of (fault_of N c l)) 0 (λ z. p.1 (ap number_of (sym p.0) ∙ z)))

    sift_item : fault_of N c l ≡ Done → go j ≡ sifted N c l go
    sift_item d = rw (eq-eqb (number_of (fault_of N c l)) 0 (ap number_of d))

  pub placed_fault : {r : Reply} → Err r ≡ checked (fault_of N c l) → Err r ≡ placed_of N c l
  unfolding placed_of
  placed_fault = sift_fault (λ j. Ok (entry_of j))

  pub placed_done : fault_of N c l ≡ Done → {e : Entry} → e ≡ entry_of j → Ok e ≡ placed_of N c l
  unfolding placed_of
  placed_done d q = ap Ok q ∙ sift_item (λ j. Ok (entry_of j)) d

  -- the item has no fault, and e is its place
  pub record Item (e : Entry) : Type 0 where
    pub done : fault_of N c l ≡ Done
    pub fits : fitting N e ≡ true
    pub says : meaning e ≡ j

  pub item : {e : Entry} → Ok e ≡ placed_of N c l → Item e
  unfolding placed_of
  item {e} t = go (eqb (number_of (fault_of N c l)) 0) refl t
    where
      go : (b : Bool) → eqb (number_of (fault_of N c l)) 0 ≡ b → Ok e ≡ choose (not b) (Err (fault_of N c l)) (Ok (entry_of j)) → Item e
      go true z t =
          let d : fault_of N c l ≡ Done = zero_done (fault_of N c l) (eqb-true (number_of (fault_of N c l)) 0 z) in
          let q : e ≡ entry_of j = cc in
          let p = canonical_fits N c l d in
          record { done = d; fits = ap (fitting N) q ∙ p.0; says = ap meaning q ∙ p.1 }
      go false z t = cc

  -- the refusal of the item is that of what is done with it
  pub item_refused : {r : Reply} → Err r ≡ placed_of N c l → {X : Type 0} (go : Justification → Result X Reply) → Err r ≡ sifted N c l go
  unfolding placed_of
  item_refused {r} t {X} go = at (eqb (number_of (fault_of N c l)) 0) t
    where
      at : (b : Bool) → Err r ≡ choose (not b) (Err (fault_of N c l)) (Ok (entry_of j)) → ◌≡◌ {A = Result X Reply} (Err r) (choose (not b) (Err (fault_of N c l)) (go j))
      at true t = cc
      at false t = let q : fault_of N c l ≡ r = cc in ap Err (sym q)

-- ---- what is done with it

module _ (h : Held) (c : ℕ) (l : List ℕ) where
  abbrev N : ℕ
  N = h.assumptions + h.claims

  pub more_fault : {r : Reply} → Err r ≡ placed_of N c l → Err r ≡ more_of h c l
  unfolding more_of
  more_fault t = item_refused N c l t (included h)

  pub less_fault : {r : Reply} → Err r ≡ placed_of N c l → Err r ≡ less_of h c l
  unfolding less_of
  less_fault t = item_refused N c l t (excluded h)

  module _ {e : Entry} (i : Item N c l e) where
    more_item : included h (meaning e) ≡ more_of h c l
    unfolding more_of
    more_item = ap (included h) i.says ∙ sift_item N c l (included h) i.done

    less_item : excluded h (meaning e) ≡ less_of h c l
    unfolding less_of
    less_item = ap (excluded h) i.says ∙ sift_item N c l (excluded h) i.done

    pub more_held : some_of (same_justification (meaning e)) (said_by h) ≡ true → Err Already ≡ more_of h c l
    unfolding included
    more_held t = go ∙ more_item
      where
        go : Err Already ≡ included h (meaning e)
        go = rw t

    module _ (t : some_of (same_justification (meaning e)) (said_by h) ≡ false) where
      pub more_full : 256 ≤ h.count → Err Full ≡ more_of h c l
      unfolding included
      more_full p = go ∙ more_item
        where
          go : Err Full ≡ included h (meaning e)
          go = rw (t, le-leb 256 h.count p)

      pub more_done : h.count < 256 → (k : Held) → k ≡ held_of h.assumptions h.claims (put (meaning e) (said_by h)) → Ok k ≡ more_of h c l
      unfolding included
      more_done p k q = ap Ok q ∙ go ∙ more_item
        where
          go : Ok (held_of h.assumptions h.claims (put (meaning e) (said_by h))) ≡ included h (meaning e)
          go = rw (t, lt-leb 256 h.count p)

      pub less_unheld : Err Unheld ≡ less_of h c l
      unfolding excluded
      less_unheld = go ∙ less_item
        where
          go : Err Unheld ≡ excluded h (meaning e)
          go = rw t

    pub less_done : some_of (same_justification (meaning e)) (said_by h) ≡ true → (k : Held) → k ≡ held_of h.assumptions h.claims (dropped (meaning e) (said_by h)) → Ok k ≡ less_of h c l
    unfolding excluded
    less_done t k q = ap Ok q ∙ go ∙ less_item
      where
        go : Ok (held_of h.assumptions h.claims (dropped (meaning e) (said_by h))) ≡ excluded h (meaning e)
        go = rw t
