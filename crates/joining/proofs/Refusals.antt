-- What the pool refuses: all that contains it is refused, and stays refused. Assumes nothing.
use mathlib.Core.Bool.{Bool, ◌&&◌, false, not, true}
use mathlib.Core.List.Memᴰ
use mathlib.Core.List.Memᴰ.{head as here}
use mathlib.Core.List.Memᴰ.{tail as there}
use mathlib.Core.List.{List, Memᴰ as Mem, [], ◌++◌, ◌∷◌}
use mathlib.Core.Logic.{◌⊎◌, inl, inr, ⊎_elim}
use Rattle.std.specs.Prelude.{Option, None, Some}
use mathlib.Core.Path.{◌∙◌, ◌≡◌, ap, refl, subst, sym}
use Prim.Native.Nat.{ℕ}
use lib.Dec.{ltb}
use lib.ListN.{get_or, length, take}
use borrow.Author.Tests.{lt-ltb, ltb-true, not-true}
use Rattle.joining.proofs.Placed.{cut, first_before, mem_take, placed_elim, placed_other, placed_sorted, placed_this, sorted_take}
use Rattle.joining.specs.Pool.{Filled, Refused, Well, entered, enters, late_by, offered, offered_all, placed, purged}
use Rattle.members.proofs.First.{at_mem}
use Rattle.theory.proofs.Label.{contains_elim, contains_intro}
use Rattle.theory.proofs.Lists.{clash, either, not_so, those_elim, those_intro}
use Rattle.theory.proofs.Order.{before_trans, sorted_those}
use Rattle.theory.proofs.Select.{within_before}
use Rattle.theory.proofs.Sets.{within_refl, within_trans}
use Rattle.theory.specs.Lists.{choose, sorted_by}
use Rattle.theory.specs.Sets.{before, contains, within}
use Rattle.theory.specs.Step.{free}

-- ---- the three tests
any_false : (a b c : Bool) → not a && (not b && not c) ≡ false → (b ≡ true) ⊎ ((c ≡ true) ⊎ (a ≡ true))
any_false true b c e = inr (inr refl)
any_false false true c e = inl refl
any_false false false true e = inr (inl refl)
any_false false false false e = clash refl e

all_false : (a b c : Bool) → not a && (not b && not c) ≡ true → (a ≡ false) × (b ≡ false) × (c ≡ false)
all_false true b c e = clash e refl
all_false false true c e = clash e refl
all_false false false true e = clash e refl
all_false false false false e = (refl, refl, refl)

by_second : (a b c : Bool) → b ≡ true → not a && (not b && not c) ≡ false
by_second true b c e = refl
by_second false b c e = rw e

by_third : (a b c : Bool) → c ≡ true → not a && (not b && not c) ≡ false
by_third true b c e = refl
by_third false true c e = refl
by_third false false c e = rw e

module _ (struck : List ℕ) (f : Filled) (t : ℕ) where
  pub refused_cases : Refused struck f t → (contains struck t ≡ true) ⊎ ((contains f.sets t ≡ true) ⊎ (late_by f.bound t ≡ true))
  unfolding enters free
  refused_cases e = any_false (late_by f.bound t) (contains struck t) (contains f.sets t) e

  pub enters_parts : enters struck f t ≡ true → (late_by f.bound t ≡ false) × (contains struck t ≡ false) × (contains f.sets t ≡ false)
  unfolding enters free
  enters_parts e = all_false (late_by f.bound t) (contains struck t) (contains f.sets t) e

  pub by_late : late_by f.bound t ≡ true → Refused struck f t
  unfolding enters
  by_late e = ap (λ (b : Bool). not b && free struck f.sets t) e

  pub by_free : free struck f.sets t ≡ false → Refused struck f t
  unfolding enters
  by_free e = and_none (not (late_by f.bound t)) e
    where
      and_none : (a : Bool) {b : Bool} → b ≡ false → a && b ≡ false
      and_none true e = e
      and_none false e = refl

  pub by_struck : contains struck t ≡ true → Refused struck f t
  unfolding enters free
  by_struck e = by_second (late_by f.bound t) (contains struck t) (contains f.sets t) e

  pub by_pool : contains f.sets t ≡ true → Refused struck f t
  unfolding enters free
  by_pool e = by_third (late_by f.bound t) (contains struck t) (contains f.sets t) e

-- ---- what contains a refused set is refused

-- what contains a set that does not stand before y does not stand before y either
late_more : (G H y : ℕ) → within G H ≡ true → before G y ≡ false → before H y ≡ false
late_more G H y w l =
    ⊎_elim (λ (q : G ≡ H). subst (λ (x : ℕ). before x y ≡ false) q l) (λ b. not_so (before H y) (λ c. clash (before_trans G H y b c) l)) (within_before G H w)

contains_more : (l : List ℕ) (t H : ℕ) → within t H ≡ true → contains l t ≡ true → contains l H ≡ true
contains_more l t H w c = let i = contains_elim l t c in contains_intro H i.1 (within_trans i.0 t H i.2 w)

pub late_up : (b : Option ℕ) (t H : ℕ) → within t H ≡ true → late_by b t ≡ true → late_by b H ≡ true
late_up None t H w e = e
late_up (Some y) t H w e = ap not (late_more t H y w (not-true (before t y) e))

pub refused_more : (struck : List ℕ) (f : Filled) (t H : ℕ) → within t H ≡ true → Refused struck f t → Refused struck f H
refused_more struck f t H w e =
    ⊎_elim (λ a. by_struck struck f H (contains_more struck t H w a))
    (⊎_elim (λ a. by_pool struck f H (contains_more f.sets t H w a)) (λ a. by_late struck f H (late_up f.bound t H w a)))
    (refused_cases struck f t e)

-- ---- what is refused stays refused, and what was offered is refused
late_past : (b : Option ℕ) (t d : ℕ) → late_by b t ≡ true → late_by b d ≡ false → before t d ≡ false
late_past None t d p q = clash p refl
late_past (Some y) t d p q = not_so (before t d) (λ a. go (either (before d y)) a)
  where
    go : ((before d y ≡ true) ⊎ (before d y ≡ false)) → before t d ≡ true → ⊥
    go (inl c) a = clash (before_trans t d y a c) (not-true (before t y) p)
    go (inr c) a = clash (ap not c) q

module _ (room : ℕ) (struck : List ℕ) (f : Filled) (w : Well f) (E : ℕ) where
  abbrev whole : List ℕ
  whole = placed E (purged E f.sets)

  whole_cases : {x : ℕ} → Mem x whole → (x ≡ E) ⊎ Mem x f.sets
  unfolding purged
  whole_cases m = ⊎_elim inl (λ n. inr (those_elim (λ F. not (within E F)) f.sets n).0) (placed_elim E (purged E f.sets) m)

  whole_sorted : sorted_by before whole ≡ true
  unfolding purged
  whole_sorted =
      placed_sorted E (purged E f.sets) (sorted_those before (λ F. not (within E F)) f.sets w.sorted)
      (λ F m q. clash (subst (λ (v : ℕ). within E v ≡ true) (sym q) (within_refl E)) (not-true (within E F) (those_elim (λ F. not (within E F)) f.sets m).1))

  -- what lies in, or goes out just now, is refused with all that contains it
  in_stays : {x : ℕ} → Mem x whole → (t : ℕ) → within x t ≡ true → Refused struck (entered room f E) t
  in_stays {x} m t p =
      ⊎_elim (λ i. by_pool struck (entered room f E) t (contains_intro t i p))
      (λ i. by_late struck (entered room f E) t
      (ap (λ (b : Bool). late_by (choose b (Some (get_or whole room 0)) f.bound) t) (lt-ltb room (length whole) i.0) ∙ ap not (late_more x t (get_or whole room 0) p i.1)))
      (cut room whole whole_sorted m)

  module _ (e : late_by f.bound E ≡ false) where
    whole_ahead : (x : ℕ) → Mem x whole → late_by f.bound x ≡ false
    whole_ahead x m = ⊎_elim (λ (q : x ≡ E). subst (λ (v : ℕ). late_by f.bound v ≡ false) (sym q) e) (w.ahead x) (whole_cases m)

    pub entered_well : Well (entered room f E)
    entered_well = record { sorted = sorted_take room whole whole_sorted; ahead = λ x m. go x m (ltb room (length whole)) refl }
      where
        go : (x : ℕ) → Mem x (take room whole) → (b : Bool) → ltb room (length whole) ≡ b → late_by (choose b (Some (get_or whole room 0)) f.bound) x ≡ false
        go x m true q = ap not (first_before room whole whole_sorted (ltb-true room (length whole) q) m)
        go x m false q = whole_ahead x (mem_take room whole m)

    late_stays : (t : ℕ) → late_by f.bound t ≡ true → late_by (entered room f E).bound t ≡ true
    late_stays t h = go (ltb room (length whole)) refl
      where
        go : (b : Bool) → ltb room (length whole) ≡ b → late_by (choose b (Some (get_or whole room 0)) f.bound) t ≡ true
        go true q = ap not (late_past f.bound t (get_or whole room 0) h (whole_ahead (get_or whole room 0) (at_mem whole room (ltb-true room (length whole) q))))
        go false q = h

    refused_entered : (t : ℕ) → Refused struck f t → Refused struck (entered room f E) t
    unfolding purged
    refused_entered t r =
        ⊎_elim (λ a. by_struck struck (entered room f E) t a)
        (⊎_elim (λ a. let i = contains_elim f.sets t a in
        ⊎_elim (λ p. in_stays (placed_this E (purged E f.sets)) t (within_trans E i.0 t p i.2))
        (λ p. in_stays (placed_other E (purged E f.sets) (those_intro (λ F. not (within E F)) i.1 (ap not p))) t i.2) (either (within E i.0)))
        (λ a. by_late struck (entered room f E) t (late_stays t a)))
        (refused_cases struck f t r)

  pub well_offered : Well (offered room struck f E)
  well_offered = go (enters struck f E) refl
    where
      go : (b : Bool) → enters struck f E ≡ b → Well (choose b (entered room f E) f)
      go true e = entered_well (enters_parts struck f E e).0
      go false e = w

  pub refused_offered : (t : ℕ) → Refused struck f t → Refused struck (offered room struck f E) t
  refused_offered t r = go (enters struck f E) refl
    where
      go : (b : Bool) → enters struck f E ≡ b → Refused struck (choose b (entered room f E) f) t
      go true e = refused_entered (enters_parts struck f E e).0 t r
      go false e = r

  pub refused_self : Refused struck (offered room struck f E) E
  refused_self = go (enters struck f E) refl
    where
      go : (b : Bool) → enters struck f E ≡ b → Refused struck (choose b (entered room f E) f) E
      go true e = in_stays (placed_this E (purged E f.sets)) E (within_refl E)
      go false e = e

-- ---- over a list
module _ (room : ℕ) (struck : List ℕ) where
  pub well_stays : (l : List ℕ) (f : Filled) → Well f → Well (offered_all room struck f l)
  unfolding offered_all
  well_stays [] f w = w
  well_stays (E ∷ l) f w = well_stays l (offered room struck f E) (well_offered room struck f w E)

  pub refused_stays : (l : List ℕ) (f : Filled) → Well f → (t : ℕ) → Refused struck f t → Refused struck (offered_all room struck f l) t
  unfolding offered_all
  refused_stays [] f w t r = r
  refused_stays (E ∷ l) f w t r = refused_stays l (offered room struck f E) (well_offered room struck f w E) t (refused_offered room struck f w E t r)

  -- all that was offered is refused
  pub refused_all : (l : List ℕ) (f : Filled) → Well f → (t : ℕ) → Mem t l → Refused struck (offered_all room struck f l) t
  unfolding offered_all
  refused_all [] f w t m = elim m [ ]
  refused_all (E ∷ l) f w t m =
      let g : Filled = offered room struck f E in
      let v : Well g = well_offered room struck f w E in
      ⊎_elim (λ (q : t ≡ E). refused_stays l g v t (subst (λ (x : ℕ). Refused struck g x) (sym q) (refused_self room struck f w E))) (λ n. refused_all l g v t n) (Memᴰ.cases_cons m)

  pub offered_append : (m n : List ℕ) (f : Filled) → offered_all room struck f (m ++ n) ≡ offered_all room struck (offered_all room struck f m) n
  unfolding offered_all
  offered_append [] n f = refl
  offered_append (E ∷ m) n f = offered_append m n (offered room struck f E)

  -- what is refused changes nothing
  pub offered_skip : (m : List ℕ) (f : Filled) → ((x : ℕ) → Mem x m → Refused struck f x) → offered_all room struck f m ≡ f
  unfolding offered_all
  offered_skip [] f h = refl
  offered_skip (E ∷ m) f h = ap (λ (b : Bool). offered_all room struck (choose b (entered room f E) f) m) (h E (here refl)) ∙ offered_skip m f (λ x o. h x (there o))
