-- Passes over the candidates: a pass gives the whole selection, or exactly its members before the bound, and more of them than it began with. Assumes nothing.
use mathlib.Core.Bool.{Bool, false, not, true}
use mathlib.Core.List.Memᴰ
use mathlib.Core.List.Memᴰ.{head as here}
use mathlib.Core.List.Memᴰ.{tail as there}
use mathlib.Core.List.{List, Memᴰ as Mem, [], ◌++◌, ◌∷◌, append-nil}
use mathlib.Core.Logic.{◌⊎◌, inl, inr, ⊎_elim}
use Rattle.std.specs.Prelude.{Option, None, Some}
use mathlib.Core.Path.{◌∙◌, ◌≡◌, ap, ap₂, refl, subst, sym}
use Prim.Native.Nat.{◌+◌, ◌-◌, ◌<◌, ◌≤◌, ℕ}
use native.Mathlib.Omega.{arith}
use lib.ListN.{drop, length, length-append, length-take, take, take-append-drop}
use lib.Seq.{take-append-add}
use borrow.Author.Tests.{not-true}
use Rattle.labels.proofs.Selects.{Sound, sound_in, sound_take}
use Rattle.joining.proofs.Placed.{placed_past}
use Rattle.theory.proofs.Label.{contains_elim, contains_intro}
use Rattle.theory.proofs.Lists.{clash, not_so, those_elim, those_intro}
use Rattle.theory.proofs.Order.{before_asym, before_irrefl, before_trans, sorted_head, sorted_tail, sorted_those, sorted_unique}
use Rattle.theory.proofs.Select.{Selection, within_before}
use Rattle.theory.proofs.Sets.{within_antisym, within_trans}
use Rattle.theory.specs.Lists.{choose, keep, sorted_by, those}
use Rattle.theory.specs.Sets.{before, contains, within}
use Rattle.joining.proofs.Refusals.{enters_parts, late_up, refused_all, refused_cases, well_stays}
use Rattle.joining.specs.Pool.{Filled, Refused, Well, entered, enters, late_by, offered, offered_all, placed, purged}

-- ---- whatever went out, the pool holds only what it may hold
module _ (room : ℕ) (struck cands : List ℕ) where
  sound_offered : (f : Filled) (E : ℕ) → Mem E cands → Sound struck cands f.sets → Sound struck cands (offered room struck f E).sets
  sound_offered f E m s = go (enters struck f E) refl
    where
      go : (b : Bool) → enters struck f E ≡ b → Sound struck cands (choose b (entered room f E) f).sets
      go true e =
          let p = enters_parts struck f E e in
          sound_take struck cands room (placed E (purged E f.sets)) (sound_in struck cands f.sets s E m (ap not p.1) p.2)
      go false e = s

  pub sound_all : (l : List ℕ) (f : Filled) → ((E : ℕ) → Mem E l → Mem E cands) → Sound struck cands f.sets → Sound struck cands (offered_all room struck f l).sets
  unfolding offered_all
  sound_all [] f h s = s
  sound_all (E ∷ l) f h s = sound_all l (offered room struck f E) (λ F m. h F (there m)) (sound_offered f E (h E (here refl)) s)

-- ---- a pool that refuses all candidates holds exactly the members of the selection before its bound
module _ (struck cands X : List ℕ) (sel : Selection X cands (λ E. not (contains struck E))) (f : Filled) (ok : Well f) (sound : Sound struck cands f.sets) (all : (E : ℕ) → Mem E cands → Refused struck f E) where
  abbrev early : ℕ → Bool
  early E = not (late_by f.bound E)

  -- a clean candidate before the bound contains a set of the pool
  held : (E : ℕ) → Mem E cands → not (contains struck E) ≡ true → late_by f.bound E ≡ false → contains f.sets E ≡ true
  held E m c l =
      ⊎_elim (λ a. clash c (ap not a)) (⊎_elim (λ a. a) (λ a. clash a l)) (refused_cases struck f E (all E m))

  not_late : (y x : ℕ) → within y x ≡ true → late_by f.bound x ≡ false → late_by f.bound y ≡ false
  not_late y x w l = not_so (late_by f.bound y) (λ t. clash (late_up f.bound y x w t) l)

  to : (x : ℕ) → Mem x f.sets → Mem x (those early X)
  to x m =
      let e = sound.from x m in
      let i = sel.inner x e.0 e.1 in
      let o = sel.from i.0 i.1 in
      let l : late_by f.bound i.0 ≡ false = not_late i.0 x i.2 (ok.ahead x m) in
      let j = contains_elim f.sets i.0 (held i.0 o.0 o.1 l) in
      let q : j.0 ≡ x = sound.apart j.0 x j.1 m (within_trans j.0 i.0 x j.2 i.2) in
      let s : x ≡ i.0 = within_antisym x i.0 (subst (λ (v : ℕ). within v i.0 ≡ true) q j.2) i.2 in
      those_intro early (Memᴰ.cast s i.1) (ap not (ok.ahead x m))

  back : (x : ℕ) → Mem x (those early X) → Mem x f.sets
  back x n =
      let m = those_elim early X n in
      let e = sel.from x m.0 in
      let j = contains_elim f.sets x (held x e.0 e.1 (not-true (late_by f.bound x) m.1)) in
      let o = sound.from j.0 j.1 in
      let i = sel.inner j.0 o.0 o.1 in
      let q : i.0 ≡ x = sel.apart i.0 x i.1 m.0 (within_trans i.0 j.0 x i.2 j.2) in
      let s : x ≡ j.0 = within_antisym x j.0 (subst (λ (v : ℕ). within v j.0 ≡ true) q i.2) j.2 in
      Memᴰ.cast s j.1

  pub exact : f.sets ≡ those early X
  exact = sorted_unique f.sets (those early X) sound.sorted (sorted_those before early X sel.sorted) to back

-- in a sorted list those before a bound are its first so many
none_pass : (p : ℕ → Bool) (l : List ℕ) → ((x : ℕ) → Mem x l → p x ≡ false) → those p l ≡ []
unfolding those
none_pass p [] h = refl
none_pass p (x ∷ l) h = rw (h x (here refl), none_pass p l (λ y m. h y (there m)))

all_pass : (p : ℕ → Bool) (l : List ℕ) → ((x : ℕ) → Mem x l → p x ≡ true) → those p l ≡ l
unfolding those
all_pass p [] h = refl
all_pass p (x ∷ l) h = rw (h x (here refl), all_pass p l (λ y m. h y (there m)))

late_on : (b : Option ℕ) (x y : ℕ) → before x y ≡ true → late_by b x ≡ true → late_by b y ≡ true
late_on None x y p t = t
late_on (Some d) x y p t = ap not (not_so (before y d) (λ q. clash (before_trans x y d p q) (not-true (before x d) t)))

pub early_first : (b : Option ℕ) (l : List ℕ) → sorted_by before l ≡ true → those (λ E. not (late_by b E)) l ≡ take (length (those (λ E. not (late_by b E)) l)) l
unfolding those
early_first b [] s = refl
early_first b (x ∷ l) s = go (late_by b x) refl (early_first b l (sorted_tail before x l s))
  where
    go : (c : Bool) → late_by b x ≡ c → those (λ E. not (late_by b E)) l ≡ take (length (those (λ E. not (late_by b E)) l)) l
        → keep (not c) x (those (λ E. not (late_by b E)) l) ≡ take (length (keep (not c) x (those (λ E. not (late_by b E)) l))) (x ∷ l)
    go true e ih =
        let z : those (λ E. not (late_by b E)) l ≡ [] = none_pass (λ E. not (late_by b E)) l (λ y m. ap not (late_on b x y (sorted_head before x s y m) e)) in
        z ∙ sym (ap (λ (m : List ℕ). take (length m) (x ∷ l)) z)
    go false e ih = ap (λ (m : List ℕ). x ∷ m) ih

-- ---- a set that stands behind the first so many
sorted_parts : (P R : List ℕ) → sorted_by before (P ++ R) ≡ true → (x y : ℕ) → Mem x P → Mem y R → before x y ≡ true
sorted_parts [] R s x y a b = elim a [ ]
sorted_parts (z ∷ P) R s x y a b =
    ⊎_elim (λ (q : x ≡ z). subst (λ (v : ℕ). before v y ≡ true) (sym q) (sorted_head before z s y (Memᴰ.append_right P b)))
    (λ n. sorted_parts P R (sorted_tail before z (P ++ R) s) x y n b) (Memᴰ.cases_cons a)

placed_some : (E : ℕ) (l : List ℕ) → 1 ≤ length (placed E l)
unfolding placed
placed_some E [] = omega arith
placed_some E (x ∷ l) = omega arith

those_append : (p : ℕ → Bool) (P Q : List ℕ) → ((x : ℕ) → Mem x P → p x ≡ true) → those p (P ++ Q) ≡ P ++ those p Q
unfolding those
those_append p [] Q h = refl
those_append p (x ∷ P) Q h = rw (h x (here refl), those_append p P Q (λ y m. h y (there m)))

-- ---- a pass, from the sets kept on
abbrev pub begin : List ℕ → Filled
begin P = record { sets = P; bound = None }

abbrev pub pass : ℕ → List ℕ → List ℕ → List ℕ → Filled
pass room struck cands P = offered_all room struck (begin P) cands

module _ (struck cands X : List ℕ) (sel : Selection X cands (λ E. not (contains struck E))) (room : ℕ) (P : List ℕ) (are : P ≡ take (length P) X) where
  abbrev end : Filled
  end = pass room struck cands P

  sound_begin : Sound struck cands P
  sound_begin = subst (Sound struck cands) (sym are) (sound_take struck cands (length P) X (record { sorted = sel.sorted; apart = sel.apart; from = sel.from }))

  pub well_begin : Well (begin P)
  well_begin = record { sorted = sound_begin.sorted; ahead = λ x m. refl }

  pub pass_well : Well (pass room struck cands P)
  pass_well = well_stays room struck cands (begin P) well_begin

  -- exactly its members that are not late
  pub pass_exact : (pass room struck cands P).sets ≡ those (λ E. not (late_by (pass room struck cands P).bound E)) X
  pass_exact =
      exact struck cands X sel end pass_well (sound_all room struck cands cands (begin P) (λ E m. m) sound_begin)
      (λ E m. refused_all room struck cands (begin P) well_begin E m)

  -- no bound: the whole selection
  pub pass_whole : (pass room struck cands P).bound ≡ None → (pass room struck cands P).sets ≡ X
  pass_whole h = pass_exact ∙ ap (λ (b : Option ℕ). those (λ E. not (late_by b E)) X) h ∙ every X
    where
      every : (l : List ℕ) → those (λ E. true) l ≡ l
      every l = all_pass (λ E. true) l (λ x m. refl)

  -- in any case: its first so many
  pub pass_prefix : (pass room struck cands P).sets ≡ take (length (pass room struck cands P).sets) X
  pass_prefix = pass_exact ∙ early_first end.bound X sel.sorted ∙ ap (λ (l : List ℕ). take (length l) X) (sym pass_exact)

  -- ---- with room for one more, what goes in goes behind what was kept
  module _ (more : length P < room) where
    -- the sets kept, and behind them some, where one went out
    record Grown (f : Filled) : Type 0 where
      later : List ℕ
      split : f.sets ≡ P ++ later
      some_later : (f.bound ≡ None) ⊎ (1 ≤ length later)

    grown_entered : (f : Filled) → Grown f → (E : ℕ) → Mem E cands → enters struck f E ≡ true → Grown (entered room f E)
    unfolding purged
    grown_entered f g E m e = record { later = take (room - length P) Q; split = split_is; some_later = inr (omega (arith, length-take (room - length P) Q, placed_some E (purged E g.later))) }
      where
        Q : List ℕ
        Q = placed E (purged E g.later)

        R : List ℕ
        R = drop (length P) X

        whole_is : P ++ R ≡ X
        whole_is = ap (λ (l : List ℕ). l ++ R) are ∙ take-append-drop (length P) X

        parts : (late_by f.bound E ≡ false) × (contains struck E ≡ false) × (contains f.sets E ≡ false)
        parts = enters_parts struck f E e

        below : (y : ℕ) × Mem y X × (within y E ≡ true)
        below = sel.inner E m (ap not parts.1)

        not_kept : Mem below.0 R
        not_kept =
            ⊎_elim (λ a. clash (contains_intro E (subst (λ (l : List ℕ). Mem below.0 l) (sym g.split) (Memᴰ.append_left g.later a)) below.2) parts.2) (λ a. a)
            (Memᴰ.append_cases P (subst (λ (l : List ℕ). Mem below.0 l) (sym whole_is) below.1))

        after : (x : ℕ) → Mem x P → before x E ≡ true
        after x a =
            let b : before x below.0 ≡ true = sorted_parts P R (subst (λ (l : List ℕ). sorted_by before l ≡ true) (sym whole_is) sel.sorted) x below.0 a not_kept in
            ⊎_elim (λ (q : below.0 ≡ E). subst (λ (v : ℕ). before x v ≡ true) q b) (λ c. before_trans x below.0 E b c) (within_before below.0 E below.2)

        stays : (x : ℕ) → Mem x P → not (within E x) ≡ true
        stays x a = ap not (not_so (within E x) (λ w.
            ⊎_elim (λ (q : E ≡ x). before_irrefl x (subst (λ (v : ℕ). before x v ≡ true) q (after x a))) (λ b. before_asym x E (after x a) b) (within_before E x w)))

        split_is : take room (placed E (purged E f.sets)) ≡ P ++ take (room - length P) Q
        split_is =
            let k : room ≡ length P + (room - length P) = omega arith in
            ap (λ (l : List ℕ). take room (placed E (purged E l))) g.split
            ∙ ap (λ (l : List ℕ). take room (placed E l)) (those_append (λ F. not (within E F)) P g.later stays)
            ∙ ap₂ (λ (n : ℕ) (l : List ℕ). take n l) k (placed_past E P (purged E g.later) after)
            ∙ take-append-add P Q (room - length P)

    grown_all : (l : List ℕ) (f : Filled) → ((E : ℕ) → Mem E l → Mem E cands) → Grown f → Grown (offered_all room struck f l)
    unfolding offered_all
    grown_all [] f h g = g
    grown_all (E ∷ l) f h g = grown_all l (offered room struck f E) (λ F m. h F (there m)) (go (enters struck f E) refl)
      where
        go : (b : Bool) → enters struck f E ≡ b → Grown (choose b (entered room f E) f)
        go true e = grown_entered f g E (h E (here refl)) e
        go false e = g

    pub pass_grows : (d : ℕ) → (pass room struck cands P).bound ≡ Some d → length P < length (pass room struck cands P).sets
    pass_grows d h =
        let g : Grown end = grown_all cands (begin P) (λ E m. m) (record { later = []; split = sym (append-nil P); some_later = inl refl }) in
        ⊎_elim (λ q. let z : ◌≡◌ {A = ℕ} 0 1 = cc (q, h) in absurd (omega arith)) (λ k. omega (arith, ap length g.split ∙ length-append P g.later)) g.some_later
