-- What a pool may hold, and that a pool with room for all holds the selection of what was offered. Assumes nothing.
use mathlib.Core.Bool.{Bool, ◌&&◌, false, not, true}
use mathlib.Core.List.Memᴰ
use mathlib.Core.List.Memᴰ.{head as here}
use mathlib.Core.List.{List, Memᴰ as Mem, [], ◌++◌, ◌∷◌, append_assoc, append-nil}
use mathlib.Core.Logic.{⊎_elim}
use mathlib.Core.Path.{◌∙◌, ◌≡◌, ap, refl, subst, sym}
use Prim.Native.Nat.{ℕ}
use lib.ListN.{take}
use borrow.Author.Tests.{not-true}
use Rattle.joining.proofs.Placed.{mem_take, placed_elim, placed_other, placed_sorted, placed_this, sorted_take}
use Rattle.joining.specs.Pool.{placed, purged}
use Rattle.theory.proofs.Label.{contains_elim, contains_intro}
use Rattle.theory.proofs.Lists.{and_intro, and_left, and_right, clash, either, those_elim, those_intro}
use Rattle.theory.proofs.Order.{sorted_those}
use Rattle.theory.proofs.Select.{Selection}
use Rattle.theory.proofs.Sets.{within_refl, within_trans}
use Rattle.theory.proofs.Step.{Inside}
use Rattle.theory.specs.Lists.{choose, sorted_by}
use Rattle.theory.specs.Sets.{before, contains, within}
use Rattle.theory.specs.Step.{free}

-- ---- what a pool may hold: clean sets among those seen, in listing order, none within another
module _ (struck seen : List ℕ) where
  pub record Sound (l : List ℕ) : Type 0 where
    pub sorted : sorted_by before l ≡ true
    pub apart : (F E : ℕ) → Mem F l → Mem E l → within F E ≡ true → F ≡ E
    pub from : (E : ℕ) → Mem E l → Mem E seen × (not (contains struck E) ≡ true)

  pub sound_none : Sound []
  unfolding sorted_by
  sound_none = record { sorted = refl; apart = λ F E a b w. elim a [ ]; from = λ E a. elim a [ ] }

  pub sound_take : (n : ℕ) (l : List ℕ) → Sound l → Sound (take n l)
  sound_take n l s = record {
    sorted = sorted_take n l s.sorted;
    apart = λ F E a b w. s.apart F E (mem_take n l a) (mem_take n l b) w;
    from = λ E a. s.from E (mem_take n l a);
  }

  module _ (l : List ℕ) (s : Sound l) (E : ℕ) (o : Mem E seen) (c : not (contains struck E) ≡ true) (n : contains l E ≡ false) where
    kept : (F : ℕ) → Mem F (purged E l) → Mem F l × (within E F ≡ false)
    unfolding purged
    kept F m = let w = those_elim (λ F. not (within E F)) l m in (w.0, not-true (within E F) w.1)

    pub sound_in : Sound (placed E (purged E l))
    unfolding purged
    sound_in = record {
      sorted = placed_sorted E (purged E l) (sorted_those before (λ F. not (within E F)) l s.sorted) (λ F m q. clash (subst (λ (v : ℕ). within E v ≡ true) (sym q) (within_refl E)) (kept F m).1);
      apart = λ F G m o w. ⊎_elim (λ (p : F ≡ E). ⊎_elim (λ (q : G ≡ E). p ∙ sym q) (λ b. clash (subst (λ (v : ℕ). within v G ≡ true) p w) (kept G b).1) (placed_elim E (purged E l) o))
          (λ a. ⊎_elim (λ (q : G ≡ E). clash (contains_intro E (kept F a).0 (subst (λ (v : ℕ). within F v ≡ true) q w)) n) (λ b. s.apart F G (kept F a).0 (kept G b).0 w) (placed_elim E (purged E l) o))
          (placed_elim E (purged E l) m);
      from = λ F m. ⊎_elim (λ (q : F ≡ E). (subst (λ (v : ℕ). Mem v seen) (sym q) o, subst (λ (v : ℕ). not (contains struck v) ≡ true) (sym q) c)) (λ a. s.from F (kept F a).0) (placed_elim E (purged E l) m);
    }

-- ---- one set offered, where there is room

-- E goes in where it contains no set struck and none of the pool, and those that contain it go out
abbrev pub admitted : List ℕ → List ℕ → ℕ → List ℕ
admitted struck l E = choose (free struck l E) (placed E (purged E l)) l

unfoldable pub admitted_all : List ℕ → List ℕ → List ℕ → List ℕ
admitted_all struck l [] = l
admitted_all struck l (E ∷ m) = admitted_all struck (admitted struck l E) m

module _ (struck l seen : List ℕ) where
  abbrev clean : ℕ → Bool
  clean E = not (contains struck E)

  module _ (s : Selection l seen clean) (E : ℕ) where
    goes_in : clean E ≡ true → contains l E ≡ false → Selection (placed E (purged E l)) (seen ++ E ∷ []) clean
    unfolding purged
    goes_in c n = record {
      sorted = sound.sorted;
      apart = sound.apart;
      from = sound.from;
      inner = λ H m c'. ⊎_elim
          (λ o. let i = s.inner H o c' in
          ⊎_elim (λ w. this H (within_trans E i.0 H w i.2)) (λ w. (i.0, placed_other E (purged E l) (those_intro (λ F. not (within E F)) i.1 (ap not w)), i.2)) (either (within E i.0)))
          (λ o. let q : H ≡ E = Memᴰ.eq_of_singleton o in this H (subst (λ (v : ℕ). within E v ≡ true) (sym q) (within_refl E)))
          (Memᴰ.append_cases seen m);
    }
      where
        sound : Sound struck (seen ++ E ∷ []) (placed E (purged E l))
        sound = sound_in struck (seen ++ E ∷ []) l
            (record { sorted = s.sorted; apart = s.apart; from = λ F m. let w = s.from F m in (Memᴰ.append_left (E ∷ []) w.0, w.1) })
            E (Memᴰ.append_right seen (here refl)) c n

        this : (H : ℕ) → within E H ≡ true → Inside (placed E (purged E l)) H
        this H w = (E, placed_this E (purged E l), w)

    stays_out : free struck l E ≡ false → Selection l (seen ++ E ∷ []) clean
    unfolding free
    stays_out f = record {
      sorted = s.sorted;
      apart = s.apart;
      from = λ F m. let w = s.from F m in (Memᴰ.append_left (E ∷ []) w.0, w.1);
      inner = λ H m c. ⊎_elim (λ o. s.inner H o c)
          (λ o. let q : H ≡ E = Memᴰ.eq_of_singleton o in
          ⊎_elim (λ k. subst (Inside l) (sym q) (contains_elim l E k))
          (λ k. let y : not (contains struck E) ≡ true = subst (λ (v : ℕ). clean v ≡ true) q c in
          let z : not (contains struck E) && not (contains l E) ≡ true = and_intro y (ap not k) in clash z f)
          (either (contains l E)))
          (Memᴰ.append_cases seen m);
    }

    admit_one : Selection (admitted struck l E) (seen ++ E ∷ []) clean
    unfolding free
    admit_one = go (free struck l E) refl
      where
        go : (b : Bool) → free struck l E ≡ b → Selection (choose b (placed E (purged E l)) l) (seen ++ E ∷ []) clean
        go true e = let a : Bool = not (contains struck E) in let b : Bool = not (contains l E) in goes_in (and_left a b e) (not-true (contains l E) (and_right a b e))
        go false e = stays_out e

-- ---- all of a list offered
admit_all : (struck m l seen : List ℕ) → Selection l seen (λ E. not (contains struck E)) → Selection (admitted_all struck l m) (seen ++ m) (λ E. not (contains struck E))
unfolding admitted_all
admit_all struck [] l seen s = subst (λ (v : List ℕ). Selection l v (λ E. not (contains struck E))) (sym (append-nil seen)) s
admit_all struck (E ∷ m) l seen s =
    subst (λ (v : List ℕ). Selection (admitted_all struck (admitted struck l E) m) v (λ E. not (contains struck E))) (append_assoc seen (E ∷ []) m)
    (admit_all struck m (admitted struck l E) (seen ++ E ∷ []) (admit_one struck l seen s E))

-- from what a pool may hold on: the selection of all that was offered
pub pass_selects : (struck cands P : List ℕ) → Sound struck cands P → Selection (admitted_all struck P cands) cands (λ E. not (contains struck E))
pass_selects struck cands P s = record {
  sorted = both.sorted;
  apart = both.apart;
  from = λ E m. let w = both.from E m in (⊎_elim (λ o. (s.from E o).0) (λ o. o) (Memᴰ.append_cases P w.0), w.1);
  inner = λ H m c. both.inner H (Memᴰ.append_right P m) c;
}
  where
    own : Selection P P (λ E. not (contains struck E))
    own = record { sorted = s.sorted; apart = s.apart; from = λ E m. (m, (s.from E m).1); inner = λ H m c. (H, m, within_refl H) }

    both : Selection (admitted_all struck P cands) (P ++ cands) (λ E. not (contains struck E))
    both = admit_all struck cands P P own
