-- A set put among a list in listing order: its members, its order, its beginning. Assumes nothing.
use mathlib.Core.Bool.{Bool, false, true}
use mathlib.Core.List.Memᴰ
use mathlib.Core.List.Memᴰ.{head as here}
use mathlib.Core.List.Memᴰ.{tail as there}
use mathlib.Core.List.{List, Memᴰ as Mem, [], ◌++◌, ◌∷◌, append-nil}
use mathlib.Core.Logic.{◌⊎◌, inl, inr, ⊎_elim}
use mathlib.Core.Path.{◌∙◌, ◌≡◌, ap, refl, subst, sym}
use Prim.Native.Nat.{◌<◌, suc, zero, ℕ}
use native.Mathlib.Omega.{arith}
use lib.ListN.{get_or, length, take}
use lib.Seq.{take_all, take-suc}
use Rattle.joining.specs.Pool.{placed}
use Rattle.members.proofs.First.{at_mem}
use Rattle.theory.proofs.Lists.{not_so}
use Rattle.theory.proofs.Order.{before_asym, before_irrefl, before_trans, sorted_cons, sorted_head, sorted_tail}
use Rattle.theory.proofs.Select.{before_total}
use Rattle.theory.specs.Lists.{all_of, choose, sorted_by}
use Rattle.theory.specs.Sets.{before}

-- ---- the members of a list with one set placed
choose_of : (b : Bool) (x y : ℕ) → (choose b x y ≡ x) ⊎ (choose b x y ≡ y)
choose_of true x y = inl refl
choose_of false x y = inr refl

pub placed_elim : (E : ℕ) (l : List ℕ) {y : ℕ} → Mem y (placed E l) → (y ≡ E) ⊎ Mem y l
unfolding placed
placed_elim E [] m = inl (Memᴰ.eq_of_singleton m)
placed_elim E (x ∷ l) {y} m =
    ⊎_elim (λ (q : y ≡ choose (before E x) E x). ⊎_elim (λ p. inl (q ∙ p)) (λ p. inr (here (q ∙ p))) (choose_of (before E x) E x))
    (λ n. ⊎_elim (λ (q : y ≡ choose (before E x) x E). ⊎_elim (λ p. inr (here (q ∙ p))) (λ p. inl (q ∙ p)) (choose_of (before E x) x E)) (λ o. inr (there o)) (placed_elim (choose (before E x) x E) l n))
    (Memᴰ.cases_cons m)

mutual_both : (b : Bool) (E x : ℕ) (l : List ℕ) → Mem (choose b x E) (placed (choose b x E) l) → Mem E (choose b E x ∷ placed (choose b x E) l) × Mem x (choose b E x ∷ placed (choose b x E) l)
mutual_both true E x l m = (here refl, there m)
mutual_both false E x l m = (there m, here refl)

pub placed_this : (E : ℕ) (l : List ℕ) → Mem E (placed E l)
unfolding placed
placed_this E [] = here refl
placed_this E (x ∷ l) = (mutual_both (before E x) E x l (placed_this (choose (before E x) x E) l)).0

pub placed_other : (E : ℕ) (l : List ℕ) {y : ℕ} → Mem y l → Mem y (placed E l)
unfolding placed
placed_other E [] m = elim m [ ]
placed_other E (x ∷ l) {y} m =
    ⊎_elim (λ (q : y ≡ x). subst (λ (v : ℕ). Mem v (choose (before E x) E x ∷ placed (choose (before E x) x E) l)) (sym q) (mutual_both (before E x) E x l (placed_this (choose (before E x) x E) l)).1)
    (λ n. there (placed_other (choose (before E x) x E) l n)) (Memᴰ.cases_cons m)

pub placed_sorted : (E : ℕ) (l : List ℕ) → sorted_by before l ≡ true → ((F : ℕ) → Mem F l → F ≡ E → ⊥) → sorted_by before (placed E l) ≡ true
unfolding placed sorted_by all_of
placed_sorted E [] s f = refl
placed_sorted E (x ∷ l) s f = go (before E x) refl (placed_sorted (choose (before E x) x E) l (sorted_tail before x l s))
  where
    after : (y : ℕ) → Mem y l → before x y ≡ true
    after y m = sorted_head before x s y m

    go : (b : Bool) → before E x ≡ b → (((F : ℕ) → Mem F l → F ≡ choose b x E → ⊥) → sorted_by before (placed (choose b x E) l) ≡ true) → sorted_by before (choose b E x ∷ placed (choose b x E) l) ≡ true
    go true e ih =
        sorted_cons before E
        (λ y m. ⊎_elim (λ (q : y ≡ x). subst (λ (v : ℕ). before E v ≡ true) (sym q) e) (λ n. before_trans E x y e (after y n)) (placed_elim x l m))
        (ih (λ F m q. before_irrefl x (subst (λ (v : ℕ). before x v ≡ true) q (after F m))))
    go false e ih =
        let first : before x E ≡ true = ⊎_elim (λ (q : E ≡ x). absurd (f x (here refl) (sym q))) (λ b. b) (before_total E x e) in
        sorted_cons before x
        (λ y m. ⊎_elim (λ (q : y ≡ E). subst (λ (v : ℕ). before x v ≡ true) (sym q) first) (after y) (placed_elim E l m))
        (ih (λ F m q. f F (there m) q))

-- ---- a part of a sorted list
pub mem_take : (n : ℕ) (l : List ℕ) {x : ℕ} → Mem x (take n l) → Mem x l
mem_take zero l m = elim m [ ]
mem_take (suc n) [] m = elim m [ ]
mem_take (suc n) (y ∷ l) {x} m = ⊎_elim (λ (q : x ≡ y). here q) (λ o. there (mem_take n l o)) (Memᴰ.cases_cons m)

pub sorted_take : (n : ℕ) (l : List ℕ) → sorted_by before l ≡ true → sorted_by before (take n l) ≡ true
unfolding sorted_by
sorted_take zero l s = refl
sorted_take (suc n) [] s = refl
sorted_take (suc n) (y ∷ l) s = sorted_cons before y {l = take n l} (λ z m. sorted_head before y s z (mem_take n l m)) (sorted_take n l (sorted_tail before y l s))

-- ---- by place
-- a member of a sorted list is among the first n, or does not stand before the one at place n
pub cut : (n : ℕ) (l : List ℕ) → sorted_by before l ≡ true → {x : ℕ} → Mem x l → Mem x (take n l) ⊎ ((n < length l) × (before x (get_or l n 0) ≡ false))
cut n [] s m = elim m [ ]
cut zero (y ∷ l) s {x} m = inr (
  omega arith,
  ⊎_elim (λ (q : x ≡ y). not_so (before x y) (λ b. before_irrefl y (subst (λ (v : ℕ). before v y ≡ true) q b)))
      (λ n. not_so (before x y) (λ b. before_asym x y b (sorted_head before y s x n))) (Memᴰ.cases_cons m),
)
cut (suc n) (y ∷ l) s {x} m =
    ⊎_elim (λ (q : x ≡ y). inl (here q))
    (λ o. ⊎_elim (λ i. inl (there i)) (λ i. inr (omega (arith, i.0), i.1)) (cut n l (sorted_tail before y l s) o)) (Memᴰ.cases_cons m)

-- the first n stand before the one at place n
pub first_before : (n : ℕ) (l : List ℕ) → sorted_by before l ≡ true → n < length l → {x : ℕ} → Mem x (take n l) → before x (get_or l n 0) ≡ true
first_before n [] s h m = absurd (omega arith)
first_before zero (y ∷ l) s h m = elim m [ ]
first_before (suc n) (y ∷ l) s h {x} m =
    ⊎_elim (λ (q : x ≡ y). subst (λ (v : ℕ). before v (get_or l n 0) ≡ true) (sym q) (sorted_head before y s (get_or l n 0) (at_mem l n (omega arith))))
    (λ o. first_before n l (sorted_tail before y l s) (omega arith) o) (Memᴰ.cases_cons m)

-- ---- a set that stands behind the others
pub placed_past : (E : ℕ) (P Q : List ℕ) → ((x : ℕ) → Mem x P → before x E ≡ true) → placed E (P ++ Q) ≡ P ++ placed E Q
unfolding placed
placed_past E [] Q h = refl
placed_past E (x ∷ P) Q h =
    ap (λ (b : Bool). choose b E x ∷ placed (choose b x E) (P ++ Q)) (not_so (before E x) (λ b. before_asym x E (h x (here refl)) b))
    ∙ ap (λ (l : List ℕ). x ∷ l) (placed_past E P Q (λ y m. h y (there m)))

pub placed_last : (E : ℕ) (l : List ℕ) (m : ℕ) → length l ≡ suc m → sorted_by before l ≡ true → before (get_or l m 0) E ≡ true → l ++ E ∷ [] ≡ placed E l
unfolding placed
placed_last E l m long s b =
    sym (ap (placed E) (sym (append-nil l)) ∙ placed_past E l [] (λ x o.
    ⊎_elim (λ a. before_trans x (get_or l m 0) E (first_before m l s (omega arith) a) b)
    (λ a. subst (λ (v : ℕ). before v E ≡ true) (sym (Memᴰ.eq_of_singleton a)) b)
    (Memᴰ.append_cases (take m l) (subst (Mem x) (sym (take_all (suc m) l (omega arith)) ∙ take-suc l m 0 (omega arith)) o))))
