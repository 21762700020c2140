-- The folds of `specs/Season.antt` up to a place: one turn of the loop, and its end. Assumes nothing.
use mathlib.Core.Bool.{false, true}
use mathlib.Core.List.{List, [], ◌∷◌, ◌++◌}
use mathlib.Core.Path.{◌≡◌, ◌∙◌, refl, ap, ap₂, sym}
use Prim.Native.Nat.{ℕ, zero, suc, ◌+◌, ◌<◌, ◌≤◌}
use native.Mathlib.Numerals.{add-one}
use native.Mathlib.Omega.{arith}
use native.Mathlib.Nat.{not-suc-le-zero, le_of_suc-le-suc}
use lib.ListN.{drop, length, set, take}
use borrow.Author.Tests.{le-ltb, lt-ltb}
use Rattle.replies.specs.Replies.{number_of}
use Rattle.replies.specs.declared.Reply.TheVariants.{Done, Shape, Short, Supports}
use Rattle.rules.specs.Items.{fault_of}
use Rattle.season.specs.Season.{added_all, add_all_of, bytes_after, give_of, replies_of}
use Rattle.handed.proofs.Supplied.{item_at}
use Rattle.handed.specs.Supplied.{supplied_by}
use Rattle.handed.specs.declared.Handed.{Handed}
use Rattle.store.proofs.Judging.{add_fault}
use Rattle.store.proofs.Keeping.{add_right}
use Rattle.store.specs.Calls.{add_of, answer}
use Rattle.store.specs.Shape.{right_shape}
use Rattle.store.specs.declared.Outcome.{Outcome}
use Rattle.store.specs.declared.Store.{Store}
use Rattle.theory.specs.Limits.{limits}

-- i items are done
pub store_turn : (i : ℕ) (s : Store) (l : List Handed) → i < length l → added_all s (take (suc i) l) ≡ (give_of (added_all s (take i l)) (item_at l i)).store
unfolding added_all
store_turn i s [] h = absurd (not-suc-le-zero h)
store_turn zero s (r ∷ l) h = refl
store_turn (suc i) s (r ∷ l) h = store_turn i (give_of s r).store l (le_of_suc-le-suc h)

pub bytes_turn : (i : ℕ) (s : Store) (l : List Handed) (zs : List ℕ) → i < length l → i < length zs
    → set (replies_of s (take i l) ++ drop i zs) i (number_of (give_of (added_all s (take i l)) (item_at l i)).reply) ≡ replies_of s (take (suc i) l) ++ drop (suc i) zs
unfolding added_all replies_of
bytes_turn i s [] zs h k = absurd (not-suc-le-zero h)
bytes_turn i s (r ∷ l) [] h k = absurd (not-suc-le-zero k)
bytes_turn zero s (r ∷ l) (z ∷ zs) h k = refl
bytes_turn (suc i) s (r ∷ l) (z ∷ zs) h k = ap (λ (y : List ℕ). number_of (give_of s r).reply ∷ y) (bytes_turn i (give_of s r).store l zs (le_of_suc-le-suc h) (le_of_suc-le-suc k))

-- .. and one turn more
pub store_next : (i : ℕ) (s₀ : Store) (l : List Handed) (s : Store) (a : Outcome) → i < length l → a ≡ give_of s (item_at l i) → s ≡ added_all s₀ (take i l) → a.store ≡ added_all s₀ (take (i + 1) l)
store_next i s₀ l s a h e p =
    ap (λ (x : Outcome). x.store) e ∙ ap (λ (x : Store). (give_of x (item_at l i)).store) p ∙ sym (store_turn i s₀ l h) ∙ ap (λ (k : ℕ). added_all s₀ (take k l)) (sym (add-one i))

pub bytes_next : (i : ℕ) (s₀ : Store) (l : List Handed) (zs₀ : List ℕ) (s : Store) (zs : List ℕ) (a : Outcome) (n : ℕ) → i < length l → i < length zs₀ → a ≡ give_of s (item_at l i) → n ≡ number_of a.reply → s ≡ added_all s₀ (take i l)
    → zs ≡ replies_of s₀ (take i l) ++ drop i zs₀ → set zs i n ≡ replies_of s₀ (take (i + 1) l) ++ drop (i + 1) zs₀
bytes_next i s₀ l zs₀ s zs a n h k e q p z =
    ap₂ (λ (y : List ℕ) (r : ℕ). set y i r) z (q ∙ ap (λ (x : Outcome). number_of x.reply) e ∙ ap (λ (x : Store). number_of (give_of x (item_at l i)).reply) p)
    ∙ bytes_turn i s₀ l zs₀ h k ∙ ap (λ (k : ℕ). replies_of s₀ (take k l) ++ drop k zs₀) (sym (add-one i))

pub store_none : (s : Store) (l : List Handed) → s ≡ added_all s (take 0 l)
unfolding added_all
store_none s [] = refl
store_none s (r ∷ l) = refl

pub bytes_none : (s : Store) (l : List Handed) (zs : List ℕ) → zs ≡ replies_of s (take 0 l) ++ drop 0 zs
unfolding replies_of
bytes_none s [] zs = refl
bytes_none s (r ∷ l) zs = refl

-- the shape is kept
pub all_right : (s : Store) (l : List Handed) → right_shape s ≡ true → right_shape (added_all s l) ≡ true
unfolding added_all
all_right s [] t = t
all_right s (h ∷ l) t = all_right (give_of s h).store l (add_right s t h.consequent (supplied_by h))

-- ---- what is handed over

pub supplied_five : (h : Handed) → limits.supports < h.count → 0 ∷ 0 ∷ 0 ∷ 0 ∷ 0 ∷ [] ≡ supplied_by h
unfolding supplied_by
supplied_five h p = rw (lt-ltb limits.supports h.count p)

-- more than the limit: 6, whatever they are
pub give_many : (s : Store) (h : Handed) → right_shape s ≡ true → limits.supports < h.count → answer Supports s ≡ give_of s h
unfolding fault_of
give_many s h t p = add_fault s h.consequent (0 ∷ 0 ∷ 0 ∷ 0 ∷ 0 ∷ []) t (λ (z : ◌≡◌ {A = ℕ} 6 0). omega arith) ∙ ap (add_of s h.consequent) (supplied_five h p)

-- ---- the store and the bytes where all the turns are done

module _ (s : Store) (l : List Handed) (zs : List ℕ) where
  pub all_shape : right_shape s ≡ false → (answer Shape s ≡ add_all_of s l zs) × (zs ≡ bytes_after s l zs)
  unfolding add_all_of bytes_after
  all_shape t = (rw t, rw t)

  pub all_short : right_shape s ≡ true → length zs < length l → (answer Short s ≡ add_all_of s l zs) × (zs ≡ bytes_after s l zs)
  unfolding add_all_of bytes_after
  all_short t p = (rw (t, lt-ltb (length zs) (length l) p), rw (t, lt-ltb (length zs) (length l) p))

  pub all_done : right_shape s ≡ true → length l ≤ length zs → (answer Done (added_all s l) ≡ add_all_of s l zs) × (replies_of s l ++ drop (length l) zs ≡ bytes_after s l zs)
  unfolding add_all_of bytes_after
  all_done t p = (rw (t, le-ltb (length zs) (length l) p), rw (t, le-ltb (length zs) (length l) p))
