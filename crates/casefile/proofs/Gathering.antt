-- What is held of a file's items: each once, in the order of what is held, and nothing else. Assumes nothing.
use mathlib.Core.Bool.{true, false}
use mathlib.Core.List.Memᴰ.{head as here}
use mathlib.Core.List.Memᴰ.{tail as there}
use mathlib.Core.List.{List, Memᴰ as Mem, [], ◌∷◌}
use mathlib.Core.Logic.{◌⊎◌, inl, inr, ⊎_elim}
use mathlib.Core.Path.{◌∙◌, ◌≡◌, ap, ap₂, refl, subst, sym}
use Prim.Native.Nat.{ℕ, ◌+◌, ◌<◌, ◌≤◌, suc}
use native.Mathlib.Omega.{arith}
use lib.ListN.{length}
use Rattle.casefile.specs.Case.{gathered, joined}
use Rattle.items.proofs.Taken.{Faultless}
use Rattle.items.specs.Items.{Item}
use Rattle.rules.proofs.Laws.{canonical_fits, faultless_ranged, held_said, nothing_right, right_held, right_range}
use Rattle.holding.proofs.Laws.{put_right}
use Rattle.rules.proofs.Order.{same_mem}
use Rattle.holding.proofs.Putting.{put_cases, put_length, put_new, put_old}
use Rattle.rules.specs.Held.{entry_of, fitting, held_of, held_right, meaning, put, said_by}
use Rattle.rules.specs.Items.{justification_of, same_justification}
use Rattle.rules.specs.declared.Held.{Held}
use Rattle.theory.proofs.Lists.{either}
use Rattle.theory.specs.Limits.{limits}
use Rattle.theory.specs.Lists.{some_of}
use Rattle.theory.specs.Stages.{Justification}

-- the justification of an item, N being A + M
abbrev pub meant : ℕ → Item → Justification
meant N i = justification_of N i.consequent i.supports

-- ---- one more

module _ (j : Justification) (J : List Justification) where
  pub joined_held : some_of (same_justification j) J ≡ true → joined j J ≡ J
  unfolding joined
  joined_held t = rw t

  pub joined_new : some_of (same_justification j) J ≡ false → joined j J ≡ put j J
  unfolding joined
  joined_new t = rw t

  pub joined_length : length (joined j J) ≤ suc (length J)
  joined_length = ⊎_elim (λ t. omega (arith, ap length (joined_held t))) (λ t. omega (arith, ap length (joined_new t), put_length j J)) (either (some_of (same_justification j) J))

  pub joined_has : Mem j (joined j J)
  joined_has =
      ⊎_elim (λ t. subst (Mem j) (sym (joined_held t)) (same_mem j J t)) (λ t. subst (Mem j) (sym (joined_new t)) (put_new j J)) (either (some_of (same_justification j) J))

  pub joined_old : {x : Justification} → Mem x J → Mem x (joined j J)
  joined_old {x} m =
      ⊎_elim (λ t. subst (Mem x) (sym (joined_held t)) m) (λ t. subst (Mem x) (sym (joined_new t)) (put_old j m)) (either (some_of (same_justification j) J))

  pub joined_cases : {x : Justification} → Mem x (joined j J) → (x ≡ j) ⊎ Mem x J
  joined_cases {x} m =
      ⊎_elim (λ t. inr (subst (Mem x) (joined_held t) m)) (λ t. put_cases j J (subst (Mem x) (joined_new t) m)) (either (some_of (same_justification j) J))

pub with_held : (h : Held) (j : Justification) → held_right h ≡ true → some_of (same_justification j) (said_by h) ≡ true → h ≡ held_of h.assumptions h.claims (joined j (said_by h))
with_held h j r t = right_held h r ∙ ap (held_of h.assumptions h.claims) (sym (joined_held j (said_by h) t))

pub with_new : (h : Held) (j : Justification) → some_of (same_justification j) (said_by h) ≡ false
    → held_of h.assumptions h.claims (put j (said_by h)) ≡ held_of h.assumptions h.claims (joined j (said_by h))
with_new h j t = ap (held_of h.assumptions h.claims) (sym (joined_new j (said_by h) t))

-- ---- the right shape is kept

-- J as it is held has the right shape and says J
pub record Sure (A M : ℕ) (J : List Justification) : Type 0 where
  pub right : held_right (held_of A M J) ≡ true
  pub said : said_by (held_of A M J) ≡ J

pub sure_count : (A M : ℕ) (J : List Justification) → (held_of A M J).count ≡ length J
unfolding held_of
sure_count A M J = refl

pub sure_joined : (A M : ℕ) (J : List Justification) → Sure A M J → (m j : Justification) → m ≡ j
    → held_of (held_of A M J).assumptions (held_of A M J).claims (joined m (said_by (held_of A M J))) ≡ held_of A M (joined j J)
unfolding held_of
sure_joined A M J s m j e = ap₂ (λ (x : Justification) (l : List Justification). held_of A M (joined x l)) e s.said

pub sure_none : (A M : ℕ) → Sure A M []
sure_none A M = record { right = nothing_right A M; said = held_said A M [] (omega arith) (λ j m. elim m [ ]) }

module _ (A M : ℕ) (J : List Justification) (s : Sure A M J) (i : Item) (d : Faultless (A + M) i) where
  abbrev h : Held
  h = held_of A M J

  abbrev j : Justification
  j = meant (A + M) i

  pub meant_fits : fitting (h.assumptions + h.claims) (entry_of j) ≡ true
  unfolding held_of
  meant_fits = (canonical_fits (A + M) i.consequent i.supports d).0

  pub meant_said : meaning (entry_of j) ≡ j
  meant_said = (canonical_fits (A + M) i.consequent i.supports d).1

  put_sure : length J < limits.held → some_of (same_justification j) J ≡ false → Sure A M (put j J)
  unfolding held_of
  put_sure few t =
      let room : h.count < limits.held = omega (arith, sure_count A M J) in
      let new : some_of (same_justification (meaning (entry_of j))) (said_by h) ≡ false = rw (meant_said, s.said, t) in
      let e : put (meaning (entry_of j)) (said_by h) ≡ put j J = rw (meant_said, s.said) in
      let right : held_right (held_of A M (put j J)) ≡ true = subst (λ (l : List Justification). held_right (held_of A M l) ≡ true) e (put_right h (entry_of j) s.right room meant_fits new) in
      record {
        right = right;
        said = held_said A M (put j J) (omega (arith, put_length j J))
            (λ x m. ⊎_elim (λ (q : x ≡ j). subst (λ (y : Justification). length y.supports ≤ limits.supports) (sym q) small) (λ n. (right_range h s.right x (subst (Mem x) (sym s.said) n)).few) (put_cases j J m));
      }
    where
      small : length j.supports ≤ limits.supports
      small = (faultless_ranged (A + M) i.consequent i.supports d).few

  pub joined_sure : length J < limits.held → Sure A M (joined j J)
  joined_sure few =
      ⊎_elim (λ t. subst (Sure A M) (sym (joined_held j J t)) s) (λ t. subst (Sure A M) (sym (joined_new j J t)) (put_sure few t)) (either (some_of (same_justification j) J))

-- ---- all the items

pub gathered_sure : (A M : ℕ) (J : List Justification) (l : List Item) → Sure A M J → ((i : Item) → Mem i l → Faultless (A + M) i) → length J + length l ≤ limits.held → Sure A M (gathered (A + M) J l)
unfolding gathered
gathered_sure A M J [] s f h = s
gathered_sure A M J (i ∷ l) s f h =
    gathered_sure A M (joined (meant (A + M) i) J) l (joined_sure A M J s i (f i (here refl)) (omega arith)) (λ x m. f x (there m)) (omega (arith, joined_length (meant (A + M) i) J))

module _ (N : ℕ) where
  pub gathered_old : (J : List Justification) (l : List Item) {x : Justification} → Mem x J → Mem x (gathered N J l)
  unfolding gathered
  gathered_old J [] m = m
  gathered_old J (i ∷ l) m = gathered_old (joined (meant N i) J) l (joined_old (meant N i) J m)

  -- each item's justification is held
  pub gathered_has : {i : Item} {l : List Item} (J : List Justification) → Mem i l → Mem (meant N i) (gathered N J l)
  unfolding gathered
  gathered_has {i = i} J (here {x = y} {xs = l} e) = gathered_old (joined (meant N y) J) l (subst (λ (x : Item). Mem (meant N x) (joined (meant N y) J)) (sym e) (joined_has (meant N y) J))
  gathered_has J (there {x = y} m) = gathered_has (joined (meant N y) J) m

  -- nothing else is
  pub gathered_cases : (J : List Justification) (l : List Item) {x : Justification} → Mem x (gathered N J l) → Mem x J ⊎ ((i : Item) × Mem i l × (x ≡ meant N i))
  unfolding gathered
  gathered_cases J [] m = inl m
  gathered_cases J (i ∷ l) m =
      ⊎_elim (λ n. ⊎_elim (λ e. inr (i, here refl, e)) inl (joined_cases (meant N i) J n)) (λ r. inr (r.0, there r.1, r.2)) (gathered_cases (joined (meant N i) J) l m)
