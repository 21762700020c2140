-- Reasons: a set within which each join contains a refused set. Assumes nothing.
use mathlib.Core.Bool.{true}
use mathlib.Core.List.Memᴰ
use mathlib.Core.List.Memᴰ.{head as here}
use mathlib.Core.List.{List, Memᴰ as Mem, [], ◌++◌, ◌∷◌}
use mathlib.Core.Logic.{⊎_elim}
use mathlib.Core.Path.{◌≡◌, refl, subst, sym}
use Prim.Native.Nat.{ℕ}
use Rattle.theory.proofs.Lists.{each_elim, each_intro}
use Rattle.theory.proofs.Sets.{within_join, within_left, within_right, within_trans}
use Rattle.theory.proofs.Step.{joins_from}
use Rattle.theory.specs.Sets.{union, within}
use Rattle.theory.specs.Step.{joins}
use Rattle.sets.proofs.Meets.{meet_both, meet_joined}
use Rattle.sets.specs.Promised.{meet}
use Rattle.joining.proofs.Refusals.{offered_skip, refused_more, refused_stays}
use Rattle.joining.specs.Pool.{Filled, Reason, Refused, Well, offered_all}

-- ---- joins from another set that holds the same part of K
abbrev pub Under : ℕ → ℕ → ℕ → Type 0
Under K G₁ G₂ = within (meet G₁ K) G₂ ≡ true

under_union : (K G₁ G₂ F : ℕ) → Under K G₁ G₂ → Under K (union G₁ F) (union G₂ F)
under_union K G₁ G₂ F u =
    within_trans (meet (union G₁ F) K) (union (meet G₁ K) F) (union G₂ F) (meet_joined G₁ F K)
    (within_join (meet G₁ K) F (union G₂ F) (within_trans (meet G₁ K) G₂ (union G₂ F) u (within_left G₂ F)) (within_right G₂ F))

pub joins_beside : (L : ℕ → List ℕ) (K : ℕ) (ss : List ℕ) (G₁ G₂ : ℕ) → Under K G₁ G₂ → (H : ℕ) → Mem H (joins L G₂ ss) → (H₁ : ℕ) × Mem H₁ (joins L G₁ ss) × Under K H₁ H
unfolding joins
joins_beside L K [] G₁ G₂ u H m = (G₁, here refl, subst (λ (v : ℕ). Under K G₁ v) (sym (Memᴰ.eq_of_singleton m)) u)
joins_beside L K (s ∷ ss) G₁ G₂ u H m =
    let e = each_elim (λ F. joins L (union G₂ F) ss) (L s) m in
    let r = joins_beside L K ss (union G₁ e.0) (union G₂ e.0) (under_union K G₁ G₂ e.0 u) H e.2 in
    (r.0, each_intro (λ F. joins L (union G₁ F) ss) e.1 r.1, r.2)

module _ (struck : List ℕ) (f : Filled) where
  -- ---- the same refused sets
  pub spent_more : (L : ℕ → List ℕ) (ss : List ℕ) (g w G : ℕ) → Reason struck f (joins L g ss) w → within (meet g w) G ≡ true → Reason struck f (joins L G ss) w
  spent_more L ss g w G r p H m =
      let b = joins_beside L w ss g G p H m in
      let i = r b.0 b.1 in
      (i.0, i.1, within_trans i.0 (meet b.0 w) H (meet_both i.0 b.0 w i.2 i.3) b.2, i.3)

  -- ---- a wider reason, more sets, a later pool
  pub reason_wider : (l : List ℕ) (w v : ℕ) → Reason struck f l w → within w v ≡ true → Reason struck f l v
  reason_wider l w v r p H m = let i = r H m in (i.0, i.1, i.2, within_trans i.0 w v i.3 p)

  pub reason_append : (l m : List ℕ) (w : ℕ) → Reason struck f l w → Reason struck f m w → Reason struck f (l ++ m) w
  reason_append l m w r s H o = ⊎_elim (λ a. r H a) (λ a. s H a) (Memᴰ.append_cases l o)

  pub reason_stays : (room : ℕ) (l m : List ℕ) (w : ℕ) → Well f → Reason struck f l w → Reason struck (offered_all room struck f m) l w
  reason_stays room l m w ok r H o = let i = r H o in (i.0, refused_stays room struck m f ok i.0 i.1, i.2, i.3)

  -- all that have a reason are refused
  pub reason_refused : (l : List ℕ) (w : ℕ) → Reason struck f l w → (H : ℕ) → Mem H l → Refused struck f H
  reason_refused l w r H m = let i = r H m in refused_more struck f i.0 H i.2 i.1

  pub reason_skip : (room : ℕ) (l : List ℕ) (w : ℕ) → Reason struck f l w → offered_all room struck f l ≡ f
  reason_skip room l w r = offered_skip room struck l f (reason_refused l w r)

  -- a refused set within what is joined is a reason for all joins
  pub reason_below : (L : ℕ → List ℕ) (ss : List ℕ) (G t : ℕ) → Refused struck f t → within t G ≡ true → (w : ℕ) → within t w ≡ true → Reason struck f (joins L G ss) w
  reason_below L ss G t r p w q H m = (t, r, within_trans t G H p (joins_from L ss G m), q)
