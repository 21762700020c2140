-- The walk over the candidates, list after list, where a list may be passed over whose sets are all refused already. Assumes nothing.
use Rattle.std.proofs.Common.{◌≡◌, ℕ, ◌+◌, ◌<◌, true, List, [], ◌∷◌, ◌++◌, drop, get_or, length, refl, sym, ap, ◌∙◌, subst, add-one}
use mathlib.Core.List.{Memᴰ as Mem}
use mathlib.Core.List.Memᴰ
use lib.Seq.{drop-cons}
use Rattle.joining.proofs.Gathers.{joins_alone}
use Rattle.joining.proofs.Refusals.{by_late, late_up, offered_append, offered_skip, refused_stays}
use Rattle.joining.specs.Pool.{Filled, Offered, Refused, Well, late_by, offered_all}
use Rattle.labels.specs.Moved.{Hushed}
use Rattle.theory.proofs.Sets.{within_zero}
use Rattle.theory.specs.Limits.{limits}
use Rattle.theory.specs.Stages.{Justification}
use Rattle.theory.specs.Step.{joins}

module _ (struck : List ℕ) where
  pub as_offered : (m n : List ℕ) (f f' : Filled) → n ≡ m → Offered struck m f f' → Offered struck n f f'
  as_offered m n f f' e o = subst (λ (l : List ℕ). Offered struck l f f') (sym e) o

  -- what is refused changes nothing
  pub skip_offered : (l : List ℕ) (f : Filled) → ((H : ℕ) → Mem H l → Refused struck f H) → Offered struck l f f
  skip_offered l f h = sym (offered_skip (limits.nogoods + 1) struck l f h)

  pub none_offered : (l : List ℕ) (f : Filled) → l ≡ [] → Offered struck l f f
  none_offered l f e = as_offered [] l f f e (skip_offered [] f (λ H m. elim m [ ]))

  -- a set that is late
  pub late_offered : (E : ℕ) (f : Filled) → late_by f.bound E ≡ true → Offered struck (E ∷ []) f f
  late_offered E f t = skip_offered (E ∷ []) f (λ H m. subst (Refused struck f) (sym (Memᴰ.eq_of_singleton m)) (by_late struck f E t))

  -- a set alone
  pub alone_offered : (L : ℕ → List ℕ) (E : ℕ) (f f' : Filled) → Offered struck (joins L E []) f f' → Offered struck (E ∷ []) f f'
  alone_offered L E f f' o = as_offered (joins L E []) (E ∷ []) f f' (sym (joins_alone L [] E refl)) o

  -- all sets are late where the empty set is
  pub all_late : (l : List ℕ) (f : Filled) → late_by f.bound 0 ≡ true → Offered struck l f f
  all_late l f t = skip_offered l f (λ H m. by_late struck f H (late_up f.bound 0 H (within_zero H) t))

  -- ---- what is left to offer
  module _ (all : List ℕ) (start : Filled) where
    -- all offered from the start is what is left offered from here
    abbrev pub Left : List ℕ → Filled → Type 0
    Left m f = offered_all (limits.nogoods + 1) struck start all ≡ offered_all (limits.nogoods + 1) struck f m

    pub left_turn : (m n p : List ℕ) (f f' : Filled) → Left m f → m ≡ n ++ p → Offered struck n f f' → Left p f'
    left_turn m n p f f' inv e o =
        inv ∙ ap (offered_all (limits.nogoods + 1) struck f) e ∙ offered_append (limits.nogoods + 1) struck n p f ∙ ap (λ (x : Filled). offered_all (limits.nogoods + 1) struck x p) (sym o)

    pub left_end : (m : List ℕ) (f : Filled) → Left m f → m ≡ [] → Offered struck all start f
    unfolding offered_all
    left_end m f inv e = sym (inv ∙ ap (offered_all (limits.nogoods + 1) struck f) e)

  -- what is refused stays so
  pub hushed_stays : (n : List ℕ) (f f' : Filled) → Well f → Offered struck n f f' → (L : ℕ → List ℕ) (J : List Justification) (c : ℕ) (moved : List ℕ) → Hushed L J c struck moved f → Hushed L J c struck moved f'
  hushed_stays n f f' ok o L J c moved h = record {
    refused = λ j i q u H k. subst (λ (x : Filled). Refused struck x H) (sym o) (refused_stays (limits.nogoods + 1) struck n f ok H (h.refused j i q u H k));
  }

-- the sets of a list, place by place
pub list_on : (l : List ℕ) (i : ℕ) → i < length l → drop i l ≡ (get_or l i 0 ∷ []) ++ drop (i + 1) l
list_on l i h = drop-cons l i 0 h ∙ ap (λ (n : ℕ). get_or l i 0 ∷ drop n l) (sym (add-one i))
