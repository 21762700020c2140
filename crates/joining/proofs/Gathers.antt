-- The walk over the joins, as its calls and its loop go. Assumes nothing.
use mathlib.Core.Bool.{Bool, false, not, true}
use mathlib.Core.List.Memᴰ
use mathlib.Core.List.{List, Memᴰ as Mem, [], ◌++◌, ◌∷◌, append_assoc, append-nil}
use mathlib.Core.Logic.{⊎_elim}
use mathlib.Core.Path.{◌∙◌, ◌≡◌, ap, ap₂, refl, subst, sym}
use Rattle.std.specs.Prelude.{None, Some}
use Prim.Native.Nat.{◌+◌, ◌<◌, ◌≤◌, ℕ}
use native.Mathlib.Numerals.{add-one}
use lib.ListN.{drop, drop_of_length-le, get_or, length, take}
use lib.Seq.{drop-cons, take_all, take-suc}
use Rattle.joining.proofs.Reasons.{reason_append, reason_below, reason_skip, reason_stays, reason_wider, spent_more}
use Rattle.joining.proofs.Refusals.{by_free, offered_append, refused_self, well_stays}
use Rattle.joining.specs.Pool.{Barred, Filled, Gathered, Reason, Well, entered, enters, late_by, offered, offered_all}
use Rattle.sets.specs.Promised.{meet}
use Rattle.theory.proofs.Label.{contains_elim}
use Rattle.theory.proofs.Lists.{and_intro}
use Rattle.theory.proofs.Sets.{within_left, within_refl, within_right}
use Rattle.theory.specs.Limits.{limits}
use Rattle.theory.specs.Lists.{choose, each}
use Rattle.theory.specs.Sets.{contains, union, within}
use Rattle.theory.specs.Step.{joins}

-- no support left: what is joined alone
pub joins_alone : (L : ℕ → List ℕ) (supports : List ℕ) (joined : ℕ) → supports ≡ [] → joins L joined supports ≡ joined ∷ []
unfolding joins
joins_alone L supports joined e = ap (joins L joined) e

-- ---- a call whose joins are all refused, or that has none to join
module _ (struck : List ℕ) (L : ℕ → List ℕ) (supports : List ℕ) (joined : ℕ) (f : Filled) where
  pub gather_barred : (t : ℕ) → Barred struck f.sets joined (Some t) → Gathered struck (joins L joined supports) f f t
  gather_barred t b =
      let w : Reason struck f (joins L joined supports) t = reason_below struck f L supports joined t (by_free struck f t b.0) b.1 t (within_refl t) in
      (sym (reason_skip struck f (limits.nogoods + 1) (joins L joined supports) t w), w)

  pub gather_end : Barred struck f.sets joined None → Well f → late_by f.bound joined ≡ false → supports ≡ [] → (f' : Filled) → f' ≡ entered (limits.nogoods + 1) f joined → Gathered struck (joins L joined supports) f f' joined
  unfolding enters offered_all
  gather_end bar ok early h f' a =
      let goes : enters struck f joined ≡ true = and_intro (ap not early) bar in
      let same : offered (limits.nogoods + 1) struck f joined ≡ f' = ap (λ (b : Bool). choose b (entered (limits.nogoods + 1) f joined) f) goes ∙ sym a in
      let self : enters struck f' joined ≡ false = subst (λ (x : Filled). enters struck x joined ≡ false) same (refused_self (limits.nogoods + 1) struck f ok joined) in (
        sym (ap (offered_all (limits.nogoods + 1) struck f) (joins_alone L supports joined h) ∙ same),
        reason_below struck f' L supports joined joined self (within_refl joined) joined (within_refl joined),
      )

-- ---- the loop over the label of the first support
module _ (struck : List ℕ) (L : ℕ → List ℕ) (label rest : List ℕ) (joined : ℕ) (start : Filled) where
  abbrev room : ℕ
  room = limits.nogoods + 1

  abbrev pub under : ℕ → List ℕ
  under F = joins L (union joined F) rest

  -- k members are done: f is what the pool holds, S the parts for which they are spent
  pub record Going (f : Filled) (k : ℕ) (S : List ℕ) (why : ℕ) : Type 0 where
    pub well : Well f
    pub left : offered_all room struck start (each under label) ≡ offered_all room struck f (each under (drop k label))
    pub reasons : Reason struck f (each under (take k label)) why
    pub spent : (s : ℕ) → Mem s S → (G : ℕ) → within s G ≡ true → Reason struck f (joins L G rest) why

  pub going_none : Well start → (why : ℕ) → Going start 0 [] why
  unfolding each
  going_none ok why = record { well = ok; left = refl; reasons = λ H m. elim m [ ]; spent = λ s m. elim m [ ] }

  module _ (f : Filled) (k : ℕ) (S : List ℕ) (why : ℕ) (inv : Going f k S why) where
    module _ (h : k < length label) (g : ℕ) (is : g ≡ union joined (get_or label k 0)) where
      on : each under (drop k label) ≡ joins L g rest ++ each under (drop (k + 1) label)
      unfolding each
      on = ap (each under) (drop-cons label k 0 h) ∙ ap₂ (λ (x i : ℕ). joins L x rest ++ each under (drop i label)) (sym is) (sym (add-one k))

      past : each under (take (k + 1) label) ≡ each under (take k label) ++ joins L g rest
      unfolding each
      past = ap (λ (n : ℕ). each under (take n label)) (add-one k) ∙ ap (each under) (take-suc label k 0 h) ∙ each_last (take k label) (get_or label k 0) ∙ ap (λ (x : ℕ). each under (take k label) ++ joins L x rest) (sym is)
        where
          each_last : (l : List ℕ) (x : ℕ) → each under (l ++ x ∷ []) ≡ each under l ++ under x
          each_last [] x = append-nil (under x)
          each_last (y ∷ l) x = ap (λ (m : List ℕ). under y ++ m) (each_last l x) ∙ sym (append_assoc (under y) (each under l) (under x))

      -- a member visited
      pub member_visited : (f' : Filled) (v : ℕ) → Gathered struck (joins L g rest) f f' v → Going f' (k + 1) (S ++ meet g v ∷ []) (union why v)
      member_visited f' v r =
          let later : (l : List ℕ) → Reason struck f l why → Reason struck f' l (union why v) =
          λ l q. subst (λ (x : Filled). Reason struck x l (union why v)) (sym r.0) (reason_wider struck (offered_all room struck f (joins L g rest)) l why (union why v) (reason_stays struck f room l (joins L g rest) why inv.well q) (within_left why v)) in
          record {
            well = subst Well (sym r.0) (well_stays room struck (joins L g rest) f inv.well);
            left = inv.left ∙ ap (offered_all room struck f) on ∙ offered_append room struck (joins L g rest) (each under (drop (k + 1) label)) f
                ∙ ap (λ (x : Filled). offered_all room struck x (each under (drop (k + 1) label))) (sym r.0);
            reasons = subst (λ (l : List ℕ). Reason struck f' l (union why v)) (sym past)
                (reason_append struck f' (each under (take k label)) (joins L g rest) (union why v) (later (each under (take k label)) inv.reasons) (reason_wider struck f' (joins L g rest) v (union why v) r.1 (within_right why v)));
            spent = λ s m G p. ⊎_elim (λ o. later (joins L G rest) (inv.spent s o G p))
                (λ o. reason_wider struck f' (joins L G rest) v (union why v)
                (spent_more struck f' L rest g v G r.1 (subst (λ (x : ℕ). within x G ≡ true) (Memᴰ.eq_of_singleton o) p)) (within_right why v))
                (Memᴰ.append_cases S m);
          }

      -- a member passed over
      pub member_passed : contains S g ≡ true → Going f (k + 1) S why
      member_passed c =
          let i = contains_elim S g c in
          let r : Reason struck f (joins L g rest) why = inv.spent i.0 i.1 g i.2 in
          record {
            well = inv.well;
            left = inv.left ∙ ap (offered_all room struck f) on ∙ offered_append room struck (joins L g rest) (each under (drop (k + 1) label)) f
                ∙ ap (λ (x : Filled). offered_all room struck x (each under (drop (k + 1) label))) (reason_skip struck f room (joins L g rest) why r);
            reasons = subst (λ (l : List ℕ). Reason struck f l why) (sym past) (reason_append struck f (each under (take k label)) (joins L g rest) why inv.reasons r);
            spent = inv.spent;
          }

      -- a member whose joins are refused at once, for a reason of their own: nothing is spent
      pub member_refused : (v : ℕ) → Reason struck f (joins L g rest) v → Going f (k + 1) S (union why v)
      member_refused v r =
          let next : Going f (k + 1) (S ++ meet g v ∷ []) (union why v) = member_visited f v (sym (reason_skip struck f room (joins L g rest) v r), r) in
          record { well = next.well; left = next.left; reasons = next.reasons; spent = λ s m. next.spent s (Memᴰ.append_left (meet g v ∷ []) m) }

    pub going_end : length label ≤ k → (f ≡ offered_all room struck start (each under label)) × Reason struck f (each under label) why
    unfolding each offered_all
    going_end h = (
      sym (inv.left ∙ ap (λ (l : List ℕ). offered_all room struck f (each under l)) (drop_of_length-le label h)),
      subst (λ (l : List ℕ). Reason struck f (each under l) why) (take_all k label h) inv.reasons,
    )
