-- The loop of gather over the label of the first support, the spent sets in their places. Assumes nothing.
use Rattle.std.proofs.Common.{◌≡◌, ℕ, ◌+◌, ◌<◌, ◌≤◌, true, List, [], ◌∷◌, ◌++◌, get_or, length, take, set, replicate, Option, is_some, refl, sym, ap, ◌∙◌, subst, add-one, arith}
use Rattle.std.proofs.Math.ListN.{length-set}
use lib.Seq.{take-suc-set}
use Rattle.joining.proofs.Gathers.{Going, going_end, going_none, member_passed, member_refused, member_visited}
use Rattle.joining.proofs.Reasons.{reason_below}
use Rattle.joining.proofs.Refusals.{by_late}
use Rattle.joining.specs.Pool.{Filled, Gathered, Well, late_by}
use Rattle.members.proofs.First.{contains_first}
use Rattle.members.specs.Promised.{first_within}
use Rattle.sets.specs.Promised.{meet}
use Rattle.theory.proofs.Sets.{within_refl}
use Rattle.theory.specs.Limits.{limits}
use Rattle.theory.specs.Sets.{contains, union}
use Rattle.theory.specs.Step.{joins}

module _ (struck : List ℕ) (L : ℕ → List ℕ) (label rest : List ℕ) (joined : ℕ) (start : Filled) where
  -- k members are done, n of them spent; why none of their joins goes in
  pub record Turning (f : Filled) (k : ℕ) (spent : List ℕ) (n why : ℕ) : Type 0 where
    pub few : n ≤ k
    pub long : length spent ≡ limits.label
    pub short : length label ≤ limits.label
    pub going : Going struck L label rest joined start f k (take n spent) why

  pub turning_none : Well start → length label ≤ limits.label → (why : ℕ) → Turning start 0 (replicate limits.label 0) 0 why
  turning_none ok room why = record { few = omega arith; long = refl; short = room; going = going_none struck L label rest joined start ok why }

  module _ (f : Filled) (k : ℕ) (spent : List ℕ) (n why : ℕ) (inv : Turning f k spent n why) where
    module _ (h : k < length label) (g : ℕ) (is : g ≡ union joined (get_or label k 0)) where
      -- its joins are offered
      pub turn_visited : (f' : Filled) (v : ℕ) → Gathered struck (joins L g rest) f f' v → (w : ℕ) → w ≡ union why v → (x : ℕ) → x ≡ meet g v → Turning f' (k + 1) (set spent n x) (n + 1) w
      turn_visited f' v a w p x e =
          let one : take n spent ++ meet g v ∷ [] ≡ take (n + 1) (set spent n x) =
          ap (λ (y : ℕ). take n spent ++ y ∷ []) (sym e) ∙ sym (ap (λ (i : ℕ). take i (set spent n x)) (add-one n) ∙ take-suc-set spent n x (omega (arith, inv.long, inv.few))) in
          record {
            few = omega (arith, inv.few);
            long = length-set spent n x ∙ inv.long;
            short = inv.short;
            going = subst (λ (y : ℕ). Going struck L label rest joined start f' (k + 1) (take (n + 1) (set spent n x)) y) (sym p)
                (subst (λ (l : List ℕ). Going struck L label rest joined start f' (k + 1) l (union why v)) one
                (member_visited struck L label rest joined start f k (take n spent) why inv.going h g is f' v a));
          }

      -- it is passed over: a spent set lies within it
      pub turn_passed : (r : Option ℕ) → r ≡ first_within (take n spent) g → is_some r ≡ true → Turning f (k + 1) spent n why
      turn_passed r p q =
          let c : contains (take n spent) g ≡ true = contains_first (take n spent) g ∙ ap is_some (sym p) ∙ q in
          record { few = omega (arith, inv.few); long = inv.long; short = inv.short; going = member_passed struck L label rest joined start f k (take n spent) why inv.going h g is c }

      -- it is late
      pub turn_late : late_by f.bound g ≡ true → (w : ℕ) → w ≡ union why g → Turning f (k + 1) spent n w
      turn_late t w p = record {
        few = omega (arith, inv.few);
        long = inv.long;
        short = inv.short;
        going = subst (λ (y : ℕ). Going struck L label rest joined start f (k + 1) (take n spent) y) (sym p)
            (member_refused struck L label rest joined start f k (take n spent) why inv.going h g is g (reason_below struck f L rest g g (by_late struck f g t) (within_refl g) g (within_refl g)));
      }

    pub turning_end : length label ≤ k → (s : ℕ) → label ≡ L s → (supports : List ℕ) → supports ≡ s ∷ rest → Gathered struck (joins L joined supports) start f why
    unfolding joins
    turning_end h s e supports q =
        let w = going_end struck L label rest joined start f k (take n spent) why inv.going h in
        subst (λ (l : List ℕ). Gathered struck (joins L joined l) start f why) (sym q)
        (subst (λ (l : List ℕ). Gathered struck (Rattle.theory.specs.Lists.each (λ F. joins L (union joined F) rest) l) start f why) e w)
