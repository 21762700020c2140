-- Stage 0, and the selection that makes a stage of the one before. Assumes nothing.
use mathlib.Core.Bool.{false, not, true}
use mathlib.Core.List.Memᴰ
use mathlib.Core.List.Memᴰ.{head as here}
use mathlib.Core.List.{List, Memᴰ as Mem, [], ◌∷◌}
use mathlib.Core.Logic.{◌⊎◌, ⊎_elim}
use mathlib.Core.Path.{◌∙◌, ◌≡◌, ap, refl, subst, sym}
use Prim.Native.Nat.{◌<◌, ◌^◌, ◌≤◌, max, suc, zero, ℕ}
use native.Mathlib.Omega.{arith}
use lib.Dec.{eqb}
use lib.Pow.{pow-lt, pow_mono}
use borrow.Author.Tests.{eq-eqb, eqb-false, eqb-true, not-true}
use Rattle.std.proofs.lemmas.Nat.Bits.{bit_at-pow_other, bit_at-pow_same, bit_at_or, same_from_bits}
use Rattle.std.specs.Int.{bit_at}
use Rattle.theory.proofs.Label.{inconsistent, label_below, label_elim, label_intro, nogood_below, nogood_elim}
use Rattle.theory.proofs.Lists.{clash, either}
use Rattle.theory.proofs.Order.{label_sorted, nogoods_sorted, sorted_unique}
use Rattle.theory.proofs.Select.{Selection}
use Rattle.theory.proofs.Sets.{or_within, within_antisym, within_le}
use Rattle.theory.proofs.Step.{label_sound, label_step, label_cands, nogood_sound, nogood_step, nogood_cands}
use Rattle.theory.specs.Lists.{all_of, sorted_by}
use Rattle.theory.specs.Sets.{among, contains, digit, union, within}
use Rattle.theory.specs.Stages.{Justification, follows, label_at, nogoods_at}

-- a set that has the digit i has 2 ^ i within it
pub digit_within : (i E : ℕ) → digit E i ≡ true → within (2 ^ i) E ≡ true
unfolding digit
digit_within i E h = or_within (2 ^ i) E (same_from_bits (union (2 ^ i) E) E (λ k. bit_at_or (2 ^ i) E k ∙ at k (either (eqb k i))))
  where
    at : (k : ℕ) → (eqb k i ≡ true) ⊎ (eqb k i ≡ false) → max (bit_at (2 ^ i) k) (bit_at E k) ≡ bit_at E k
    at k = ⊎_elim
        (λ e. subst (λ (j : ℕ). max (bit_at (2 ^ i) j) (bit_at E j) ≡ bit_at E j) (sym (eqb-true k i e)) (omega (arith, bit_at-pow_same i, eqb-true (bit_at E i) 1 h)))
        (λ e. omega (arith, bit_at-pow_other i k (eqb-false k i e)))

pub digit_self : (i : ℕ) → digit (2 ^ i) i ≡ true
unfolding digit
digit_self i = eq-eqb (bit_at (2 ^ i) i) 1 (bit_at-pow_same i)

-- ---- the selections
module _ (A : ℕ) (J : List Justification) (k : ℕ) where
  pub nogood_selection : Selection (nogoods_at A J (suc k)) (nogood_cands A J k) (λ E. true)
  nogood_selection = record {
    sorted = nogoods_sorted A J (suc k);
    apart = λ F E f e w. (nogood_elim A J (suc k) e).least.least F w (nogood_elim A J (suc k) f).least.has;
    from = λ E e. (((nogood_step A J k E).0 e).mem, refl);
    inner = λ H m t. let s = nogood_sound A J k m in nogood_below A J (suc k) H s.0 s.1;
  }

  pub label_selection : (n : ℕ) → Selection (label_at A J (suc k) n) (label_cands A J k n) (λ E. not (contains (nogoods_at A J (suc k)) E))
  label_selection n = record {
    sorted = label_sorted A J (suc k) n;
    apart = λ F E f e w. (label_elim A J (suc k) n e).least.least F w (label_elim A J (suc k) n f).least.has;
    from = λ E e. let s = (label_step A J k n E).0 e in (s.1.mem, ap not s.0);
    inner = λ H m t. let s = label_sound A J k n m in
        label_below A J (suc k) n H s.0 s.1 (sym (inconsistent A J (suc k) H s.0) ∙ not-true (contains (nogoods_at A J (suc k)) H) t);
  }

-- ---- stage 0
empty : (l : List ℕ) → ((E : ℕ) → Mem E l → ⊥) → l ≡ []
empty [] f = refl
empty (x ∷ l) f = absurd (f x (here refl))

module _ (A : ℕ) (J : List Justification) where
  pub nogoods_zero : nogoods_at A J zero ≡ []
  unfolding follows among
  nogoods_zero = empty (nogoods_at A J zero) (λ E m. clash (nogood_elim A J zero m).least.has refl)

  pub label_zero : (i : ℕ) → i < A → label_at A J zero (suc i) ≡ 2 ^ i ∷ []
  unfolding follows among sorted_by all_of
  label_zero i h =
      sorted_unique (label_at A J zero (suc i)) (2 ^ i ∷ []) (label_sorted A J zero (suc i)) refl
      (λ E m. let l = label_elim A J zero (suc i) m in here (sym (l.least.least (2 ^ i) (digit_within i E l.least.has) (digit_self i))))
      (λ E m. Memᴰ.cast (Memᴰ.eq_of_singleton m) (label_intro A J zero (suc i) (record {
        small = pow-lt h;
        clean = refl;
        least = record { has = digit_self i; least = λ F w f. within_antisym F (2 ^ i) w (digit_within i F f) };
      })))

  pub label_zero_above : (i : ℕ) → A ≤ i → label_at A J zero (suc i) ≡ []
  unfolding follows among
  label_zero_above i h = empty (label_at A J zero (suc i)) (λ E m.
      let l = label_elim A J zero (suc i) m in
      absurd (omega (arith, l.small, within_le (2 ^ i) E (digit_within i E l.least.has), pow_mono h)))
