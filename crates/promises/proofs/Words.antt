-- When each word and each byte is said. Assumes nothing.
use mathlib.Core.Bool.{Bool, false, not, true}
use mathlib.Core.List.{List}
use mathlib.Core.Logic.{◌↔◌}
use mathlib.Core.Path.{◌≡◌, ap, refl, sym}
use Prim.Native.Nat.{◌<◌, ◌^◌, ◌≤◌, suc, zero, ℕ}
use native.Mathlib.Nat.{not-suc-le-zero}
use native.Mathlib.Omega.{arith}
use lib.ListN.{length}
use Rattle.promises.specs.Demand2.{byte_by, carried_by, contradicted_by, word_by}
use Rattle.promises.specs.Made.{Input}
use Rattle.promises.specs.Words.{Carried, Followed, Words}
use Rattle.text.specs.Texts.{word}
use Rattle.theory.proofs.Demands.{carries_means, from_all_means, from_all_own}
use Rattle.theory.proofs.Listing.{listing_elim, listing_intro}
use Rattle.theory.proofs.Lists.{and_intro, and_left, and_right, clash, not_so, some_elim, some_intro}
use Rattle.theory.specs.Demands.{carries, contradicts, follows_from_all}
use Rattle.theory.specs.Lists.{choose}
use Rattle.theory.specs.Sets.{listing}

-- ---- three words

abbrev worded : Bool → Bool → List ℕ
worded c f = choose c (word " supported") (choose f (word " contradicted") (word " unsupported"))

-- they are of three lengths
said_supported : (c f : Bool) → (worded c f ≡ word " supported") ↔ (c ≡ true)
unfolding word
said_supported true f = (λ e. refl, λ e. refl)
said_supported false true = (λ e. absurd (differ (ap length e)), λ e. clash e refl)
  where
    differ : ◌≡◌ {A = ℕ} 13 10 → ⊥
    differ e = omega arith
said_supported false false = (λ e. absurd (differ (ap length e)), λ e. clash e refl)
  where
    differ : ◌≡◌ {A = ℕ} 12 10 → ⊥
    differ e = omega arith

said_contradicted : (c f : Bool) → (worded c f ≡ word " contradicted") ↔ ((c ≡ false) × (f ≡ true))
unfolding word
said_contradicted true f = (λ e. absurd (differ (ap length e)), λ p. clash refl p.0)
  where
    differ : ◌≡◌ {A = ℕ} 10 13 → ⊥
    differ e = omega arith
said_contradicted false true = (λ e. (refl, refl), λ p. refl)
said_contradicted false false = (λ e. absurd (differ (ap length e)), λ p. clash p.1 refl)
  where
    differ : ◌≡◌ {A = ℕ} 12 13 → ⊥
    differ e = omega arith

said_unsupported : (c f : Bool) → (worded c f ≡ word " unsupported") ↔ ((c ≡ false) × (f ≡ false))
unfolding word
said_unsupported true f = (λ e. absurd (differ (ap length e)), λ p. clash refl p.0)
  where
    differ : ◌≡◌ {A = ℕ} 10 12 → ⊥
    differ e = omega arith
said_unsupported false true = (λ e. absurd (differ (ap length e)), λ p. clash refl p.1)
  where
    differ : ◌≡◌ {A = ℕ} 13 12 → ⊥
    differ e = omega arith
said_unsupported false false = (λ e. (refl, refl), λ p. refl)

-- ---- of a number from 1 on

module _ (A : ℕ) (H : Input) where
  carried : (n : ℕ) → (carried_by A H n ≡ true) ↔ Carried A H n
  unfolding carried_by
  carried n = (
    λ h. let w = some_elim (λ E. carries H E n) (listing A) h in (w.0, listing_elim A w.1, w.2),
    λ c. some_intro (λ E. carries H E n) (listing_intro A c.1) c.2,
  )

  carried_follows : (n : ℕ) → Carried A H n → Followed A H n
  carried_follows n c = (c.0, c.1, ((carries_means H c.0 n).0 c.2).1)

  module _ (i : ℕ) where
    abbrev n : ℕ
    n = suc i

    supported : (word_by A H n ≡ word " supported") ↔ Carried A H n
    unfolding word_by
    supported =
        let s = said_supported (carried_by A H n) (follows_from_all A H n) in
        (λ e. (carried n).0 (s.0 e), λ c. s.1 ((carried n).1 c))

    contradicted : (word_by A H n ≡ word " contradicted") ↔ ((Carried A H n → ⊥) × Followed A H n)
    unfolding word_by
    contradicted =
        let s = said_contradicted (carried_by A H n) (follows_from_all A H n) in (
          λ e. let p = s.0 e in (λ c. clash ((carried n).1 c) p.0, (from_all_means A H n).0 p.1),
          λ p. s.1 (not_so (carried_by A H n) (λ c. p.0 ((carried n).0 c)), (from_all_means A H n).1 p.1),
        )

    unsupported : (word_by A H n ≡ word " unsupported") ↔ (Followed A H n → ⊥)
    unfolding word_by
    unsupported =
        let s = said_unsupported (carried_by A H n) (follows_from_all A H n) in (
          λ e f. clash ((from_all_means A H n).1 f) (s.0 e).1,
          λ h. s.1 (not_so (carried_by A H n) (λ c. h (carried_follows n ((carried n).0 c))), not_so (follows_from_all A H n) (λ f. h ((from_all_means A H n).0 f))),
        )

-- ---- byte 3

three : (x y z : Bool) → (◌≡◌ {A = ℕ} (choose x 2 (choose y 1 (choose z 3 0))) 3) ↔ ((x ≡ false) × (y ≡ false) × (z ≡ true))
three true y z = (λ e. absurd (omega arith), λ p. clash refl p.0)
three false true z = (λ e. absurd (omega arith), λ p. clash refl p.1)
three false false true = (λ e. (refl, refl, refl), λ p. refl)
three false false false = (λ e. absurd (omega arith), λ p. clash p.2 refl)

nogood_word : (A : ℕ) (H : Input) → word_by A H 0 ≡ word " nogood"
unfolding word_by
nogood_word A H = refl

nogood_differs : word " nogood" ≡ word " contradicted" → ⊥
unfolding word
nogood_differs e = differ (ap length e)
  where
    differ : ◌≡◌ {A = ℕ} 7 13 → ⊥
    differ e = omega arith

byte_3 : (A : ℕ) (H : Input) (E n : ℕ) → E < 2 ^ A → (byte_by A H E n ≡ 3) ↔ ((contradicts H E ≡ false) × (word_by A H n ≡ word " contradicted"))
unfolding contradicted_by word_by
byte_3 A H E zero h = (
  λ e. clash ((three (contradicts H E) (carries H E 0) false).0 e).2 refl,
  λ p. absurd (nogood_differs p.1),
)
byte_3 A H E (suc i) h =
    let n : ℕ = suc i in
    let t = three (contradicts H E) (carries H E n) (contradicted_by A H n) in
    let s = said_contradicted (carried_by A H n) (follows_from_all A H n) in (
      λ e. let p = t.0 e in (p.0, s.1 (not_no (carried_by A H n) (and_left (not (carried_by A H n)) (follows_from_all A H n) p.2), and_right (not (carried_by A H n)) (follows_from_all A H n) p.2)),
      λ p. let q = s.0 p.1 in
          t.1 (p.0, not_so (carries H E n) (λ c. clash ((carried A H n).1 (E, h, c)) q.0), and_intro (ap not q.0) q.1),
    )
  where
    not_no : (b : Bool) → not b ≡ true → b ≡ false
    not_no true e = clash refl (sym e)
    not_no false e = refl

pub words : Words
words = record {
  supported = λ A H n h. at n h (λ m. (word_by A H m ≡ word " supported") ↔ Carried A H m) (supported A H);
  contradicted = λ A H n h. at n h (λ m. (word_by A H m ≡ word " contradicted") ↔ ((Carried A H m → ⊥) × Followed A H m)) (contradicted A H);
  unsupported = λ A H n h. at n h (λ m. (word_by A H m ≡ word " unsupported") ↔ (Followed A H m → ⊥)) (unsupported A H);
  assumption = λ A H n h l e. at n h (λ m. m ≤ A → word_by A H m ≡ word " unsupported" → ⊥) (λ i l e. (unsupported A H i).0 e ((from_all_means A H (suc i)).0 (from_all_own A H i l))) l e;
  falsity = nogood_word;
  byte_3 = byte_3;
}
  where
    at : (n : ℕ) → 1 ≤ n → (P : ℕ → Type 0) → ((i : ℕ) → P (suc i)) → P n
    at zero h P f = absurd (not-suc-le-zero h)
    at (suc i) h P f = f i
