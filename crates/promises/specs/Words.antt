-- The words of the listing and the bytes of a context, each by when it is said. Assumes nothing.
use Rattle.std.specs.Prelude.{false, true, ◌↔◌, ◌≡◌, ◌<◌, ◌^◌, ◌≤◌, ℕ}
use Rattle.promises.specs.Demand2.{byte_by, word_by}
use Rattle.promises.specs.Made.{Input}
use Rattle.promises.specs.Meaning.{AtSomeStage}
use Rattle.text.specs.Texts.{word}
use Rattle.theory.specs.Demands.{carries, contradicts}

-- some set of A assumptions carries n
abbrev pub Carried : ℕ → Input → ℕ → Type 0
Carried A H n = (E : ℕ) × (E < 2 ^ A) × (carries H E n ≡ true)

-- n follows from some set of A assumptions at some stage, whatever else follows from it
abbrev pub Followed : ℕ → Input → ℕ → Type 0
Followed A H n = (E : ℕ) × (E < 2 ^ A) × AtSomeStage H E n

pub record Words : Type 0 where
  pub supported : (A : ℕ) (H : Input) (n : ℕ) → 1 ≤ n → (word_by A H n ≡ word " supported") ↔ Carried A H n
  pub contradicted : (A : ℕ) (H : Input) (n : ℕ) → 1 ≤ n → (word_by A H n ≡ word " contradicted") ↔ ((Carried A H n → ⊥) × Followed A H n)
  pub unsupported : (A : ℕ) (H : Input) (n : ℕ) → 1 ≤ n → (word_by A H n ≡ word " unsupported") ↔ (Followed A H n → ⊥)
  -- an assumption is never unsupported; falsity is never contradicted
  pub assumption : (A : ℕ) (H : Input) (n : ℕ) → 1 ≤ n → n ≤ A → word_by A H n ≡ word " unsupported" → ⊥
  pub falsity : (A : ℕ) (H : Input) → word_by A H 0 ≡ word " nogood"
  -- byte 3: the set is consistent and the line says `contradicted`
  pub byte_3 : (A : ℕ) (H : Input) (E n : ℕ) → E < 2 ^ A → (byte_by A H E n ≡ 3) ↔ ((contradicts H E ≡ false) × (word_by A H n ≡ word " contradicted"))
