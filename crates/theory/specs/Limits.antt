-- The limits of a store, all in one place. Assumes nothing.
use Rattle.std.specs.Prelude.{Bool, ◌||◌, ℕ, ltb}

pub record Limits : Type 0 where
  -- assumptions, which is the width of a set; claims; both together
  pub assumptions : ℕ
  pub claims : ℕ
  pub numbers : ℕ
  -- justifications held, and supports of one
  pub held : ℕ
  pub supports : ℕ
  -- members of a label, and nogoods
  pub label : ℕ
  pub nogoods : ℕ

-- the product's
abbrev pub limits : Limits
limits = record { assumptions = 32; claims = 96; numbers = 128; held = 256; supports = 4; label = 12; nogoods = 32 }

-- A assumptions and M claims: one of the counts is over its limit
abbrev pub over_counts : ℕ → ℕ → Bool
over_counts A M = ltb limits.assumptions A || ltb limits.claims M

-- bytes of a case file that is listed
abbrev pub file_bytes : ℕ
file_bytes = 4096
