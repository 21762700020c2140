-- Stages, labels and nogoods depend on the set of the justifications alone. Assumes nothing.
use mathlib.Core.Bool.{true}
use mathlib.Core.List.{List, Memᴰ as Mem}
use mathlib.Core.Logic.{⊎_elim}
use mathlib.Core.Path.{◌∙◌, ◌≡◌, ap, fun_ext}
use Prim.Native.Nat.{suc, zero, ℕ}
use Rattle.theory.proofs.Following.{follows_by, follows_cases, follows_keep}
use Rattle.theory.proofs.Lists.{same_test}
use Rattle.theory.specs.Judge.{stage_at, stage_of}
use Rattle.theory.specs.Stages.{Justification, follows, label_at, label_of, nogoods_at, nogoods_of}

-- each justification of J is in J', perhaps with fewer supports, in any order, repeated or not
abbrev pub Covered : List Justification → List Justification → Type 0
Covered J J' = (r : Justification) → Mem r J → (r' : Justification) × Mem r' J' × (r'.consequent ≡ r.consequent) × ((s : ℕ) → Mem s r'.supports → Mem s r.supports)

pub covered_follows : (J J' : List Justification) → Covered J J' → (k E n : ℕ) → follows J k E n ≡ true → follows J' k E n ≡ true
unfolding follows
covered_follows J J' c zero E n f = f
covered_follows J J' c (suc k) E n f =
    ⊎_elim (λ h. follows_keep J' k E n (covered_follows J J' c k E n h))
    (λ g. let q = c g.0 g.1 in
    follows_by J' k E n q.0 q.1 (record { of = q.2 ∙ g.2.of; by = λ s m. covered_follows J J' c k E s (g.2.by s (q.3 s m)) }))
    (follows_cases J k E n f)

module _ (J J' : List Justification) (c : Covered J J') (c' : Covered J' J) where
  pub same_follows : follows J ≡ follows J'
  same_follows = fun_ext λ k. fun_ext λ E. fun_ext λ n. same_test (covered_follows J J' c k E n) (covered_follows J' J c' k E n)

  pub same_label : (A k n : ℕ) → label_at A J k n ≡ label_at A J' k n
  unfolding label_at
  same_label A k n = ap (λ S. label_of A (S k) n) same_follows

  pub same_nogoods : (A k : ℕ) → nogoods_at A J k ≡ nogoods_at A J' k
  unfolding nogoods_at
  same_nogoods A k = ap (λ S. nogoods_of A (S k)) same_follows

  pub same_stage : (A N k : ℕ) → stage_at A N J k ≡ stage_at A N J' k
  unfolding stage_at
  same_stage A N k = ap (λ S. stage_of A N (S k)) same_follows
