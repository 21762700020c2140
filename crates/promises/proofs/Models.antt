-- Document 003's reading: what follows is what all models have, a model being any set of numbers. Assumes nothing.
use mathlib.Core.Bool.{false, true}
use mathlib.Core.List.{List}
use mathlib.Core.Logic.{◌↔◌, ⊎_elim}
use mathlib.Core.Path.{◌≡◌, refl, subst}
use Prim.Native.Nat.{suc, zero, ℕ}
use lib.ListN.{length}
use Rattle.promises.specs.Meaning.{ModelOf}
use Rattle.theory.proofs.Demands.{carries_means, contradicts_means, ends}
use Rattle.theory.proofs.Following.{follows_by, follows_cases}
use Rattle.theory.proofs.Lists.{clash, either, not_so}
use Rattle.theory.specs.Demands.{carries, contradicts}
use Rattle.theory.specs.Stages.{Justification, follows}

module _ (H : List Justification) (E : ℕ) where
  -- a model has all that follows
  model_has : (S : ℕ → Type 0) → ModelOf H E S → (k n : ℕ) → follows H k E n ≡ true → S n
  unfolding follows
  model_has S m zero n f = m.has n f
  model_has S m (suc k) n f =
      ⊎_elim (λ h. model_has S m k n h) (λ g. subst S g.2.of (m.closed g.0 g.1 (λ s t. model_has S m k s (g.2.by s t)))) (follows_cases H k E n f)

  -- all that follows from a set that contradicts nothing is a model
  abbrev Following : ℕ → Type 0
  Following n = follows H (length H) E n ≡ true

  least_model : contradicts H E ≡ false → ModelOf H E Following
  unfolding contradicts follows
  least_model c = record {
    no_falsity = λ z. clash z c;
    closed = λ j m f. ends H (suc (length H)) E j.consequent (follows_by H (length H) E j.consequent j m (record { of = refl; by = f }));
    has = λ n m. ends H zero E n m;
  }

  pub contradicts_models : (contradicts H E ≡ true) ↔ ((S : ℕ → Type 0) → ModelOf H E S → ⊥)
  contradicts_models = (
    λ h S m. let r = (contradicts_means H E).0 h in m.no_falsity (model_has S m r.0 0 r.1),
    λ f. ⊎_elim (λ c. c) (λ c. absurd (f Following (least_model c))) (either (contradicts H E)),
  )

  pub carries_models : (n : ℕ) → (carries H E n ≡ true) ↔ (((S : ℕ → Type 0) × ModelOf H E S) × ((S : ℕ → Type 0) → ModelOf H E S → S n))
  carries_models n = (
    λ h. let r = (carries_means H E n).0 h in ((Following, least_model r.0), λ S m. model_has S m r.1.0 n r.1.1),
    λ p.
        let c : contradicts H E ≡ false = not_so (contradicts H E) (λ h. contradicts_models.0 h p.0.0 p.0.1) in
        (carries_means H E n).1 (c, (length H, p.1 Following (least_model c))),
  )
