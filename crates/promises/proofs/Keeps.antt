-- What follows of a claim that a function keeps. Assumes nothing.
use mathlib.Core.Path.{◌≡◌}
use Prim.Native.Nat.{ℕ}
use base.Logic.{SProp, sep}
use contract.Adequate.{Satisfies}
use contract.BorrowModel.{logic₀}
use contract.Lifetimes.{Lfts}
use contract.Monad.{fact_mono, fm→mono}
use contract.Closed.{model⁺, real⁺, real⁺_strict}
use contract.Running.{Running, tables, within}
use prog.Linked.{Has, in_code, tie, tie-Wired}
use prog.Model.{Model}
use seplogic.Ra.Ura.{Ura}
use types.Logic.{Logic}
use denote.Triple.Adequate.{adequate}
use denote.Triple.Clauses.{AtExit, Ended, closing}
use denote.Triple.Entry.{Args, Res}
use denote.Triple.Spec.{Meets, triple_of}
use denote.Triple.Statement.{Contract}
use denote.Triple.Table.{run_framed}
use denote.Triple.Weaken.{weaken}
use ghost.Model as closed
use mir.Val.{Val}
use prog.Machine.{done}
use prog.Memory.{Memory}
use prog.Routine.{Callee, Env, step}
use prog.Wired.{Code, Wired}
use Rattle.promises.specs.Keeps.{Claim, Keeps, telling}

-- a claim that follows is kept
pub keeping : (T : Ended) (c : Code) (k : Callee) (P Q : Claim T) → ((κs : Lfts T.signature.lifetimes) (a : Args T.signature κs) (r : Res T.signature κs) (e : AtExit T κs) → P κs a r e → Q κs a r e) → Keeps T c k P → Keeps T c k Q
keeping T c k P Q to kept M 𝓤 𝓛 𝓜 𝓡 wired =
    weaken 𝓛 T (telling 𝓤 T P) (λ κs a. (telling 𝓤 T Q κs a).ensures) (λ κs a g r ws. fact_mono 𝓤 _ _ (to κs a r _)) (𝓡.run (𝓡.env k)) (λ vs. fm→mono 𝓤 (𝓡.run (𝓡.env k) vs) (run_framed 𝓤 𝓛.H 𝓜 𝓡 (𝓡.env k) vs)) (kept M 𝓤 𝓛 𝓜 𝓡 wired)

-- the code linked with itself and with nothing else is such an environment: so the routine that it is there keeps the claim, whatever runs it
pub alone : (T : Ended) (c : Code) (k : Callee) (P : Claim T) → Keeps T c k P → Has (in_code c) c
    → (M : Type 1) (𝓤 : Ura M) (𝓛 : Logic 𝓤) (𝓜 : Model 𝓤 𝓛.H) (𝓡 : Running 𝓤 𝓛.H 𝓜) → Meets 𝓛 T.signature (𝓡.run (tie (in_code c) k)) (closing 𝓛 T (telling 𝓤 T P))
alone T c k P kept has M 𝓤 𝓛 𝓜 𝓡 = kept M 𝓤 𝓛 𝓜 (within 𝓤 𝓛.H 𝓜 𝓡 (tie (in_code c))) (tie-Wired c has)

-- at the machine: from a memory that holds the arguments the routine's own run returns, in a memory of which the claim is said
abbrev pub said : (T : Ended) → Claim T → Contract closed.𝓤
said T P = triple_of logic₀ T.signature (closing logic₀ T (telling closed.𝓤 T P))

pub runs : (T : Ended) (c : Code) (k : Callee) (P : Claim T) → Keeps T c k P → (γ : Env) → Wired γ c → (x : (said T P).Ghost) (σ : Memory) (F : SProp closed.𝓤) → Satisfies closed.𝓤 closed.H model⁺ σ (sep closed.𝓤 ((said T P).pre x) F)
    → ∥ ((n : ℕ) × (v : Val) × (σ' : Memory) × (step (γ k) n ((said T P).args x) σ ≡ done (v, σ')) × Satisfies closed.𝓤 closed.H model⁺ σ' (sep closed.𝓤 ((said T P).post x v) F)) ∥₁
runs T c k P kept γ wired =
    adequate closed.𝓤 closed.H model⁺ (tables closed.𝓤 closed.H model⁺ real⁺ γ) real⁺_strict k (said T P) (kept _ closed.𝓤 logic₀ model⁺ (within closed.𝓤 closed.H model⁺ real⁺ γ) wired)
