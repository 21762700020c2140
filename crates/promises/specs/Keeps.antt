-- A claim held to a function of the code, by what Rattle generates of the function. Assumes nothing.
use Rattle.std.specs.Prelude.{◌↔◌, ◌≡◌}
use seplogic.Ra.Ura.{Ura}
use base.Logic.{SProp, emp}
use contract.Lifetimes.{Lfts}
use contract.Monad.{Fun, fact}
use contract.Running.{Running}
use denote.Triple.Clauses.{AtExit, Clauses, Ended, closing}
use denote.Triple.Entry.{Args, Res}
use denote.Triple.Spec.{Meets}
use types.Logic.{Logic}
use prog.Memory.{Memory}
use prog.Model.{Model}
use prog.Routine.{Callee, Routine}
use prog.Wired.{Code, Wired}

-- T is the function's `ended`: its signature, and of which parameters a value at exit is seen

-- of the arguments
abbrev pub Asks : Ended → Type 1
Asks T = (κs : Lfts T.signature.lifetimes) → Args T.signature κs → Type 0

-- of the arguments, the result, and the parameters at exit
abbrev pub Claim : Ended → Type 1
Claim T = (κs : Lfts T.signature.lifetimes) → Args T.signature κs → Res T.signature κs → AtExit T κs → Type 0

-- the contract that requires nothing and ensures P
abbrev pub telling : {M : Type 1} (𝓤 : Ura M) (T : Ended) → Claim T → Clauses 𝓤 T
telling 𝓤 T P κs a = record { ghost = Unit {0}; requires = λ g. emp 𝓤; ensures = λ g r e. fact 𝓤 (P κs a r e) }

-- the compiled code c, with the code of all that it names: wherever names mean what that code is, the routine that k names meets the contract: from any arguments it ends, is safe and ensures P
abbrev pub Keeps : (T : Ended) → Code → Callee → Claim T → Type 2
Keeps T c k P = (M : Type 1) (𝓤 : Ura M) (𝓛 : Logic 𝓤) (𝓜 : Model 𝓤 𝓛.H) (𝓡 : Running 𝓤 𝓛.H 𝓜) → Wired 𝓡.env c → Meets 𝓛 T.signature (𝓡.run (𝓡.env k)) (closing 𝓛 T (telling 𝓤 T P))

-- the same, and the generated contract says that and no more: a caller is asked nothing, and learns exactly P
pub record Tied (T : Ended) (c : Code) (k : Callee) (Asked : Asks T) (Learnt P : Claim T) : Type 2 where
  pub keeps : Keeps T c k P
  pub free : (κs : Lfts T.signature.lifetimes) (a : Args T.signature κs) → Asked κs a
  pub exact : (κs : Lfts T.signature.lifetimes) (a : Args T.signature κs) (r : Res T.signature κs) (e : AtExit T κs) → Learnt κs a r e ↔ P κs a r e

-- the same by the contract itself: it is that which requires nothing and ensures P
pub record Walked (T : Ended) (c : Code) (k : Callee) (contract : (M : Type 1) (𝓤 : Ura M) (𝓛 : Logic 𝓤) → (Memory → SProp 𝓤) → (Routine → Fun 𝓤) → Clauses 𝓤 T) (P : Claim T) : Type 2 where
  pub keeps : Keeps T c k P
  pub exact : (M : Type 1) (𝓤 : Ura M) (𝓛 : Logic 𝓤) (mem : Memory → SProp 𝓤) (run : Routine → Fun 𝓤) → contract M 𝓤 𝓛 mem run ≡ telling 𝓤 T P
