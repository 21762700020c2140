-- A file answered done gives a store of right shape. Assumes nothing.
use mathlib.Core.List.{List}
use mathlib.Core.Path.{◌∙◌, ◌≡◌, ap, subst, sym}
use Prim.Native.Nat.{ℕ}
use Rattle.casefile.proofs.Loading.{load_done, load_store}
use Rattle.casefile.proofs.Whole.{case_sure}
use Rattle.casefile.specs.Case.{Case, held_by}
use Rattle.casefile.specs.Load.{load_of}
use Rattle.casefile.specs.declared.Loaded.{Loaded}
use Rattle.replies.proofs.Laws.{zero_done}
use Rattle.replies.specs.Replies.{number_of}
use Rattle.replies.specs.declared.Reply.TheVariants.{Done}
use Rattle.store.proofs.Right.{Whole, stored_right}
use Rattle.store.specs.Calls.{no_store}

-- a file answered done gives a store of right shape
pub loaded_right : (l : List ℕ) → number_of (load_of l).reply ≡ 0 → Whole (load_of l).store
loaded_right l z =
    let done : (load_of l).reply ≡ Done = zero_done (load_of l).reply z in
    let c = load_done l done in
    let s : Case = c.0 in
    let e = load_store l s c.1 in
    subst (λ (r : Loaded). Whole r.store) (sym e)
    (stored_right s.header.assumptions s.header.claims (held_by s) c.2.limited.assumptions c.2.limited.claims (case_sure s c.2).right (case_sure s c.2).said no_store
    (sym (ap (λ (r : Loaded). r.reply) e) ∙ done))
