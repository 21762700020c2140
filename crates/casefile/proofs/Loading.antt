-- From what a file says to the answer of loading it. Assumes nothing.
use mathlib.Core.Bool.{true}
use mathlib.Core.List.{List}
use mathlib.Core.Path.{◌∙◌, ◌≡◌, ap, ap₂, refl, sym}
use Prim.Native.Nat.{ℕ, ◌≤◌}
use borrow.Author.Tests.{eqb-false, le-leb}
use Rattle.casefile.proofs.Whole.{Checked, Loadable, Sound, case_checked, parse_right}
use Rattle.casefile.specs.Case.{Case, Reading, case_of, done_of, held_by, parse_of, parsed_of, refused, whole}
use Rattle.casefile.specs.Load.{load_of, loaded_of, recorded}
use Rattle.casefile.specs.declared.Fault.{Fault}
use Rattle.casefile.specs.declared.Loaded.{Loaded}
use Rattle.std.specs.Prelude.{Ok, Err}
use Rattle.casefile.specs.declared.Parsed.{Parsed}
use Rattle.replies.specs.Replies.{number_of}
use Rattle.replies.specs.declared.Reply.TheVariants.{Done}
use Rattle.rules.specs.Held.{held_of, held_right, said_by}
use Rattle.rules.specs.declared.Held.{Held}
use Rattle.store.specs.Calls.{judged_of, no_store, open_of, store_of}
use Rattle.store.specs.Shape.{held_fits}
use Rattle.store.specs.declared.Outcome.{Outcome}
use Rattle.store.specs.declared.Store.{Store}
use Rattle.theory.proofs.Lists.{and_intro}
use Rattle.theory.specs.Limits.{limits}
use Rattle.theory.specs.Stages.{Justification}

-- what is held in its right shape, within the limits, is judged by its stages
judged_stages : (h : Held) → h.assumptions ≤ limits.assumptions → h.claims ≤ limits.claims → held_right h ≡ true → judged_of h ≡ store_of no_store h.assumptions h.claims (said_by h)
unfolding judged_of held_fits
judged_stages h a m r =
    let t : held_fits h ≡ true = and_intro (le-leb h.assumptions limits.assumptions a) (and_intro (le-leb h.claims limits.claims m) r) in
    rw t

done_assumptions : (s : Case) → (done_of s).held.assumptions ≡ s.header.assumptions
unfolding held_of
done_assumptions s = refl

done_claims : (s : Case) → (done_of s).held.claims ≡ s.header.claims
unfolding held_of
done_claims s = refl

refused_loaded : (o : Reading Case) (x : Fault) → Err x ≡ parsed_of o → ◌≡◌ {A = Loaded} (record { reply = x.reply; «record» = x.«record»; store = no_store }) (loaded_of o)
refused_loaded (whole s) x e = absurd cc
refused_loaded (refused f r) x e = let p : x ≡ record { reply = f; «record» = r } = cc in ap (λ (y : Fault). record { reply = y.reply; «record» = y.«record»; store = no_store }) p

module _ (l : List ℕ) where
  pub load_refused : (x : Fault) → Err x ≡ parse_of l → (s : Store) → s ≡ no_store → ◌≡◌ {A = Loaded} (record { reply = x.reply; «record» = x.«record»; store = s }) (load_of l)
  unfolding load_of parse_of
  load_refused x e s q = ap (λ (y : Store). record { reply = x.reply; «record» = x.«record»; store = y }) q ∙ refused_loaded (case_of l) x e

  pub load_judged : (p : Parsed) → Ok p ≡ parse_of l → (o : Outcome) → o ≡ judged_of p.held → recorded p.records o ≡ load_of l
  unfolding load_of
  load_judged p e o q =
      let d : Loadable l p = parse_right l p e in
      let s : Case = d.spelled in
      let n : p.records ≡ s.header.records = ap (λ (x : Parsed). x.records) d.parsed in
      let a : p.held.assumptions ≡ s.header.assumptions = ap (λ (x : Parsed). x.held.assumptions) d.parsed ∙ done_assumptions s in
      let m : p.held.claims ≡ s.header.claims = ap (λ (x : Parsed). x.held.claims) d.parsed ∙ done_claims s in
      let j : judged_of p.held ≡ store_of no_store s.header.assumptions s.header.claims (held_by s) =
      judged_stages p.held d.assumptions d.claims d.right
      ∙ (ap (λ (J : List Justification). store_of no_store p.held.assumptions p.held.claims J) d.said
      ∙ ap₂ (λ (A M : ℕ). store_of no_store A M (held_by s)) a m) in
      ap₂ recorded n (q ∙ j) ∙ sym (ap loaded_of d.spells)

pub open_nothing : (o : Outcome) → o ≡ open_of 0 0 → o.store ≡ no_store
unfolding open_of
open_nothing o e = ap (λ (x : Outcome). x.store) e

-- ---- a file answered done

loaded_done : (o : Reading Case) → Checked o → (loaded_of o).reply ≡ Done → (s : Case) × (o ≡ whole s) × Sound s
unfolding Checked
loaded_done (whole s) p e = (s, refl, p)
loaded_done (refused f r) p e = absurd (eqb-false (number_of f) 0 p (ap number_of e))

-- it spells a sound case, and its store is that of all that the case holds
pub load_done : (l : List ℕ) → (load_of l).reply ≡ Done → (s : Case) × (case_of l ≡ whole s) × Sound s
unfolding load_of
load_done l e = loaded_done (case_of l) (case_checked l) e

pub load_store : (l : List ℕ) (s : Case) → case_of l ≡ whole s → load_of l ≡ recorded s.header.records (store_of no_store s.header.assumptions s.header.claims (held_by s))
unfolding load_of
load_store l s e = ap loaded_of e
