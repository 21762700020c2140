-- The functions of this crate, test by test. Assumes nothing.
use mathlib.Core.Bool.{Bool, ◌||◌, false, true}
use mathlib.Core.List.{[], ◌∷◌}
use mathlib.Core.Path.{◌∙◌, ◌≡◌, ap, refl, sym}
use Prim.Native.Nat.{◌<◌, ◌≤◌, ℕ}
use native.Mathlib.Decide.{dec_lt}
use native.Mathlib.Omega.{arith}
use lib.Dec.{leb, ltb}
use lib.ListN.{length, take}
use borrow.Author.Tests.{le-leb, lt-ltb, ltb-false}
use Rattle.bare.specs.Bare.{fault_of_item, just_of}
use Rattle.bare.specs.declared.Query.{Query}
use Rattle.handed.proofs.Supplied.{supplied_few}
use Rattle.handed.specs.Supplied.{supplied_by}
use Rattle.handed.specs.declared.Handed.{Handed}
use Rattle.replies.specs.Replies.{number_of}
use Rattle.replies.specs.declared.Reply.TheVariants.{Done, Supports}
use Rattle.rules.proofs.Laws.{canonical_fits, faultless_ranged}
use Rattle.rules.specs.Held.{entry_of, meaning}
use Rattle.rules.specs.Items.{fault_of, justification_of}
use Rattle.rules.specs.declared.Entry.{Entry}
use Rattle.theory.proofs.Lists.{all_intro, clash}
use Rattle.theory.specs.Limits.{limits, over_counts}
use Rattle.theory.specs.Lists.{all_of, choose}
use Rattle.theory.specs.Stages.{Justification}

-- ---- before the first item

module _ (q : Query) where
  pub counts_low : over_counts q.assumptions q.claims ≡ false → (q.assumptions ≤ limits.assumptions) × (q.claims ≤ limits.claims)
  counts_low e = go (ltb limits.assumptions q.assumptions) (ltb limits.claims q.claims) refl refl e
    where
      go : (a b : Bool) → ltb limits.assumptions q.assumptions ≡ a → ltb limits.claims q.claims ≡ b → a || b ≡ false → (q.assumptions ≤ limits.assumptions) × (q.claims ≤ limits.claims)
      go true b s t f = clash refl f
      go false true s t f = clash refl f
      go false false s t f = (ltb-false limits.assumptions q.assumptions s, ltb-false limits.claims q.claims t)

-- ---- one item

module _ (N : ℕ) (h : Handed) where
  pub fault_five : limits.supports < h.count → Supports ≡ fault_of_item N h
  unfolding supplied_by fault_of
  fault_five p = sym (ap (λ (b : Bool). fault_of N h.consequent (choose b (0 ∷ 0 ∷ 0 ∷ 0 ∷ 0 ∷ []) (take h.count h.supports))) (lt-ltb limits.supports h.count p))

  pub fault_few : h.count ≤ limits.supports → fault_of N h.consequent (take h.count h.supports) ≡ fault_of_item N h
  fault_few p = ap (fault_of N h.consequent) (supplied_few h p)

  module _ (d : fault_of_item N h ≡ Done) where
    pub few : h.count ≤ limits.supports
    few = elim (dec_lt limits.supports h.count) [
      | yes p ↦ absurd (six (ap number_of (fault_five p ∙ d)))
      | no p ↦ omega (arith, p)
    ]
      where
        six : number_of Supports ≡ number_of Done → ⊥
        six e = omega (arith, e)

    pub sound : fault_of N h.consequent (take h.count h.supports) ≡ Done
    sound = fault_few few ∙ d

    abbrev just : Justification
    just = justification_of N h.consequent (take h.count h.supports)

    pub low : h.consequent ≤ N
    low = (faultless_ranged N h.consequent (take h.count h.supports) sound).low

    module _ (e : Entry) (q : e ≡ entry_of just) where
      pub means : meaning e ≡ just_of N h
      means = ap meaning q ∙ (canonical_fits N h.consequent (take h.count h.supports) sound).1 ∙ ap (justification_of N h.consequent) (supplied_few h few)

      pub entry_fits : N ≤ limits.numbers → (e.count ≤ limits.supports) × (e.consequent ≤ limits.numbers) × (all_of (λ s. leb s limits.numbers) (meaning e).supports ≡ true)
      entry_fits p =
          let r = faultless_ranged N h.consequent (take h.count h.supports) sound in
          let m : meaning e ≡ just = ap meaning q ∙ (canonical_fits N h.consequent (take h.count h.supports) sound).1 in
          let c : e.count ≡ length just.supports = ap (λ (x : Entry). x.count) q in
          let k : e.consequent ≡ h.consequent = ap (λ (x : Entry). x.consequent) q in
          (omega (arith, c, r.few), omega (arith, k, r.low, p), ap (λ (x : Justification). all_of (λ s. leb s limits.numbers) x.supports) m ∙ all_intro (λ s. leb s limits.numbers) just.supports (λ s i. le-leb s limits.numbers (omega (arith, p, (r.between s i).1))))
