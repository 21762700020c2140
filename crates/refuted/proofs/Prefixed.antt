-- A load judged by prefixes is refuted: thirteen of the pairs of six assumptions are over as the label of 7, though a premise for 7 comes last in the file. Assumes nothing.
use mathlib.Core.Bool.{Bool, false, not, true}
use mathlib.Core.List.{List, [], ◌++◌, ◌∷◌}
use mathlib.Core.Path.{◌∙◌, ◌≡◌, ap, refl, sym}
use Prim.Native.Nat.{◌+◌, ℕ}
use Rattle.casefile.specs.Case.{Case, case_of, gathered, held_by, joined, records_from, whole}
use Rattle.casefile.specs.Load.{load_of}
use Rattle.casefile.specs.declared.Loaded.{Loaded}
use Rattle.items.specs.Items.{Item, header_from, numbers_from, record_from, unless}
use Rattle.numbers.specs.Numbers.{number_from}
use Rattle.promises.proofs.Form.{case_loaded}
use Rattle.promises.proofs.Truth.{demand_2}
use Rattle.promises.specs.Demand2.{Demand2}
use Rattle.refuted.specs.Wrong.{by_prefixes, prefixed, prefixes_of}
use Rattle.replies.specs.declared.Reply.{Reply}
use Rattle.replies.specs.declared.Reply.TheVariants.{Done}
use Rattle.rules.specs.Held.{held_of, put}
use Rattle.rules.specs.Items.{fault_of, justification_of, same_justification, set_of}
use Rattle.store.specs.Calls.{is_done, no_store, of_verdict, store_of}
use Rattle.theory.proofs.Lists.{clash}
use Rattle.theory.specs.Cases.{at, verdict}
use Rattle.theory.specs.Judge.{Verdict, judge, label_over}
use Rattle.theory.specs.Limits.{limits}
use Rattle.theory.specs.Lists.{choose}
use Rattle.theory.specs.Stages.{Justification, ahead, lesser}

-- ---- every prefix of a file so answered 0 is within the limits

done_only : (r : Reply) → r ≡ Done → is_done r ≡ false → ⊥
done_only r e h = clash (ap is_done e) h

module _ (A M : ℕ) where
  stands : (J : List Justification) (l : List Item) → (by_prefixes A M J l).reply ≡ Done → is_done (store_of no_store A M J).reply ≡ true
  unfolding by_prefixes
  stands J [] e = ap is_done e
  stands J (i ∷ l) e = go (is_done (store_of no_store A M J).reply) refl e
    where
      go : (b : Bool) → is_done (store_of no_store A M J).reply ≡ b
          → (choose (not b) (store_of no_store A M J) (by_prefixes A M (joined (justification_of (A + M) i.consequent i.supports) J) l)).reply ≡ Done → is_done (store_of no_store A M J).reply ≡ true
      go true h e = h
      go false h e = absurd (done_only (store_of no_store A M J).reply e h)

  prefix_stands : (J : List Justification) (l m : List Item) → (by_prefixes A M J (l ++ m)).reply ≡ Done → is_done (store_of no_store A M (gathered (A + M) J l)).reply ≡ true
  unfolding by_prefixes gathered
  prefix_stands J [] m e = stands J m e
  prefix_stands J (i ∷ l) m e = prefix_stands (joined (justification_of (A + M) i.consequent i.supports) J) l m (go (is_done (store_of no_store A M J).reply) refl e)
    where
      go : (b : Bool) → is_done (store_of no_store A M J).reply ≡ b
          → (choose (not b) (store_of no_store A M J) (by_prefixes A M (joined (justification_of (A + M) i.consequent i.supports) J) (l ++ m))).reply ≡ Done
          → (by_prefixes A M (joined (justification_of (A + M) i.consequent i.supports) J) (l ++ m)).reply ≡ Done
      go true h e = e
      go false h e = absurd (done_only (store_of no_store A M J).reply e h)

-- ---- the file: A=6, M=1, thirteen pairs for 7, then a premise for 7

abbrev pair_bytes : List ℕ → List ℕ
pair_bytes l =
    7 ∷ 2 ∷ 1 ∷ 2 ∷ 7 ∷ 2 ∷ 1 ∷ 3 ∷ 7 ∷ 2 ∷ 1 ∷ 4 ∷ 7 ∷ 2 ∷ 1 ∷ 5 ∷ 7 ∷ 2 ∷ 1 ∷ 6 ∷ 7 ∷ 2 ∷ 2 ∷ 3 ∷ 7 ∷ 2 ∷ 2 ∷ 4 ∷ 7 ∷ 2 ∷ 2 ∷ 5 ∷ 7 ∷ 2 ∷ 2 ∷ 6 ∷ 7 ∷ 2 ∷ 3 ∷ 4 ∷ 7 ∷ 2 ∷ 3 ∷ 5 ∷ 7 ∷ 2 ∷ 3 ∷ 6 ∷ 7 ∷ 2 ∷ 4 ∷ 5 ∷ l

abbrev bytes : List ℕ
bytes = 6 ∷ 1 ∷ 14 ∷ pair_bytes (7 ∷ 0 ∷ [])

abbrev pair : ℕ → ℕ → Item
pair a b = record { consequent = 7; supports = a ∷ b ∷ [] }

abbrev pairs : List Item
pairs = pair 1 2 ∷ pair 1 3 ∷ pair 1 4 ∷ pair 1 5 ∷ pair 1 6 ∷ pair 2 3 ∷ pair 2 4 ∷ pair 2 5 ∷ pair 2 6 ∷ pair 3 4 ∷ pair 3 5 ∷ pair 3 6 ∷ pair 4 5 ∷ []

abbrev premise : Item
premise = record { consequent = 7; supports = [] }

abbrev file : Case
file = record { header = record { assumptions = 6; claims = 1; records = 14 }; items = pairs ++ premise ∷ [] }

spells : case_of bytes ≡ whole file
unfolding case_of header_from number_from records_from record_from numbers_from unless verdict fault_of
spells = refl

-- its first thirteen records are over at stage 1; the whole has {} alone for 7
pairs_over : judge limits 6 7 (gathered 7 [] pairs) ≡ label_over 7
unfolding verdict gathered joined put set_of same_justification ahead lesser
pairs_over = refl

whole_settles : judge limits 6 7 (held_by file) ≡ at 1 [] ((1 ∷ []) ∷ (2 ∷ []) ∷ (4 ∷ []) ∷ (8 ∷ []) ∷ (16 ∷ []) ∷ (32 ∷ []) ∷ (0 ∷ []) ∷ [])
unfolding verdict gathered joined put set_of same_justification ahead lesser
whole_settles = refl

whole_done : (load_of bytes).reply ≡ Done
unfolding store_of
whole_done = ap (λ (o : Loaded). o.reply) (case_loaded bytes file spells) ∙ ap (λ (v : Verdict). (of_verdict no_store (held_of 6 1 (held_by file)) v).reply) whole_settles

pairs_refused : is_done (store_of no_store 6 1 (gathered 7 [] pairs)).reply ≡ false
unfolding store_of
pairs_refused = ap (λ (v : Verdict). is_done (of_verdict no_store (held_of 6 1 (gathered 7 [] pairs)) v).reply) pairs_over

pub judges_prefixes : Demand2 prefixed → ⊥
judges_prefixes d =
    let e : (prefixed.loading bytes).reply ≡ Done = (d.loads bytes file spells Done).1 ((demand_2.loads bytes file spells Done).0 whole_done) in
    clash (prefix_stands 6 1 [] pairs (premise ∷ []) (sym (ap (λ (o : Loaded). o.reply) (ap prefixes_of spells)) ∙ e)) pairs_refused
