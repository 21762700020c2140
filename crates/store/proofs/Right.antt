-- The store of a set of justifications that is answered done has the right shape. Assumes nothing.
use mathlib.Core.Bool.{true}
use mathlib.Core.List.{List, Memᴰ as Mem}
use mathlib.Core.Path.{◌∙◌, ◌≡◌, ap, refl, subst, sym}
use Prim.Native.Nat.{◌+◌, ◌≤◌, ℕ}
use native.Mathlib.Omega.{arith}
use lib.ListN.{length}
use borrow.Author.Tests.{le-leb}
use Rattle.replies.specs.Replies.{number_of}
use Rattle.replies.specs.declared.Reply.TheVariants.{Done}
use Rattle.rules.proofs.Entries.{length_padded}
use Rattle.rules.proofs.Laws.{right_range}
use Rattle.rules.specs.Held.{held_of, held_right, said_by}
use Rattle.shape.proofs.Stage.{stage_right}
use Rattle.shape.specs.Shape.{lists_right}
use Rattle.stages.specs.Lists.{lists_of}
use Rattle.stages.specs.Steps.{Room}
use Rattle.store.specs.Calls.{of_verdict, store_of}
use Rattle.store.specs.Shape.{held_fits, right_shape}
use Rattle.store.specs.declared.Store.{Store}
use Rattle.theory.proofs.Depth.{Within, consequents_few}
use Rattle.theory.proofs.Judgement.{settled_stage, settled_told}
use Rattle.theory.proofs.Lists.{and_intro}
use Rattle.theory.specs.Judge.{Stage, Verdict, judge, label_over, nogoods_over, settled, stage_at}
use Rattle.theory.specs.Limits.{limits}
use Rattle.theory.specs.Stages.{Justification}

-- right shape, and as many places for nogoods as the limit
pub record Whole (s : Store) : Type 0 where
  pub right : right_shape s ≡ true
  pub places : length s.lists.nogoods ≡ limits.nogoods

module _ (A M : ℕ) (J : List Justification) (few : A ≤ limits.assumptions) (claims : M ≤ limits.claims) (fits : held_right (held_of A M J) ≡ true)
    (said : said_by (held_of A M J) ≡ J) where
  in_range_lem : Within (A + M) J
  unfolding held_of
  in_range_lem j m = (right_range (held_of A M J) fits j (subst (Mem j) (sym said) m)).low

  pub settled_right : (d : ℕ) (g : Stage) → judge limits A (A + M) J ≡ settled d g → Whole (record { held = held_of A M J; lists = lists_of d g })
  unfolding right_shape held_fits held_of lists_of
  settled_right d g e =
      let t = settled_told limits A (A + M) J d g e in
      let same : g ≡ stage_at A (A + M) J d = settled_stage limits A (A + M) J d g e in
      let low : d ≤ limits.numbers + 1 = omega (arith, t.1, consequents_few (A + M) J in_range_lem, few, claims) in
      let room : Room (stage_at A (A + M) J d) = record { few = t.4; short = t.5 } in
      record {
        right =
            and_intro (and_intro (le-leb A limits.assumptions few) (and_intro (le-leb M limits.claims claims) fits))
            (ap (λ (x : Stage). lists_right (lists_of d x) A (A + M)) same ∙ stage_right A (A + M) J d low room);
        places = length_padded 0 limits.nogoods g.nogoods;
      }

  verdict_right : (s : Store) (v : Verdict) → judge limits A (A + M) J ≡ v → (of_verdict s (held_of A M J) v).reply ≡ Done → Whole (of_verdict s (held_of A M J) v).store
  verdict_right s (settled d g) e z = settled_right d g e
  verdict_right s nogoods_over e z = let n : ◌≡◌ {A = ℕ} 9 0 = ap number_of z in absurd (omega arith)
  verdict_right s (label_over n) e z = let m : ◌≡◌ {A = ℕ} 8 0 = ap number_of z in absurd (omega arith)

  -- the store that a set of justifications gives, answered done
  pub stored_right : (s : Store) → (store_of s A M J).reply ≡ Done → Whole (store_of s A M J).store
  unfolding store_of
  stored_right s z = verdict_right s (judge limits A (A + M) J) refl z
