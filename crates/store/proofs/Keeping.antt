-- A store of right shape keeps it, whatever is added. Assumes nothing.
use mathlib.Core.Bool.{Bool, false, not, true}
use mathlib.Core.List.{List}
use mathlib.Core.Path.{◌≡◌, refl}
use Prim.Native.Nat.{◌+◌, ℕ}
use lib.Dec.{leb}
use borrow.Author.Tests.{eqb-true, leb-false, not-false}
use Rattle.replies.proofs.Laws.{zero_done}
use Rattle.replies.specs.Replies.{number_of}
use Rattle.replies.specs.declared.Reply.{Reply}
use Rattle.replies.specs.declared.Reply.TheVariants.{Already, Done, Full, Shape}
use Rattle.rules.specs.Held.{held_of, held_right, put, said_by}
use Rattle.rules.specs.Items.{fault_of, justification_of, same_justification}
use Rattle.store.proofs.Changes.{larger}
use Rattle.store.proofs.Right.{settled_right}
use Rattle.store.proofs.Shapes.{Fitting, shape_elim}
use Rattle.store.specs.Calls.{add_of, answer, is_done, joined_by, of_verdict, store_of}
use Rattle.store.specs.Shape.{right_shape}
use Rattle.store.specs.declared.Outcome.{Outcome}
use Rattle.store.specs.declared.Store.{Store}
use Rattle.theory.specs.Judge.{Verdict, judge, label_over, nogoods_over, settled}
use Rattle.theory.specs.Limits.{limits}
use Rattle.theory.specs.Lists.{choose, some_of}
use Rattle.theory.specs.Stages.{Justification}

abbrev Right : Outcome → Type 0
Right o = right_shape o.store ≡ true

either : (b : Bool) (x y : Outcome) → (b ≡ true → Right x) → (b ≡ false → Right y) → Right (choose b x y)
either true x y f g = f refl
either false x y f g = g refl

done_fault : (r : Reply) → not (is_done r) ≡ false → r ≡ Done
done_fault r q = zero_done r (eqb-true (number_of r) 0 (not-false (is_done r) q))

module _ (s : Store) (right : right_shape s ≡ true) where
  abbrev A : ℕ
  A = s.held.assumptions

  abbrev M : ℕ
  M = s.held.claims

  abbrev J : List Justification
  J = said_by s.held

  fit : Fitting s.held
  fit = (shape_elim s right).0

  -- the store of another set, where it is answered done; else s
  module _ (K : List Justification) (held : held_right (held_of A M K) ≡ true) (said : said_by (held_of A M K) ≡ K) where
    stored : Right (store_of s A M K)
    unfolding store_of
    stored = go (judge limits A (A + M) K) refl
      where
        go : (v : Verdict) → judge limits A (A + M) K ≡ v → Right (of_verdict s (held_of A M K) v)
        go (settled d g) e = (settled_right A M K fit.few fit.claims held said d g e).right
        go nogoods_over e = right
        go (label_over n) e = right

  module _ (c : ℕ) (l : List ℕ) where
    abbrev j : Justification
    j = justification_of (A + M) c l

    abbrev x : Reply
    x = fault_of (A + M) c l

    join_right : x ≡ Done → Right (joined_by s j)
    unfolding joined_by
    join_right d =
        either (some_of (same_justification j) J) (answer Already s) (choose (leb limits.held s.held.count) (answer Full s) (store_of s A M (put j J))) (λ _. right)
        (λ new. either (leb limits.held s.held.count) (answer Full s) (store_of s A M (put j J)) (λ _. right)
        (λ k. let w = larger s right c l d new (leb-false limits.held s.held.count k) in stored (put j J) w.right w.said))

    pub add_right : Right (add_of s c l)
    unfolding add_of
    add_right =
        either (not (right_shape s)) (answer Shape s) (choose (not (is_done x)) (answer x s) (joined_by s j)) (λ _. right)
        (λ _. either (not (is_done x)) (answer x s) (joined_by s j) (λ _. right) (λ f. join_right (done_fault x f)))
