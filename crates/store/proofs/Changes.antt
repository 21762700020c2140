-- One justification more, one less: what changing says of what is held, judged anew, is what adding and withdrawing answer. Assumes nothing.
use mathlib.Core.Bool.{Bool, false, not, true}
use mathlib.Core.List.{List}
use mathlib.Core.Logic.{⊎_elim}
use mathlib.Core.Path.{◌∙◌, ◌≡◌, ap, refl, subst, sym}
use Prim.Native.Nat.{◌<◌, ◌≤◌, ℕ}
use native.Mathlib.Omega.{arith}
use lib.Dec.{leb}
use lib.ListN.{length}
use borrow.Author.Tests.{eq-eqb, eqb-true, leb-false, ne_eqb, not-false}
use Rattle.changing.specs.Changing.{excluded, included, less_of, more_of, sifted}
use Rattle.std.specs.Prelude.{Err, Ok, Result}
use Rattle.rules.specs.declared.Held.{Held}
use Rattle.replies.proofs.Laws.{zero_done}
use Rattle.replies.specs.Replies.{number_of}
use Rattle.replies.specs.declared.Reply.{Reply}
use Rattle.replies.specs.declared.Reply.TheVariants.{Done}
use Rattle.holding.proofs.Dropping.{dropped_few, dropped_from}
use Rattle.rules.proofs.Entries.{said_many}
use Rattle.rules.proofs.Laws.{canonical_fits, fitting_ranged, held_said, right_range}
use Rattle.holding.proofs.Laws.{dropped_right, put_right}
use Rattle.holding.proofs.Putting.{put_cases, put_length}
use Rattle.rules.proofs.Scan.{right_elim}
use Rattle.rules.specs.Held.{dropped, entry_of, fitting, held_of, held_right, meaning, put, said_by}
use Rattle.rules.specs.Items.{fault_of, justification_of, same_justification}
use Rattle.rules.specs.declared.Entry.{Entry}
use Rattle.store.proofs.Judging.{anew_stored}
use Rattle.store.proofs.Shapes.{Fitting, shape_elim}
use Rattle.store.specs.Calls.{add_of, after_of, answer, checked_of, else_kept, is_done, joined_by, judged_of, parted_from, withdraw_of}
use Rattle.store.specs.Shape.{right_shape, top}
use Rattle.store.specs.declared.Outcome.{Outcome}
use Rattle.store.specs.declared.Store.{Store}
use Rattle.theory.specs.Lists.{choose, some_of}
use Rattle.theory.specs.Stages.{Justification}
use Rattle.theory.specs.Limits.{limits}

through : {X Y : Type 0} (f : X → Y) (b : Bool) {x y : X} {x' y' : Y} → (b ≡ true → f x ≡ x') → (b ≡ false → f y ≡ y') → f (choose b x y) ≡ choose b x' y'
through f true p q = p refl
through f false p q = q refl

-- ---- the store after a change, test by test

module _ (s : Store) where
  pub after_refused : (r : Reply) → answer r s ≡ after_of s (Err r)
  unfolding after_of
  after_refused r = refl

  module _ (h : Held) (o : Outcome) (e : o ≡ judged_of h) where
    kept : else_kept s o ≡ after_of s (Ok h)
    unfolding after_of
    kept = ap (else_kept s) e

    pub after_stages : (number_of o.reply ≡ 0 → ⊥) → answer o.reply s ≡ after_of s (Ok h)
    after_stages f = sym (ap (λ (b : Bool). choose b o (answer o.reply s)) (ne_eqb (number_of o.reply) 0 f)) ∙ kept

    pub after_done : number_of o.reply ≡ 0 → o ≡ after_of s (Ok h)
    after_done d = sym (ap (λ (b : Bool). choose b o (answer o.reply s)) (eq-eqb (number_of o.reply) 0 d)) ∙ kept

-- ---- adding and withdrawing

module _ (s : Store) (t : right_shape s ≡ true) where
  abbrev A : ℕ
  A = s.held.assumptions

  abbrev M : ℕ
  M = s.held.claims

  abbrev J : List Justification
  J = said_by s.held

  fit : Fitting s.held
  fit = (shape_elim s t).0

  -- K, as it is held, has the right shape and says K
  pub record Holdable (K : List Justification) : Type 0 where
    pub right : held_right (held_of A M K) ≡ true
    pub said : said_by (held_of A M K) ≡ K

  module _ (e : Entry) (f : fitting (top s.held) e ≡ true) (n : some_of (same_justification (meaning e)) J ≡ false) (k : s.held.count < limits.held) where
    entered : Holdable (put (meaning e) J)
    entered = record {
      right = put_right s.held e fit.right k f n;
      said =
          held_said A M (put (meaning e) J) (omega (arith, put_length (meaning e) J, said_many s.held fit.right))
          (λ j m. ⊎_elim (λ (q : j ≡ meaning e). subst (λ (i : Justification). length i.supports ≤ limits.supports) (sym q) (fitting_ranged (top s.held) e f).few) (λ i. (right_range s.held fit.right j i).few) (put_cases (meaning e) J m));
    }

  -- those held without j
  smaller : (j : Justification) → Holdable (dropped j J)
  smaller j = record {
    right = dropped_right s.held j fit.right;
    said =
        held_said A M (dropped j J) (omega (arith, dropped_few j J, said_many s.held fit.right, (right_elim s.held fit.right).few))
        (λ i m. (right_range s.held fit.right i (dropped_from j J m)).few);
  }

  module _ (c : ℕ) (l : List ℕ) where
    abbrev j : Justification
    j = justification_of (top s.held) c l

    abbrev fault : Reply
    fault = fault_of (top s.held) c l

    -- those held with j, an item without fault
    pub larger : fault ≡ Done → some_of (same_justification j) J ≡ false → s.held.count < limits.held → Holdable (put j J)
    larger d n k =
        let p = canonical_fits (top s.held) c l d in
        subst (λ (i : Justification). some_of (same_justification i) J ≡ false → Holdable (put i J)) p.1 (λ m. entered (entry_of j) p.0 m k) n

    -- the fault, or what is done with the item
    after_sifted : (go : Justification → Outcome) (by : Justification → Result Held Reply) → (fault ≡ Done → after_of s (by j) ≡ go j) → after_of s (sifted (top s.held) c l by) ≡ checked_of s c l go
    after_sifted go by e =
        rw t
        (through (after_of s) (not (is_done fault)) (λ _. sym (after_refused s fault)) (λ q. e (zero_done fault (eqb-true (number_of fault) 0 (not-false (is_done fault) q)))))

    after_more : fault ≡ Done → after_of s (included s.held j) ≡ joined_by s j
    unfolding after_of included joined_by
    after_more d =
        through (after_of s) (some_of (same_justification j) J) (λ _. refl)
        (λ n. through (after_of s) (leb limits.held s.held.count) (λ _. refl)
        (λ k. let w = larger d n (leb-false limits.held s.held.count k) in anew_stored s (put j J) fit w.right w.said))

    after_less : after_of s (excluded s.held j) ≡ parted_from s j
    unfolding after_of excluded parted_from
    after_less = through (after_of s) (not (some_of (same_justification j) J)) (λ _. refl) (λ _. let w = smaller j in anew_stored s (dropped j J) fit w.right w.said)

    pub more_added : after_of s (more_of s.held c l) ≡ add_of s c l
    unfolding more_of add_of
    more_added = after_sifted (joined_by s) (included s.held) after_more

    pub less_withdrawn : after_of s (less_of s.held c l) ≡ withdraw_of s c l
    unfolding less_of withdraw_of
    less_withdrawn = after_sifted (parted_from s) (excluded s.held) (λ _. after_less)
