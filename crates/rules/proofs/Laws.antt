-- What is held and what it says, each got back from the other. Assumes nothing.
use mathlib.Core.Bool.{Bool, ◌&&◌, false, true}
use mathlib.Core.List.Memᴰ
use mathlib.Core.List.Memᴰ.{head as here}
use mathlib.Core.List.Memᴰ.{tail as there}
use mathlib.Core.List.{List, Memᴰ as Mem, [], ◌∷◌, map}
use mathlib.Core.Logic.{⊎_elim}
use mathlib.Core.Path.{◌∙◌, ◌≡◌, ap, ap₂, refl, subst, sym}
use Prim.Native.Nat.{◌+◌, ◌<◌, ◌≤◌, suc, zero, ℕ}
use native.Mathlib.Nat.{zero-lt-suc}
use native.Mathlib.Omega.{arith}
use lib.Dec.{eqb, leb, ltb}
use lib.ListN.{drop, get_or, length, length-map, length-take, take}
use borrow.Author.Tests.{eqb-true, le-leb, leb-true, lt-ltb, ltb-true}
use Rattle.replies.specs.declared.Reply.TheVariants.{Done}
use Rattle.rules.proofs.Entries.{Small, entry_at, entry_fits, fits_elim, length_padded, meaning_entry, padded_spare, places, reread, said_many, unpadded, vacant_unused}
use Rattle.rules.proofs.Faults.{faultless}
use Rattle.rules.proofs.Scan.{right_elim, right_intro}
use Rattle.rules.proofs.Steps.{beyond}
use Rattle.rules.proofs.Taking.{first_few}
use Rattle.rules.specs.Held.{climbs, entry_of, fitting, held_of, held_right, meaning, ordered, said_by, unused_entry, vacant}
use Rattle.rules.specs.Items.{fault_of, justification_of, set_of}
use Rattle.rules.specs.declared.Entry.{Entry}
use Rattle.rules.specs.declared.Held.{Held}
use Rattle.theory.proofs.Listing.{below_elim}
use Rattle.theory.proofs.Lists.{all_elim, all_intro, and_intro, and_left, and_right, clash, not_so, some_elim, those_elim}
use Rattle.theory.proofs.Order.{below_sorted, sorted_head, sorted_tail, sorted_those}
use Rattle.theory.proofs.Places.{is_table}
use Rattle.theory.specs.Limits.{limits}
use Rattle.theory.specs.Lists.{all_of, numbers_below, some_of, sorted_by, those}
use Rattle.theory.specs.Places.{padded}
use Rattle.theory.specs.Stages.{Justification}

-- what is held in its right shape is what it says, as it is held
pub right_held : (h : Held) → held_right h ≡ true → h ≡ held_of h.assumptions h.claims (said_by h)
unfolding held_of padded
right_held h r =
    ap₂ (λ (n : ℕ) (l : List Entry). record { assumptions = h.assumptions; claims = h.claims; count = n; entries = l }) (sym (said_many h r))
    (is_table h.entries limits.held (λ i. get_or (map entry_of (said_by h)) i vacant) beyond (right_elim h r).long (λ i p. places h r i p ∙ sym (entry_at (said_by h) i)))

-- J as it is held says J
pub held_said : (A M : ℕ) (J : List Justification) → length J ≤ limits.held → ((j : Justification) → Mem j J → length j.supports ≤ limits.supports) → said_by (held_of A M J) ≡ J
unfolding held_of
held_said A M J few small =
    ap (λ (n : ℕ). map meaning (take n (padded vacant limits.held (map entry_of J)))) (sym (length-map J entry_of))
    ∙ ap (map meaning) (unpadded vacant limits.held (map entry_of J) (omega (arith, length-map J entry_of))) ∙ reread J small

-- ---- the range of what is held
pub climbs_between : (N p : ℕ) (l : List ℕ) → climbs N p l ≡ true → (s : ℕ) → Mem s l → (p < s) × (s ≤ N)
unfolding climbs
climbs_between N p [] e s m = elim m [ ]
climbs_between N p (x ∷ l) e s m =
    let a : p < x = ltb-true p x (and_left (ltb p x) (leb x N && climbs N x l) e) in
    let r : leb x N && climbs N x l ≡ true = and_right (ltb p x) (leb x N && climbs N x l) e in
    let b : x ≤ N = leb-true x N (and_left (leb x N) (climbs N x l) r) in
    ⊎_elim (λ (q : s ≡ x). (omega arith, omega arith))
    (λ k. let w = climbs_between N x l (and_right (leb x N) (climbs N x l) r) s k in (omega (arith, w.0), w.1)) (Memᴰ.cases_cons m)

-- a justification in range, N being A + M
pub record Ranged (N : ℕ) (j : Justification) : Type 0 where
  pub low : j.consequent ≤ N
  pub few : length j.supports ≤ limits.supports
  pub rising : climbs N 0 j.supports ≡ true
  pub foreign : some_of (eqb j.consequent) j.supports ≡ false
  pub between : (s : ℕ) → Mem s j.supports → (1 ≤ s) × (s ≤ N)

pub fitting_ranged : (N : ℕ) (e : Entry) → fitting N e ≡ true → Ranged N (meaning e)
fitting_ranged N e h =
    let f = fits_elim N e h in
    record {
      low = f.low;
      few = omega (arith, f.few, length-take e.count e.supports);
      rising = f.rising;
      foreign = f.foreign;
      between = climbs_between N 0 (take e.count e.supports) f.rising;
    }

mem_back : {X Y : Type 0} (f : X → Y) {y : Y} (l : List X) → Mem y (map f l) → (x : X) × Mem x l × (y ≡ f x)
mem_back f [] m = elim m [ ]
mem_back f (x ∷ l) m = ⊎_elim (λ e. (x, here refl, e)) (λ n. let r = mem_back f l n in (r.0, there r.1, r.2)) (Memᴰ.cases_cons m)

pub right_range : (h : Held) → held_right h ≡ true → (j : Justification) → Mem j (said_by h) → Ranged (h.assumptions + h.claims) j
right_range h r j m =
    let N : ℕ = h.assumptions + h.claims in
    let b = mem_back meaning (take h.count h.entries) m in
    subst (Ranged N) (sym b.2) (fitting_ranged N b.0 (all_elim (fitting N) (right_elim h r).fits b.1))

pub held_right_lem : (A M : ℕ) (J : List Justification) → length J ≤ limits.held → ((j : Justification) → Mem j J → Ranged (A + M) j) → ordered J ≡ true → held_right (held_of A M J) ≡ true
unfolding held_of
held_right_lem A M J few f o =
    let small : Small J = λ j m. (f j m).few in
    let e : length (map entry_of J) ≡ length J = length-map J entry_of in
    let P : List Entry = padded vacant limits.held (map entry_of J) in
    let first : take (length J) P ≡ map entry_of J = ap (λ (n : ℕ). take n P) (sym e) ∙ unpadded vacant limits.held (map entry_of J) (omega arith) in
    right_intro (held_of A M J)
    (record {
      few = few;
      long = length_padded vacant limits.held (map entry_of J);
      fits = ap (all_of (fitting (A + M))) first ∙ all_intro (fitting (A + M)) (map entry_of J)
          (λ x m.
          let b = mem_back entry_of J m in
          let r = f b.0 b.1 in
          ap (fitting (A + M)) b.2 ∙ entry_fits (A + M) b.0 r.low r.few r.rising r.foreign);
      order = ap ordered (held_said A M J few small) ∙ o;
      spare = ap (λ (n : ℕ). all_of unused_entry (drop n P)) (sym e) ∙ padded_spare unused_entry vacant limits.held (map entry_of J) vacant_unused;
    })

-- nothing held has the right shape
pub nothing_right : (A M : ℕ) → held_right (held_of A M []) ≡ true
unfolding ordered
nothing_right A M = held_right_lem A M [] (omega arith) (λ j m. elim m [ ]) refl

-- ---- the canonical form
climbs_sorted : (N p : ℕ) (l : List ℕ) → sorted_by ltb l ≡ true → ((s : ℕ) → Mem s l → (p < s) × (s ≤ N)) → climbs N p l ≡ true
unfolding climbs
climbs_sorted N p [] o f = refl
climbs_sorted N p (x ∷ l) o f =
    let w = f x (here refl) in
    and_intro (lt-ltb p x w.0)
    (and_intro (le-leb x N w.1) (climbs_sorted N x l (sorted_tail ltb x l o) (λ s m. (ltb-true x s (sorted_head ltb x o s m), (f s (there m)).1))))

-- an item without fault is in range
pub faultless_ranged : (N c : ℕ) (l : List ℕ) → fault_of N c l ≡ Done → Ranged N (justification_of N c l)
unfolding set_of
faultless_ranged N c l d =
    let k = faultless N c l d in
    let p : ℕ → Bool = λ n. some_of (eqb n) l in
    let between : (s : ℕ) → Mem s (those p (numbers_below (suc N))) → (0 < s) × (s ≤ N) = λ s m.
    let w = those_elim p (numbers_below (suc N)) m in
    (above s w.1 k.real, omega (arith, below_elim (suc N) w.0)) in
    let own : some_of (eqb c) (those p (numbers_below (suc N))) ≡ true → p c ≡ true = λ h.
    let w = some_elim (eqb c) (those p (numbers_below (suc N))) h in
    subst (λ (x : ℕ). p x ≡ true) (sym (eqb-true c w.0 w.2)) (those_elim p (numbers_below (suc N)) w.1).1 in
    record {
      low = k.low;
      few = omega (arith, k.small, first_few l (suc N));
      rising = climbs_sorted N 0 (those p (numbers_below (suc N))) (sorted_those ltb p (numbers_below (suc N)) (below_sorted (suc N))) between;
      foreign = not_so (some_of (eqb c) (those p (numbers_below (suc N)))) (λ h. clash (own h) k.foreign);
      between = between;
    }
  where
    above : (s : ℕ) → some_of (eqb s) l ≡ true → some_of (eqb 0) l ≡ false → 0 < s
    above zero h q = clash h q
    above (suc s) h q = zero-lt-suc s

pub canonical_fits : (N c : ℕ) (l : List ℕ) → fault_of N c l ≡ Done
    → (fitting N (entry_of (justification_of N c l)) ≡ true) × (meaning (entry_of (justification_of N c l)) ≡ justification_of N c l)
canonical_fits N c l d =
    let r = faultless_ranged N c l d in
    (entry_fits N (justification_of N c l) r.low r.few r.rising r.foreign, meaning_entry (justification_of N c l) r.few)
