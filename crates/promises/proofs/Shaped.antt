-- A store has the right shape exactly when every clause of document 01 holds of its places. Assumes nothing.
use mathlib.Core.Bool.{Bool, ◌&&◌, ◌||◌, false, not, true}
use mathlib.Core.List.{List, [], ◌∷◌, map}
use mathlib.Core.Logic.{◌↔◌, inl, inr, ⊎_elim}
use mathlib.Core.Path.{◌∙◌, ◌≡◌, ap, ap₂, refl, subst, sym}
use Prim.Native.Nat.{◌*◌, ◌+◌, ◌-◌, ◌<◌, ◌≤◌, suc, zero, ℕ}
use native.Mathlib.Nat.{not-suc-le-zero}
use native.Mathlib.Omega.{arith}
use lib.Dec.{eqb, leb, ltb}
use lib.ListN.{get_or-map, drop, get_or, length, length-drop, take}
use lib.Seq.{get_or-drop, get_or-take, length-take-le}
use borrow.Author.Tests.{eq-eqb, eqb-true, le-leb, leb-true, lt-ltb, ltb-true, not-true}
use Rattle.promises.specs.Shaped.{Ahead, Earlier, EntrySays, HeldSays, ListSays, ListsSay, Precedes, ShapeSays}
use Rattle.rules.proofs.Entries.{fits_elim as entry-elim, fits_intro, vacant_again, vacant_unused}
use Rattle.rules.proofs.Order.{ordered_cons, ordered_head, ordered_tail}
use Rattle.rules.proofs.Scan.{right_elim, right_intro}
use Rattle.rules.proofs.Steps.{all_at, all_places}
use Rattle.rules.specs.Held.{climbs, fitting, meaning, ordered, said_by, unused_entry, vacant}
use Rattle.rules.specs.declared.Entry.{Entry}
use Rattle.rules.specs.declared.Held.{Held}
use Rattle.sets.proofs.Membership.{range_members, within_members}
use Rattle.shape.proofs.Elim.{Listed, lists_elim, lists_intro}
use Rattle.shape.specs.Shape.{apart, lists_right}
use Rattle.stages.specs.declared.Lists.{Lists}
use Rattle.store.proofs.Shapes.{fits_elim}
use Rattle.store.specs.Shape.{held_fits, right_shape, top}
use Rattle.store.specs.declared.Store.{Store}
use Rattle.theory.proofs.Lists.{all_elim, all_intro, and_intro, and_left, and_right, clash, not_so, or_cases, or_left, or_right}
use Rattle.theory.proofs.Order.{before_elim, before_fewer, before_less}
use Rattle.theory.specs.Limits.{limits}
use Rattle.theory.specs.Lists.{all_of, some_of, sorted_by}
use Rattle.theory.specs.Sets.{before, in_range, within}
use Rattle.theory.specs.Stages.{Justification, ahead, lesser}

-- ---- tests over places

module _ {X : Type 0} (R : X → X → Bool) (z : X) where
  sorted_at : (l : List X) → sorted_by R l ≡ true → (i j : ℕ) → i < j → j < length l → R (get_or l i z) (get_or l j z) ≡ true
  unfolding sorted_by
  sorted_at [] s i j p q = absurd (not-suc-le-zero q)
  sorted_at (x ∷ l) s i zero p q = absurd (not-suc-le-zero p)
  sorted_at (x ∷ l) s zero (suc j) p q = all_at (R x) l j z (and_left (all_of (R x) l) (sorted_by R l) s) (omega arith)
  sorted_at (x ∷ l) s (suc i) (suc j) p q = sorted_at l (and_right (all_of (R x) l) (sorted_by R l) s) i j (omega arith) (omega arith)

  sorted_places : (l : List X) → ((i j : ℕ) → i < j → j < length l → R (get_or l i z) (get_or l j z) ≡ true) → sorted_by R l ≡ true
  unfolding sorted_by
  sorted_places [] f = refl
  sorted_places (x ∷ l) f = and_intro (all_places (R x) l z (λ j q. f 0 (suc j) (omega arith) (omega arith))) (sorted_places l (λ i j p q. f (suc i) (suc j) (omega arith) (omega arith)))

-- from place n on
module _ {X : Type 0} (p : X → Bool) (l : List X) (n : ℕ) (z : X) where
  rest_at : all_of p (drop n l) ≡ true → (i : ℕ) → n ≤ i → i < length l → p (get_or l i z) ≡ true
  rest_at h i a b =
      let e : n + (i - n) ≡ i = omega arith in
      ap (λ (k : ℕ). p (get_or l k z)) (sym e) ∙ ap p (sym (get_or-drop n l (i - n) z)) ∙ all_at p (drop n l) (i - n) z h (omega (arith, length-drop n l))

  rest_places : ((i : ℕ) → n ≤ i → i < length l → p (get_or l i z) ≡ true) → all_of p (drop n l) ≡ true
  rest_places f = all_places p (drop n l) z (λ i h. ap p (get_or-drop n l i z) ∙ f (n + i) (omega arith) (omega (arith, length-drop n l)))

-- ---- a list of sets

apart_elim : (F E : ℕ) → apart F E ≡ true → (before F E ≡ true) × (within F E ≡ false) × (within E F ≡ false)
unfolding apart
apart_elim F E h =
    let r = and_right (before F E) (not (within F E) && not (within E F)) h in
    (and_left (before F E) _ h, not-true (within F E) (and_left (not (within F E)) (not (within E F)) r), not-true (within E F) (and_right (not (within F E)) (not (within E F)) r))

apart_intro : (F E : ℕ) → before F E ≡ true → within F E ≡ false → within E F ≡ false → apart F E ≡ true
unfolding apart
apart_intro F E b n m = and_intro b (and_intro (ap not n) (ap not m))

precedes_before : (F E : ℕ) → Precedes F E → before F E ≡ true
precedes_before F E p = ⊎_elim (before_fewer F E) (λ b. before_less F E b.0 b.1) p

module _ (A count : ℕ) (places : List ℕ) where
  list_says : Listed A count places → ListSays A count places
  list_says l =
      let long : length (take count places) ≡ count = length-take-le count places l.few in
      let pair : (i j : ℕ) → i < j → j < count → (before (get_or places i 0) (get_or places j 0) ≡ true) × (within (get_or places i 0) (get_or places j 0) ≡ false) × (within (get_or places j 0) (get_or places i 0) ≡ false) = λ i j p q.
      apart_elim (get_or places i 0) (get_or places j 0)
      (sym (ap₂ (λ (F E : ℕ). apart F E) (get_or-take count places i 0 (omega arith)) (get_or-take count places j 0 q)) ∙ sorted_at apart 0 (take count places) l.sorted i j p (omega (arith, long))) in
      record {
        few = l.few;
        order = λ i j p q. before_elim (get_or places i 0) (get_or places j 0) (pair i j p q).0;
        apart = λ i j p q. (
          λ f. clash ((within_members (get_or places i 0) (get_or places j 0)).1 f) (pair i j p q).1,
          λ f. clash ((within_members (get_or places j 0) (get_or places i 0)).1 f) (pair i j p q).2,
        );
        low = λ i k p m.
            (range_members A (get_or places i 0)).0 (sym (ap (in_range A) (get_or-take count places i 0 p)) ∙ all_at (in_range A) (take count places) i 0 l.low (omega (arith, long))) k m;
        spare = λ i p q. sym (eqb-true 0 (get_or places i 0) (rest_at (eqb 0) places count 0 l.spare i p q));
      }

  list_right : ListSays A count places → Listed A count places
  list_right l =
      let long : length (take count places) ≡ count = length-take-le count places l.few in
      record {
        few = l.few;
        sorted = sorted_places apart 0 (take count places) (λ i j p q.
            let b : j < count = omega (arith, long) in
            let F : ℕ = get_or places i 0 in
            let E : ℕ = get_or places j 0 in
            ap₂ (λ (x y : ℕ). apart x y) (get_or-take count places i 0 (omega arith)) (get_or-take count places j 0 b)
            ∙ apart_intro F E (precedes_before F E (l.order i j p b)) (not_so (within F E) (λ w. (l.apart i j p b).0 ((within_members F E).0 w))) (not_so (within E F) (λ w. (l.apart i j p b).1 ((within_members E F).0 w))));
        low = all_places (in_range A) (take count places) 0 (λ i q.
            let b : i < count = omega (arith, long) in
            ap (in_range A) (get_or-take count places i 0 b) ∙ (range_members A (get_or places i 0)).1 (λ k m. l.low i k b m));
        spare = rest_places (eqb 0) places count 0 (λ i p q. eq-eqb 0 (get_or places i 0) (sym (l.spare i p q)));
      }

module _ (l : Lists) (A N : ℕ) where
  lists_say : lists_right l A N ≡ true → ListsSay A N l
  lists_say r =
      let t = lists_elim l A N r in
      record {
        labels = λ i h. list_says A (get_or l.sizes i 0) (take limits.label (drop (limits.label * i) l.members)) (t.label i h);
        above = λ i p q. sym (eqb-true 0 (get_or l.sizes i 0) (rest_at (eqb 0) l.sizes N 0 t.spare i p q));
        nogoods = list_says A l.count l.nogoods t.nogoods;
        depth = t.depth;
      }

  lists_right_lem : ListsSay A N l → lists_right l A N ≡ true
  lists_right_lem t =
      lists_intro l A N
      (record {
        depth = t.depth;
        label = λ i h. list_right A (get_or l.sizes i 0) (take limits.label (drop (limits.label * i) l.members)) (t.labels i h);
        spare = rest_places (eqb 0) l.sizes N 0 (λ i p q. eq-eqb 0 (get_or l.sizes i 0) (sym (t.above i p q)));
        nogoods = list_right A l.count l.nogoods t.nogoods;
      })

-- ---- rising supports

climbs_at : (N p : ℕ) (l : List ℕ) → climbs N p l ≡ true → (i : ℕ) → i < length l → (p < get_or l i 0) × (get_or l i 0 ≤ N)
unfolding climbs
climbs_at N p [] h i q = absurd (not-suc-le-zero q)
climbs_at N p (x ∷ l) h zero q =
    let r = and_right (ltb p x) (leb x N && climbs N x l) h in
    (ltb-true p x (and_left (ltb p x) _ h), leb-true x N (and_left (leb x N) _ r))
climbs_at N p (x ∷ l) h (suc i) q =
    let r = and_right (ltb p x) (leb x N && climbs N x l) h in
    let b = climbs_at N x l (and_right (leb x N) (climbs N x l) r) i (omega arith) in
    (omega (arith, b.0, ltb-true p x (and_left (ltb p x) _ h)), b.1)

climbs_rise : (N p : ℕ) (l : List ℕ) → climbs N p l ≡ true → (i j : ℕ) → i < j → j < length l → get_or l i 0 < get_or l j 0
unfolding climbs
climbs_rise N p [] h i j a b = absurd (not-suc-le-zero b)
climbs_rise N p (x ∷ l) h i zero a b = absurd (not-suc-le-zero a)
climbs_rise N p (x ∷ l) h zero (suc j) a b =
    (climbs_at N x l (and_right (leb x N) (climbs N x l) (and_right (ltb p x) (leb x N && climbs N x l) h)) j (omega arith)).0
climbs_rise N p (x ∷ l) h (suc i) (suc j) a b =
    climbs_rise N x l (and_right (leb x N) (climbs N x l) (and_right (ltb p x) (leb x N && climbs N x l) h)) i j (omega arith) (omega arith)

climbs_by : (N p : ℕ) (l : List ℕ) → ((i : ℕ) → i < length l → (p < get_or l i 0) × (get_or l i 0 ≤ N)) → ((i j : ℕ) → i < j → j < length l → get_or l i 0 < get_or l j 0) → climbs N p l ≡ true
unfolding climbs
climbs_by N p [] f g = refl
climbs_by N p (x ∷ l) f g =
    let b = f 0 (omega arith) in
    and_intro (lt-ltb p x b.0)
    (and_intro (le-leb x N b.1) (climbs_by N x l (λ i q. (g 0 (suc i) (omega arith) (omega arith), (f (suc i) (omega arith)).1)) (λ i j a q. g (suc i) (suc j) (omega arith) (omega arith))))

-- c is at no place of the list
none_at : (c : ℕ) (l : List ℕ) → some_of (eqb c) l ≡ false → (p : ℕ) → p < length l → get_or l p 0 ≡ c → ⊥
unfolding some_of
none_at c [] h p q e = not-suc-le-zero q
none_at c (x ∷ l) h zero q e = clash (or_left (some_of (eqb c) l) (eq-eqb c x (sym e))) h
none_at c (x ∷ l) h (suc p) q e = none_at c l (not_so (some_of (eqb c) l) (λ t. clash (or_right (eqb c x) t) h)) p (omega arith) e

none_by : (c : ℕ) (l : List ℕ) → ((p : ℕ) → p < length l → get_or l p 0 ≡ c → ⊥) → some_of (eqb c) l ≡ false
unfolding some_of
none_by c [] f = refl
none_by c (x ∷ l) f =
    not_so (eqb c x || some_of (eqb c) l)
    (λ h. ⊎_elim (λ a. f 0 (omega arith) (sym (eqb-true c x a))) (λ b. clash b (none_by c l (λ p q. f (suc p) (omega arith)))) (or_cases (eqb c x) (some_of (eqb c) l) h))

module _ (N : ℕ) (e : Entry) where
  entry_says : fitting N e ≡ true → EntrySays N e
  entry_says h =
      let f = entry-elim N e h in
      let l : List ℕ = take e.count e.supports in
      let long : length l ≡ e.count = length-take-le e.count e.supports (omega (arith, f.few, f.long)) in
      record {
        consequent = f.low;
        few = f.few;
        places = f.long;
        real = λ p q. subst (λ (x : ℕ). (0 < x) × (x ≤ N)) (get_or-take e.count e.supports p 0 q) (climbs_at N 0 l f.rising p (omega (arith, long)));
        rising = λ p q a b.
            subst (λ (x : ℕ). x < get_or e.supports q 0) (get_or-take e.count e.supports p 0 (omega arith))
            (subst (λ (y : ℕ). get_or l p 0 < y) (get_or-take e.count e.supports q 0 b) (climbs_rise N 0 l f.rising p q a (omega (arith, long))));
        foreign = λ p q h. none_at e.consequent l f.foreign p (omega (arith, long)) (get_or-take e.count e.supports p 0 q ∙ h);
        spare = λ p a b. sym (eqb-true 0 (get_or e.supports p 0) (rest_at (eqb 0) e.supports e.count 0 f.spare p a (omega (arith, f.long))));
      }

  entry_right : EntrySays N e → fitting N e ≡ true
  entry_right f =
      let l : List ℕ = take e.count e.supports in
      let long : length l ≡ e.count = length-take-le e.count e.supports (omega (arith, f.few, f.places)) in
      let at : (p : ℕ) → p < e.count → get_or l p 0 ≡ get_or e.supports p 0 = λ p q. get_or-take e.count e.supports p 0 q in
      fits_intro N e
      (record {
        low = f.consequent;
        few = f.few;
        rising = climbs_by N 0 l (λ i q. subst (λ (x : ℕ). (0 < x) × (x ≤ N)) (sym (at i (omega (arith, long)))) (f.real i (omega (arith, long))))
            (λ i j a b.
            subst (λ (x : ℕ). x < get_or l j 0) (sym (at i (omega (arith, long)))) (subst (λ (y : ℕ). get_or e.supports i 0 < y) (sym (at j (omega (arith, long)))) (f.rising i j a (omega (arith, long)))));
        foreign = none_by e.consequent l (λ p q h. f.foreign p (omega (arith, long)) (sym (at p (omega (arith, long))) ∙ h));
        long = f.places;
        spare = rest_places (eqb 0) e.supports e.count 0 (λ p a b. eq-eqb 0 (get_or e.supports p 0) (sym (f.spare p a (omega (arith, f.places)))));
      })

-- ---- the order of justifications

earlier_cons : (x : ℕ) (l m : List ℕ) → Earlier l m → Earlier (x ∷ l) (x ∷ m)
earlier_cons x l m w = record { place = suc w.place; inside = omega (arith, w.inside); same = before_place; less = w.less }
  where
    before_place : (q : ℕ) → q < suc w.place → get_or (x ∷ l) q 0 ≡ get_or (x ∷ m) q 0
    before_place zero p = refl
    before_place (suc q) p = w.same q (omega arith)

lesser_earlier : (l m : List ℕ) → length l ≡ length m → lesser l m ≡ true → Earlier l m
unfolding lesser
lesser_earlier [] [] n h = clash h refl
lesser_earlier (x ∷ l) [] n h = clash h refl
lesser_earlier [] (y ∷ m) n h = absurd (omega arith)
lesser_earlier (x ∷ l) (y ∷ m) n h =
    ⊎_elim (λ a. record { place = 0; inside = omega arith; same = λ q p. absurd (not-suc-le-zero p); less = ltb-true x y a })
    (λ b.
    let e : x ≡ y = eqb-true x y (and_left (eqb x y) (lesser l m) b) in
    subst (λ (v : ℕ). Earlier (x ∷ l) (v ∷ m)) e (earlier_cons x l m (lesser_earlier l m (omega arith) (and_right (eqb x y) (lesser l m) b))))
    (or_cases (ltb x y) (eqb x y && lesser l m) h)

earlier_lesser : (l m : List ℕ) → length l ≡ length m → (k : ℕ) → k < length l → ((q : ℕ) → q < k → get_or l q 0 ≡ get_or m q 0) → get_or l k 0 < get_or m k 0 → lesser l m ≡ true
unfolding lesser
earlier_lesser [] m n k h s t = absurd (not-suc-le-zero h)
earlier_lesser (x ∷ l) [] n k h s t = absurd (omega arith)
earlier_lesser (x ∷ l) (y ∷ m) n zero h s t = or_left (eqb x y && lesser l m) (lt-ltb x y t)
earlier_lesser (x ∷ l) (y ∷ m) n (suc k) h s t =
    or_right (ltb x y) (and_intro (eq-eqb x y (s 0 (omega arith))) (earlier_lesser l m (omega arith) k (omega arith) (λ q p. s (suc q) (omega arith)) t))

module _ (d e : Entry) (n : length (take d.count d.supports) ≡ d.count) (m : length (take e.count e.supports) ≡ e.count) where
  abbrev l : List ℕ
  l = take d.count d.supports

  abbrev k : List ℕ
  k = take e.count e.supports

  ahead_says : ahead (meaning d) (meaning e) ≡ true → Ahead d e
  unfolding ahead
  ahead_says h =
      let c : Bool = eqb d.consequent e.consequent in
      let f : Bool = eqb (length l) (length k) in
      let rest : Bool = ltb (length l) (length k) || (f && lesser l k) in
      ⊎_elim (λ a. inl (ltb-true d.consequent e.consequent a))
      (λ b. inr (
        eqb-true d.consequent e.consequent (and_left c rest b),
        ⊎_elim (λ x. inl (omega (arith, ltb-true (length l) (length k) x)))
            (λ y.
            let g : length l ≡ length k = eqb-true (length l) (length k) (and_left f (lesser l k) y) in
            inr (omega arith, lesser_earlier l k g (and_right f (lesser l k) y)))
            (or_cases (ltb (length l) (length k)) (f && lesser l k) (and_right c rest b)),
      ))
      (or_cases (ltb d.consequent e.consequent) (c && rest) h)

  says_ahead : Ahead d e → ahead (meaning d) (meaning e) ≡ true
  unfolding ahead
  says_ahead w =
      let c : Bool = eqb d.consequent e.consequent in
      let f : Bool = eqb (length l) (length k) in
      ⊎_elim (λ a. or_left (c && (ltb (length l) (length k) || (f && lesser l k))) (lt-ltb d.consequent e.consequent a))
      (λ b. or_right (ltb d.consequent e.consequent) (and_intro (eq-eqb d.consequent e.consequent b.0)
      (⊎_elim (λ x. or_left (f && lesser l k) (lt-ltb (length l) (length k) (omega arith)))
      (λ y.
      let g : length l ≡ length k = omega (arith, y.0) in
      or_right (ltb (length l) (length k)) (and_intro (eq-eqb (length l) (length k) g) (earlier_lesser l k g y.1.place y.1.inside y.1.same y.1.less)))
      b.1)))
      w

ordered_sorted : (J : List Justification) → ordered J ≡ true → sorted_by ahead J ≡ true
unfolding sorted_by
ordered_sorted [] h = refl
ordered_sorted (j ∷ J) h = and_intro (all_intro (ahead j) J (ordered_head j J h)) (ordered_sorted J (ordered_tail j J h))

sorted_ordered : (J : List Justification) → sorted_by ahead J ≡ true → ordered J ≡ true
unfolding sorted_by ordered
sorted_ordered [] h = refl
sorted_ordered (j ∷ J) h = ordered_cons j J (λ i m. all_elim (ahead j) (and_left (all_of (ahead j) J) (sorted_by ahead J) h) m) (sorted_ordered J (and_right (all_of (ahead j) J) (sorted_by ahead J) h))

-- ---- what is held

module _ (h : Held) where
  abbrev N : ℕ
  N = h.assumptions + h.claims

  abbrev entry : ℕ → Entry
  entry i = get_or h.entries i vacant

  module _ (inside : h.count ≤ length h.entries) where
    said : (i : ℕ) → i < h.count → get_or (said_by h) i (meaning vacant) ≡ meaning (entry i)
    said i p = get_or-map meaning (take h.count h.entries) i vacant ∙ ap meaning (get_or-take h.count h.entries i vacant p)

    used : all_of (fitting N) (take h.count h.entries) ≡ true → (i : ℕ) → i < h.count → fitting N (entry i) ≡ true
    used f i p =
        sym (ap (fitting N) (get_or-take h.count h.entries i vacant p))
        ∙ all_at (fitting N) (take h.count h.entries) i vacant f (omega (arith, length-take-le h.count h.entries inside))

    all_used : ((i : ℕ) → i < h.count → fitting N (entry i) ≡ true) → all_of (fitting N) (take h.count h.entries) ≡ true
    all_used f =
        all_places (fitting N) (take h.count h.entries) vacant (λ i q.
        let b : i < h.count = omega (arith, length-take-le h.count h.entries inside) in
        ap (fitting N) (get_or-take h.count h.entries i vacant b) ∙ f i b)

    said_many : length (said_by h) ≡ h.count
    said_many = length_mapped meaning (take h.count h.entries) ∙ length-take-le h.count h.entries inside
      where
        length_mapped : {X Y : Type 0} (f : X → Y) (l : List X) → length (map f l) ≡ length l
        length_mapped f [] = refl
        length_mapped f (x ∷ l) = ap suc (length_mapped f l)

  long : (i : ℕ) → EntrySays N (entry i) → length (take (entry i).count (entry i).supports) ≡ (entry i).count
  long i f = length-take-le (entry i).count (entry i).supports (omega (arith, f.few, f.places))

  held_says : held_fits h ≡ true → HeldSays h
  held_says t =
      let f = fits_elim h t in
      let r = right_elim h f.right in
      let inside : h.count ≤ length h.entries = omega (arith, r.few, r.long) in
      let each : (i : ℕ) → i < h.count → EntrySays N (entry i) = λ i p. entry_says N (entry i) (used inside r.fits i p) in
      record {
        assumptions = f.few;
        claims = f.claims;
        count = r.few;
        places = r.long;
        used = each;
        order = λ i j p q.
            ahead_says (entry i) (entry j) (long i (each i (omega arith))) (long j (each j q))
            (sym (ap₂ (λ (x y : Justification). ahead x y) (said inside i (omega arith)) (said inside j q))
            ∙ sorted_at ahead (meaning vacant) (said_by h) (ordered_sorted (said_by h) r.order) i j p (omega (arith, said_many inside)));
        spare = λ i p q. vacant_again (entry i) (rest_at unused_entry h.entries h.count vacant r.spare i p (omega (arith, r.long)));
      }

  held_right_lem : HeldSays h → held_fits h ≡ true
  unfolding held_fits
  held_right_lem f =
      let inside : h.count ≤ length h.entries = omega (arith, f.count, f.places) in
      and_intro (le-leb h.assumptions limits.assumptions f.assumptions) (and_intro (le-leb h.claims limits.claims f.claims)
      (right_intro h
      (record {
        few = f.count;
        long = f.places;
        fits = all_used inside (λ i p. entry_right N (entry i) (f.used i p));
        order = sorted_ordered (said_by h) (sorted_places ahead (meaning vacant) (said_by h) (λ i j p q.
            let b : j < h.count = omega (arith, said_many inside) in
            ap₂ (λ (x y : Justification). ahead x y) (said inside i (omega arith)) (said inside j b)
            ∙ says_ahead (entry i) (entry j) (long i (f.used i (omega arith))) (long j (f.used j b)) (f.order i j p b)));
        spare = rest_places unused_entry h.entries h.count vacant (λ i p q. ap unused_entry (f.spare i p (omega (arith, f.places))) ∙ vacant_unused);
      })))

-- ---- the store

pub shape_says : (s : Store) → (right_shape s ≡ true) ↔ ShapeSays s
unfolding right_shape
shape_says s =
    let A : ℕ = s.held.assumptions in
    let N : ℕ = top s.held in
    let r : Bool = lists_right s.lists A N in (
      λ t. record { held = held_says s.held (and_left (held_fits s.held) r t); lists = lists_say s.lists A N (and_right (held_fits s.held) r t) },
      λ w. and_intro (held_right_lem s.held w.held) (lists_right_lem s.lists A N w.lists),
    )
