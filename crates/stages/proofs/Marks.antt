-- The marks: where a label changed in a step, and which lists that leaves as they are. Assumes nothing.
use mathlib.Core.Bool.{Bool, ◌&&◌, ◌||◌, false, not, true}
use mathlib.Core.List.Memᴰ
use mathlib.Core.List.Memᴰ.{head as here}
use mathlib.Core.List.Memᴰ.{tail as there}
use mathlib.Core.List.{List, Memᴰ as Mem, [], ◌∷◌, map}
use mathlib.Core.Logic.{◌⊎◌, inl, inr, ⊎_elim}
use mathlib.Core.Path.{◌∙◌, ◌≡◌, ap, ap₂, refl, subst, sym}
use Prim.Native.Nat.{◌+◌, ◌-◌, ◌<◌, ◌≤◌, suc, zero, ℕ}
use native.Mathlib.Nat.{le_of_suc-le-suc, not-suc-le-zero}
use native.Mathlib.Numerals.{add-one}
use native.Mathlib.Omega.{arith}
use lib.Dec.{eqb}
use lib.ListN.{get_or, get_or-replicate, length, replicate, set, take}
use lib.Seq.{ext_get_or, get_or-set_other, get_or-set_same, take_all}
use Rattle.std.proofs.lemmas.List.{set-get_or}
use borrow.Author.Tests.{eq-eqb, eqb-false, eqb-true, not-false, not-true}
use Rattle.joining.specs.Layout.{lying}
use Rattle.labels.specs.Moved.{Quiet, Still, marked, stirs}
use Rattle.members.proofs.First.{at_mem}
use Rattle.rules.proofs.Laws.{right_range}
use Rattle.rules.specs.Held.{meaning, said_by}
use Rattle.rules.specs.declared.Entry.{Entry}
use Rattle.rules.specs.declared.Held.{Held}
use Rattle.stages.proofs.Keeps.{nogoods_grow}
use Rattle.stages.proofs.Parts.{wide}
use Rattle.stages.proofs.Stages.{lies, nogoods_lie}
use Rattle.stages.specs.Steps.{Fresh, Reached, Since, Stale, Touched, mark_of, stage_by}
use Rattle.stages.specs.declared.Lists.{Lists}
use Rattle.theory.proofs.Judgement.{agree_elim, agree_intro, same_elim, same_intro, stage_label_in, stage_length, stage_nogoods}
use Rattle.theory.proofs.Label.{contains_intro}
use Rattle.theory.proofs.Lasting.{joins_same}
use Rattle.theory.proofs.Lists.{all_elim, and_intro, and_left, and_right, clash, either, not_so, same_test, those_elim}
use Rattle.theory.proofs.Places.{get_d_table, length_table}
use Rattle.theory.proofs.Start.{label_selection, nogood_selection}
use Rattle.theory.proofs.Step.{candidates_join}
use Rattle.theory.specs.Judge.{Stage, agree, same_sets}
use Rattle.theory.specs.Limits.{limits}
use Rattle.theory.specs.Lists.{all_of, choose, some_of, those}
use Rattle.theory.specs.Places.{table}
use Rattle.theory.specs.Sets.{contains}
use Rattle.theory.specs.Stages.{Justification, label_at, nogoods_at}
use Rattle.theory.specs.Step.{joins, label_in}

-- ---- one that is not stirred
or_none : (a b : Bool) → a || b ≡ false → (a ≡ false) × (b ≡ false)
or_none true b e = clash refl e
or_none false b e = (refl, e)

unmarked : (moved : List ℕ) (s : ℕ) → marked moved s ≡ false → get_or moved s 0 ≡ 0
unmarked moved s e = eqb-true (get_or moved s 0) 0 (not-false (eqb (get_or moved s 0) 0) e)

some_none : (p : ℕ → Bool) (l : List ℕ) → some_of p l ≡ false → (s : ℕ) → Mem s l → p s ≡ false
unfolding some_of
some_none p [] e s m = elim m [ ]
some_none p (x ∷ l) e s m =
    let o = or_none (p x) (some_of p l) e in
    ⊎_elim (λ (q : s ≡ x). ap p q ∙ o.0) (λ n. some_none p l o.1 s n) (Memᴰ.cases_cons m)

pub not_stirred : (moved supports : List ℕ) → stirs moved supports ≡ false → (get_or moved 0 0 ≡ 0) × ((s : ℕ) → Mem s supports → get_or moved s 0 ≡ 0)
unfolding stirs some_of
not_stirred moved supports e =
    let o = or_none (marked moved 0) (some_of (marked moved) supports) e in
    (unmarked moved 0 o.0, λ s m. unmarked moved s (some_none (marked moved) supports o.1 s m))

-- ---- the lists that have to be built, justification by justification
mem_more : (entries : List Entry) (j : ℕ) (z : Entry) → j < length entries → {r : Justification} → Mem r (map meaning (take (suc j) entries)) → Mem r (map meaning (take j entries)) ⊎ (r ≡ meaning (get_or entries j z))
mem_more [] j z h m = absurd (not-suc-le-zero h)
mem_more (e ∷ l) zero z h m = ⊎_elim inr (λ o. elim o [ ]) (Memᴰ.cases_cons m)
mem_more (e ∷ l) (suc j) z h m = ⊎_elim (λ q. inl (here q)) (λ o. ⊎_elim (λ a. inl (there a)) inr (mem_more l j z (le_of_suc-le-suc h) o)) (Memᴰ.cases_cons m)

module _ (moved : List ℕ) where
  pub touched_none : (v : ℕ) → v ≡ get_or moved 0 0 → Touched moved [] (replicate (limits.numbers + 1) v)
  touched_none v e = λ n low z. (sym e ∙ sym (get_or-replicate (limits.numbers + 1) n v 0 (omega arith)) ∙ z, λ r m. elim m [ ])

  touched_turn : (entries : List Entry) (j : ℕ) (z : Entry) → j < length entries → (marks : List ℕ) → Touched moved (map meaning (take j entries)) marks
      → (get_or entries j z).consequent < length marks → (v : ℕ) → v ≡ choose (stirs moved (meaning (get_or entries j z)).supports) 1 (get_or marks (get_or entries j z).consequent 0)
      → Touched moved (map meaning (take (j + 1) entries)) (set marks (get_or entries j z).consequent v)
  touched_turn entries j z h marks inv low v e = λ n top o. go n top o (eqb n c) refl
    where
      c : ℕ
      c = (get_or entries j z).consequent

      t : Bool
      t = stirs moved (meaning (get_or entries j z)).supports

      told : (b : Bool) → v ≡ choose b 1 (get_or marks c 0) → v ≡ 0 → (b ≡ false) × (get_or marks c 0 ≡ 0)
      told true w o = absurd (omega arith)
      told false w o = (refl, sym w ∙ o)

      cases : (r : Justification) → Mem r (map meaning (take (j + 1) entries)) → Mem r (map meaning (take j entries)) ⊎ (r ≡ meaning (get_or entries j z))
      cases r m = mem_more entries j z h (subst (λ (i : ℕ). Mem r (map meaning (take i entries))) (add-one j) m)

      go : (n : ℕ) → n ≤ limits.numbers → get_or (set marks c v) n 0 ≡ 0 → (b : Bool) → eqb n c ≡ b
          → (get_or moved 0 0 ≡ 0) × ((r : Justification) → Mem r (map meaning (take (j + 1) entries)) → r.consequent ≡ n → stirs moved r.supports ≡ false)
      go n top o true w =
          let i : n ≡ c = eqb-true n c w in
          let k = told t e (sym (get_or-set_same marks c v 0 low) ∙ ap (λ (x : ℕ). get_or (set marks c v) x 0) (sym i) ∙ o) in
          let u = inv n top (ap (λ (x : ℕ). get_or marks x 0) i ∙ k.1) in
          (u.0, λ r m q. ⊎_elim (λ a. u.1 r a q) (λ a. ap (λ (x : Justification). stirs moved x.supports) a ∙ k.0) (cases r m))
      go n top o false w =
          let d : n ≡ c → ⊥ = eqb-false n c w in
          let u = inv n top (sym (get_or-set_other marks c n v 0 d) ∙ o) in
          (u.0, λ r m q. ⊎_elim (λ a. u.1 r a q) (λ a. absurd (d (sym q ∙ ap (λ (x : Justification). x.consequent) a))) (cases r m))

  module _ (entries : List Entry) (j : ℕ) (z : Entry) (h : j < length entries) (marks : List ℕ) (inv : Touched moved (map meaning (take j entries)) marks) (low : (get_or entries j z).consequent < length marks) where
    pub touched_stirred : stirs moved (meaning (get_or entries j z)).supports ≡ true → (marks' : List ℕ) → marks' ≡ set marks (get_or entries j z).consequent 1 → Touched moved (map meaning (take (j + 1) entries)) marks'
    touched_stirred s marks' e =
        subst (Touched moved (map meaning (take (j + 1) entries))) (sym e)
        (touched_turn entries j z h marks inv low 1 (sym (ap (λ (b : Bool). choose b 1 (get_or marks (get_or entries j z).consequent 0)) s)))

    pub touched_passed : stirs moved (meaning (get_or entries j z)).supports ≡ false → (marks' : List ℕ) → marks' ≡ marks → Touched moved (map meaning (take (j + 1) entries)) marks'
    touched_passed s marks' e =
        subst (Touched moved (map meaning (take (j + 1) entries))) (set-get_or marks (get_or entries j z).consequent 0 ∙ sym e)
        (touched_turn entries j z h marks inv low (get_or marks (get_or entries j z).consequent 0) (sym (ap (λ (b : Bool). choose b 1 (get_or marks (get_or entries j z).consequent 0)) s)))

  pub touched_end : (entries : List Entry) (j : ℕ) → length entries ≤ j → (marks : List ℕ) → Touched moved (map meaning (take j entries)) marks → Touched moved (map meaning entries) marks
  touched_end entries j a marks u = subst (λ (l : List Entry). Touched moved (map meaning l) marks) (take_all j entries a) u

-- ---- the stage before
record Before (h : Held) (k : ℕ) (moved : List ℕ) : Type 0 where
  before : ℕ
  next : k ≡ suc before
  same : (s : ℕ) → s ≤ limits.numbers → get_or moved s 0 ≡ 0 → label_in (stage_by h (suc before)).labels s ≡ label_in (stage_by h before).labels s

told_before : {h : Held} {k : ℕ} {moved : List ℕ} → Since h k moved → Before h k moved
told_before {h} {k} {moved} t =
    let q : k ≡ suc (k - 1) = omega (arith, t.later) in
    record { before = k - 1; next = q; same = λ s low e. ap (λ (m : ℕ). label_in (stage_by h m).labels s) (sym q) ∙ t.same s low e }

-- ---- from the marks of a step
module _ (h : Held) where
  abbrev A : ℕ
  A = h.assumptions

  abbrev N : ℕ
  N = h.assumptions + h.claims

  abbrev J : List Justification
  J = said_by h

  pub fresh_start : (k : ℕ) (moved : List ℕ) → (get_or moved 0 0 ≡ 0 → ⊥) → Fresh h k moved
  fresh_start k moved n = record { since = λ z. absurd (n z) }

  mark_same : (b : Bool) → ◌≡◌ {A = ℕ} (choose b 0 1) 0 → b ≡ true
  mark_same true e = refl
  mark_same false e = absurd (omega arith)

  module _ (k : ℕ) (marks : List ℕ) (are : marks ≡ table (limits.numbers + 1) (mark_of (stage_by h k).labels (stage_by h (k + 1)).labels)) where
    unmoved : (s : ℕ) → s ≤ limits.numbers → get_or marks s 0 ≡ 0 → label_in (stage_by h (k + 1)).labels s ≡ label_in (stage_by h k).labels s
    unfolding mark_of
    unmoved s low e =
        same_elim (label_in (stage_by h (k + 1)).labels s) (label_in (stage_by h k).labels s)
        (mark_same (same_sets (label_in (stage_by h (k + 1)).labels s) (label_in (stage_by h k).labels s))
        (sym (ap (λ (l : List ℕ). get_or l s 0) are ∙ get_d_table (limits.numbers + 1) (mark_of (stage_by h k).labels (stage_by h (k + 1)).labels) s 0 (omega arith)) ∙ e))

    pub fresh_on : Fresh h (k + 1) marks
    fresh_on = record {
      since = λ z. record { later = omega arith; same = λ s low e. let q : k + 1 - 1 ≡ k = omega arith in unmoved s low e ∙ ap (λ (m : ℕ). label_in (stage_by h m).labels s) (sym q) };
    }

    -- no news and no mark: the stages agree
    module _ (few : N ≤ limits.numbers) (news : Bool) (told : news ≡ not (same_sets (stage_by h (k + 1)).nogoods (stage_by h k).nogoods)) where
      abbrev s : Stage
      s = stage_by h k

      abbrev t : Stage
      t = stage_by h (k + 1)

      all_zero : (l : List ℕ) → ((i : ℕ) → i < length l → get_or l i 0 ≡ 0) → all_of (eqb 0) l ≡ true
      unfolding all_of
      all_zero [] f = refl
      all_zero (x ∷ l) f = and_intro (eq-eqb 0 x (sym (f 0 (omega arith)))) (all_zero l (λ i p. f (suc i) (omega arith)))

      no_mark : all_of (eqb 0) marks ≡ true → (n : ℕ) → n ≤ limits.numbers → get_or marks n 0 ≡ 0
      no_mark e n low =
          let long : length marks ≡ limits.numbers + 1 = ap length are ∙ length_table (limits.numbers + 1) (mark_of s.labels t.labels) in
          sym (eqb-true 0 (get_or marks n 0) (all_elim (eqb 0) e (at_mem marks n (omega arith))))

      equal : same_sets t.nogoods s.nogoods ≡ true → all_of (eqb 0) marks ≡ true → s ≡ t
      unfolding label_in
      equal a b =
          ap₂ (λ (n : List ℕ) (l : List (List ℕ)). record { nogoods = n; labels = l }) (sym (same_elim t.nogoods s.nogoods a))
          (ext_get_or [] s.labels t.labels (stage_length A N J k ∙ sym (stage_length A N J (k + 1))) (λ i p.
          let q : i < N = omega (arith, stage_length A N J k) in
          sym (unmoved (suc i) (omega arith) (no_mark b (suc i) (omega arith)))))

      unmarked_all : s ≡ t → all_of (eqb 0) marks ≡ true
      unfolding mark_of
      unmarked_all e =
          all_zero marks (λ i p.
          let q : i < limits.numbers + 1 = omega (arith, ap length are, length_table (limits.numbers + 1) (mark_of s.labels t.labels)) in
          ap (λ (l : List ℕ). get_or l i 0) are ∙ get_d_table (limits.numbers + 1) (mark_of s.labels t.labels) i 0 q
          ∙ ap (λ (b : Bool). choose b 0 1) (same_intro (label_in t.labels i) (label_in s.labels i) (ap (λ (x : Stage). label_in x.labels i) (sym e))))

      pub step_agrees : (r : Bool) → r ≡ not news && all_of (eqb 0) marks → r ≡ agree (stage_by h k) (stage_by h (k + 1))
      step_agrees r e =
          e ∙ same_test
          (λ w.
          let n : news ≡ false = not-true news (and_left (not news) (all_of (eqb 0) marks) w) in
          agree_intro s t (equal (not-false (same_sets t.nogoods s.nogoods) (sym told ∙ n)) (and_right (not news) (all_of (eqb 0) marks) w)))
          (λ w.
          let q : s ≡ t = agree_elim s t w in
          and_intro (ap not (told ∙ ap not (same_intro t.nogoods s.nogoods (ap (λ (x : Stage). x.nogoods) (sym q))))) (unmarked_all q))

  -- ---- which lists have to be built
  pub stale_from : (k : ℕ) (moved : List ℕ) → Fresh h k moved → (N ≤ limits.numbers) → ((r : Justification) → Mem r (said_by h) → (s : ℕ) → Mem s r.supports → s ≤ h.assumptions + h.claims) → (stale : List ℕ) → Touched moved (said_by h) stale → Stale h k stale
  stale_from k moved f few range stale u = λ n low z.
      let t = u n low z in
      let i = told_before (f.since t.0) in
      record {
        before = i.before;
        next = i.next;
        same = λ r m q s o. i.same s (omega (arith, range r m s o)) ((not_stirred moved r.supports (t.1 r m q)).1 s o);
      }

-- ---- the joins of one that is not stirred: each contains an old member or a nogood
module _ (h : Held) (l : Lists) (re : Reached h l) (moved : List ℕ) (f : Fresh h l.depth moved) where
  abbrev A' : ℕ
  A' = h.assumptions

  abbrev N' : ℕ
  N' = h.assumptions + h.claims

  abbrev J' : List Justification
  J' = said_by h

  abbrev K : ℕ
  K = l.depth

  range : (r : Justification) → Mem r (said_by h) → (s : ℕ) → Mem s r.supports → s ≤ h.assumptions + h.claims
  range r m s o = ((right_range h re.judgeable.right r m).between s o).1

  lying_is : (s : ℕ) → s ≤ N' → lying l.members l.sizes s ≡ label_at A' J' K s
  lying_is s low = lies K (stage_by h K) re.room l re.is s (omega (arith, wide h re.judgeable)) ∙ stage_label_in A' N' J' K s low

  module _ (r : Justification) (m : Mem r (said_by h)) (u : stirs moved r.supports ≡ false) where
    abbrev since : Before h K moved
    since = told_before (f.since (not_stirred moved r.supports u).0)

    abbrev b : ℕ
    b = since.before

    same : (s : ℕ) → Mem s r.supports → label_at A' J' (suc b) s ≡ label_at A' J' b s
    same s o =
        let t : s ≤ N' = range r m s o in
        sym (stage_label_in A' N' J' (suc b) s t) ∙ since.same s (omega (arith, wide h re.judgeable)) ((not_stirred moved r.supports u).1 s o) ∙ stage_label_in A' N' J' b s t

    before_this : (H : ℕ) → Mem H (joins (lying l.members l.sizes) zero r.supports) → Mem H (joins (label_at A' J' b) zero r.supports)
    before_this H o =
        subst (Mem H) (joins_same (lying l.members l.sizes) (label_at A' J' b) r.supports zero
        (λ s n. lying_is s (range r m s n) ∙ ap (λ (k : ℕ). label_at A' J' k s) since.next ∙ same s n)) o

    label_quiet : (n : ℕ) → r.consequent ≡ n → Quiet (nogoods_at A' J' (suc (suc b))) (label_at A' J' (suc b) n) (joins (lying l.members l.sizes) zero r.supports)
    label_quiet n e H o =
        ⊎_elim (λ c. inr (not-false (contains (nogoods_at A' J' (suc (suc b))) H) (not_so (not (contains (nogoods_at A' J' (suc (suc b))) H)) (λ w. clash (nogoods_grow A' J' (suc b) H w) (ap not c)))))
        (λ c. let i = (label_selection A' J' b n).inner H (candidates_join (label_at A' J' b) (label_at A' J' b n) J' n r m e (before_this H o)) (ap not c) in
        inl (contains_intro H i.1 i.2))
        (either (contains (nogoods_at A' J' (suc b)) H))

    nogood_quiet : r.consequent ≡ zero → Quiet [] (nogoods_at A' J' (suc b)) (joins (lying l.members l.sizes) zero r.supports)
    nogood_quiet e H o =
        let i = (nogood_selection A' J' b).inner H (candidates_join (label_at A' J' b) (nogoods_at A' J' b) J' zero r m e (before_this H o)) refl in
        inl (contains_intro H i.1 i.2)

  pub label_still : (n : ℕ) → n ≤ h.assumptions + h.claims → (part : List Justification) → part ≡ those (λ j. eqb j.consequent n) (said_by h) → (struck old : List ℕ) → struck ≡ (stage_by h (l.depth + 1)).nogoods → old ≡ lying l.members l.sizes n
      → Still (lying l.members l.sizes) part n old struck moved
  label_still n low part is struck old se oe = record {
    quiet = λ r m e u.
        let i = those_elim (λ (j : Justification). eqb j.consequent n) J' (subst (λ (x : List Justification). Mem r x) is m) in
        let d = since r i.0 u in
        let k : K + 1 ≡ suc (suc d.before) = add-one K ∙ ap suc d.next in
        let x : nogoods_at A' J' (suc (suc d.before)) ≡ struck = sym (se ∙ ap (λ (v : ℕ). (stage_by h v).nogoods) k ∙ stage_nogoods A' N' J' (suc (suc d.before))) in
        let y : label_at A' J' (suc d.before) n ≡ old = sym (oe ∙ lying_is n low ∙ ap (λ (v : ℕ). label_at A' J' v n) d.next) in
        subst (λ (o : List ℕ). Quiet struck o (joins (lying l.members l.sizes) zero r.supports)) y
        (subst (λ (o : List ℕ). Quiet o (label_at A' J' (suc d.before) n) (joins (lying l.members l.sizes) zero r.supports)) x (label_quiet r i.0 u n e));
  }

  pub nogood_still : (part : List Justification) → part ≡ those (λ j. eqb j.consequent 0) (said_by h) → Still (lying l.members l.sizes) part 0 (take l.count l.nogoods) [] moved
  nogood_still part is = record {
    quiet = λ r m e u.
        let i = those_elim (λ (j : Justification). eqb j.consequent 0) J' (subst (λ (x : List Justification). Mem r x) is m) in
        let d = since r i.0 u in
        let y : nogoods_at A' J' (suc d.before) ≡ take l.count l.nogoods =
        sym (nogoods_lie K (stage_by h K) re.room l re.is ∙ ap (λ (v : ℕ). (stage_by h v).nogoods) d.next ∙ stage_nogoods A' N' J' (suc d.before)) in
        subst (λ (o : List ℕ). Quiet [] o (joins (lying l.members l.sizes) zero r.supports)) y (nogood_quiet r i.0 u e);
  }
