-- Rows decide one answer at most, and by which tests; the rows of the stages, from the judgement. Assumes nothing.
use mathlib.Core.Bool.{Bool, ◌||◌, false, not, true}
use mathlib.Core.List.{List, Memᴰ as Mem}
use mathlib.Core.Logic.{◌↔◌, ◌⊎◌, inl, inr, ⊎_elim}
use mathlib.Core.Option.{none, some}
use mathlib.Core.Path.{◌∙◌, ◌≡◌, ap, refl, subst, sym}
use Prim.Native.Nat.{◌<◌, ◌^◌, ◌≤◌, ℕ}
use native.Mathlib.Omega.{arith}
use lib.Dec.{eqb, leb, ltb}
use lib.ListN.{length}
use borrow.Author.Tests.{eq-eqb, eqb-true, le-ltb, leb-false, leb-true, lt-ltb, ltb-false, ltb-true, not-false, not-true}
use Rattle.promises.proofs.Full.{VerdictSays, nogoods_not_label, one_label, room_not_label, room_not_nogoods}
use Rattle.promises.specs.Once.{One}
use Rattle.promises.specs.Room.{Above, AllInRoom, LabelFull, StagesSay}
use Rattle.promises.specs.Rows.{given, naming, no_row}
use Rattle.promises.specs.Table.{Outside, StageRows}
use Rattle.replies.specs.Replies.{named_by, number_of}
use Rattle.replies.specs.declared.Reply.{Reply}
use Rattle.replies.specs.declared.Reply.TheVariants.{Done, Falsity, Itself, Nogoods, Number, Supports}
use Rattle.rules.specs.Items.{fault_of}
use Rattle.rules.specs.declared.Held.{Held}
use Rattle.store.specs.Calls.{of_verdict}
use Rattle.store.specs.declared.Store.{Store}
use Rattle.theory.proofs.Lists.{clash, or_cases, some_elim, some_intro}
use Rattle.theory.specs.Judge.{Verdict, label_over, nogoods_over, settled}
use Rattle.theory.specs.Limits.{limits}
use Rattle.theory.specs.Lists.{choose, some_of}
use Rattle.theory.specs.Sets.{in_range}
use Rattle.theory.specs.Stages.{Justification}

-- ---- one answer at most

pub given_one : {X : Type 0} (P : Type 0) (c : X) (next : X → Type 0) → One next → One (given P c next)
unfolding given
given_one P c next o a b (inl p) (inl q) = p.1 ∙ sym q.1
given_one P c next o a b (inl p) (inr q) = absurd (q.0 p.0)
given_one P c next o a b (inr p) (inl q) = absurd (p.0 q.0)
given_one P c next o a b (inr p) (inr q) = o a b p.1 q.1

pub naming_one : {X : Type 0} (P : ℕ → Type 0) (c : ℕ → X) (next : X → Type 0) → ((n m : ℕ) → P n → P m → n ≡ m) → One next → One (naming P c next)
unfolding naming
naming_one P c next k o a b (inl p) (inl q) = p.2 ∙ ap c (k p.0 q.0 p.1 q.1) ∙ sym q.2
naming_one P c next k o a b (inl p) (inr q) = absurd (q.0 p.0 p.1)
naming_one P c next k o a b (inr p) (inl q) = absurd (p.0 q.0 q.1)
naming_one P c next k o a b (inr p) (inr q) = o a b p.1 q.1

pub no_row_one : One no_row
no_row_one a b p q = p ∙ sym q

-- the answer that the rows decide is exactly theirs
pub exactly : {X : Type 0} (R : X → Type 0) (x : X) → One R → R x → (a : X) → (x ≡ a) ↔ R a
exactly R x o r a = (λ e. subst R e r, λ w. o x a r w)

-- answered 0, the row did not hold
pub passed : (P : Type 0) (c : ℕ) (next : ℕ → Type 0) → given P c next 0 → (◌≡◌ {A = ℕ} 0 c → ⊥) → (P → ⊥) × next 0
unfolding given
passed P c next (inl p) n = absurd (n p.1)
passed P c next (inr p) n = p

pub passes : (X : Type 0) (P : Type 0) (c a : X) (next : X → Type 0) → (P → ⊥) → next a → given P c next a
unfolding given
passes X P c a next n r = inr (n, r)

-- ---- tests

-- b tells whether P holds
pub record Tests (b : Bool) (P : Type 0) : Type 0 where
  pub so : b ≡ true → P
  pub not_so : b ≡ false → P → ⊥

pub by_choice : {X Y : Type 0} {P : Type 0} {c : X} (next : X → Type 0) (f : Y → X) (b : Bool) (x y : Y) → Tests b P → f x ≡ c → (b ≡ false → next (f y)) → given P c next (f (choose b x y))
unfolding given
by_choice next f true x y t e k = inl (t.so refl, e)
by_choice next f false x y t e k = inr (t.not_so refl, k refl)

-- where P fails, so does the test
pub test_off : (b : Bool) {P : Type 0} → Tests b P → (P → ⊥) → b ≡ false
test_off true t n = absurd (n (t.so refl))
test_off false t n = refl

pub less_test : (a b : ℕ) → Tests (ltb a b) (a < b)
less_test a b = record { so = λ h. ltb-true a b h; not_so = λ h p. clash (lt-ltb a b p) h }

pub most_test : (a b : ℕ) → Tests (leb a b) (a ≤ b)
most_test a b = record { so = λ h. leb-true a b h; not_so = λ h p. omega (arith, leb-false a b h) }

pub not_test : (b : Bool) → Tests (not b) (b ≡ false)
not_test b = record { so = λ h. not-true b h; not_so = λ h p. clash (not-false b h) p }

pub or_test : {a b : Bool} {P Q : Type 0} → Tests a P → Tests b Q → Tests (a || b) (P ⊎ Q)
or_test {a} {b} s t = record { so = λ h. ⊎_elim (λ x. inl (s.so x)) (λ x. inr (t.so x)) (or_cases a b h); not_so = go a b s t }
  where
    go : {P Q : Type 0} (a b : Bool) → Tests a P → Tests b Q → (a || b ≡ false) → P ⊎ Q → ⊥
    go true b s t h = clash refl h
    go false b s t h = ⊎_elim (s.not_so refl) (t.not_so h)

pub above_test : (N c : ℕ) (l : List ℕ) → Tests (ltb N c || some_of (ltb N) l) (Above N c l)
above_test N c l =
    or_test (less_test N c)
    (record {
      so = λ h. let r = some_elim (ltb N) l h in (r.0, r.1, ltb-true N r.0 r.2);
      not_so = λ h r. clash (some_intro (ltb N) r.1 (lt-ltb N r.0 r.2)) h;
    })

pub has_test : (n : ℕ) (l : List ℕ) → Tests (some_of (eqb n) l) (Mem n l)
has_test n l = record {
  so = λ h. let r = some_elim (eqb n) l h in subst (λ (x : ℕ). Mem x l) (sym (eqb-true n r.0 r.2)) r.1;
  not_so = λ h m. clash (some_intro (eqb n) m (eq-eqb n n refl)) h;
}

pub outside_test : (s : Store) (E : ℕ) → Tests (not (in_range s.held.assumptions E)) (Outside s E)
unfolding in_range
outside_test s E =
    let w : ℕ = 2 ^ s.held.assumptions in
    record { so = λ h. ltb-false E w (not-true (ltb E w) h); not_so = λ h p. clash (not-false (ltb E w) h) (le-ltb E w p) }

-- ---- the faults of an item

module _ (N c : ℕ) (l : List ℕ) {X : Type 0} (f : Reply → X) (next : X → Type 0) (x₄ x₅ x₁₇ : X) (e₄ : f Number ≡ x₄) (e₅ : f Falsity ≡ x₅) (e₁₇ : f Itself ≡ x₁₇)
    (k : fault_of N c l ≡ Done → next (f Done)) where
  abbrev LowRows : X → Type 0
  LowRows = given (Above N c l) x₄ (given (Mem 0 l) x₅ (given (Mem c l) x₁₇ next))

  -- at most 4 supports
  low_told : ltb limits.supports (length l) ≡ false → LowRows (f (choose (ltb N c || some_of (ltb N) l) Number (choose (some_of (eqb 0) l) Falsity (choose (some_of (eqb c) l) Itself Done))))
  unfolding fault_of
  low_told h =
      by_choice _ f (ltb N c || some_of (ltb N) l) _ _ (above_test N c l) e₄
      (λ (p : ltb N c || some_of (ltb N) l ≡ false). by_choice _ f (some_of (eqb 0) l) _ _ (has_test 0 l) e₅
      (λ (q : some_of (eqb 0) l ≡ false). by_choice next f (some_of (eqb c) l) _ _ (has_test c l) e₁₇ (λ (r : some_of (eqb c) l ≡ false). k (rw (h, p, q, r)))))

  pub few_told : length l ≤ limits.supports → LowRows (f (fault_of N c l))
  unfolding fault_of
  few_told h = let z : ltb limits.supports (length l) ≡ false = le-ltb limits.supports (length l) h in rw z (low_told z)

  pub fault_told : (x₆ : X) → f Supports ≡ x₆ → given (limits.supports < length l) x₆ LowRows (f (fault_of N c l))
  unfolding fault_of
  fault_told x₆ e₆ = by_choice LowRows f (ltb limits.supports (length l)) _ _ (less_test limits.supports (length l)) e₆ low_told

-- ---- the stages

module _ (A N : ℕ) (J : List Justification) where
  pub stages_one : One (StageRows A N J)
  stages_one = given_one _ _ _ (given_one _ _ _ no_row_one)

  pub stages_told : (s : Store) (h : Held) (v : Verdict) → VerdictSays A N J v → StageRows A N J (number_of (of_verdict s h v).reply)
  unfolding given
  stages_told s h (settled d g) r = inr (λ x. room_not_nogoods r x, inr (λ x. room_not_label r x.1, refl))
  stages_told s h nogoods_over r = inl (r, refl)
  stages_told s h (label_over n) r = inr (λ x. nogoods_not_label x r, inl ((n, r), refl))

-- .. by their replies
module _ (A N : ℕ) (J : List Justification) where
  pub say_one : One (StagesSay A N J)
  say_one = given_one _ _ _ (naming_one _ _ _ (λ n m p q. one_label p q) (λ a b p q. p.1 ∙ sym q.1))

  pub room_says : AllInRoom A N J → StagesSay A N J Done
  unfolding given naming
  room_says r = inr (λ x. room_not_nogoods r x, inr (λ n x. room_not_label r x, (r, refl)))

  pub stages_say : (s : Store) (h : Held) (v : Verdict) → VerdictSays A N J v → StagesSay A N J (of_verdict s h v).reply
  unfolding given naming
  stages_say s h (settled d g) r = room_says r
  stages_say s h nogoods_over r = inl (r, refl)
  stages_say s h (label_over n) r = inr (λ x. nogoods_not_label x r, inl (n, r, refl))

-- ---- the number that is named

-- r names n exactly where it is 8 and P n
abbrev pub Names : (ℕ → Type 0) → Reply → Type 0
Names P r = (n : ℕ) → (named_by r ≡ some n) ↔ ((number_of r ≡ 8) × P n)

-- a reply that names none
pub unnamed : (P : ℕ → Type 0) (r : Reply) → named_by r ≡ none → (number_of r ≡ 8 → ⊥) → Names P r
unnamed P r e k n = (λ q. let z : ◌≡◌ {A = ℕ} 0 1 = cc in absurd (omega arith), λ w. absurd (k w.0))

pub names_choice : (P : ℕ → Type 0) {Y : Type 0} (f : Y → Reply) (b : Bool) (x y : Y) → Names P (f x) → (b ≡ false → Names P (f y)) → Names P (f (choose b x y))
names_choice P f true x y p q = p
names_choice P f false x y p q = q refl

pub stages_name : (A N : ℕ) (J : List Justification) (s : Store) (h : Held) (v : Verdict) → VerdictSays A N J v → Names (LabelFull A N J) (of_verdict s h v).reply
stages_name A N J s h (settled d g) r = unnamed (LabelFull A N J) Done refl (λ z. omega arith)
stages_name A N J s h nogoods_over r = unnamed (LabelFull A N J) Nogoods refl (λ z. omega arith)
stages_name A N J s h (label_over m) r = λ n. (λ e. let q : m ≡ n = cc in (refl, subst (LabelFull A N J) q r), λ w. ap some (one_label r w.1))
