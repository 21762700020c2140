-- Marks stage by stage: after the pass of stage k they are the first stages up to k + 1. Assumes nothing.
use mathlib.Core.Bool.{Bool, ◌&&◌, ◌||◌, false, true}
use mathlib.Core.List.Memᴰ.{head as here}
use mathlib.Core.List.{List, Memᴰ as Mem, [], ◌∷◌}
use mathlib.Core.Logic.{⊎_elim}
use mathlib.Core.Path.{◌∙◌, ◌≡◌, ap, ap₂, fun_ext, refl, sym}
use Prim.Native.Nat.{◌+◌, ◌-◌, ◌<◌, ◌≤◌, suc, zero, ℕ}
use native.Mathlib.Decide.{le_ind}
use native.Mathlib.Numerals.{add-one}
use native.Mathlib.Omega.{arith}
use lib.Dec.{eqb, leb, ltb}
use lib.ListN.{get_or, length}
use borrow.Author.Tests.{eqb-false, eqb-true, le-leb, le-ltb, lt-leb, lt-ltb, ltb-false, ltb-true}
use Rattle.following.proofs.Passing.{Inside, given_here, given_other, inside_given, mark_low, mark_no, mark_yes, pass_long}
use Rattle.following.proofs.Staging.{Ended, Placed, ended_129, inside}
use Rattle.following.specs.First.{since_of, stages_from, up_to}
use Rattle.following.specs.Marks.{given_by, mark_by, marked, marks_of, pass_over, sown}
use Rattle.theory.proofs.Demands.{ends}
use Rattle.theory.proofs.Following.{follows_by, follows_cases, follows_keep, follows_later}
use Rattle.theory.proofs.Judgement.{same_elim}
use Rattle.theory.proofs.Lists.{all_elim, all_intro, clash, either, not_so, same_test, some_elim, some_intro}
use Rattle.theory.proofs.Places.{get_d_table, is_table, length_table}
use Rattle.theory.specs.Judge.{same_sets}
use Rattle.theory.specs.Limits.{limits}
use Rattle.theory.specs.Lists.{all_of, choose, some_of}
use Rattle.theory.specs.Places.{table}
use Rattle.theory.specs.Stages.{Justification, follows, gives}

-- ---- where the mark given is above those that count, a pass counts only the marks that were there
module _ (t v : ℕ) (up : t < v) where
  kept : (m : List ℕ) (j : Justification) → leb (mark_by t v m j) t ≡ leb (get_or m j.consequent 255) t
  kept m j =
      let x : ℕ = get_or m j.consequent 255 in
      ⊎_elim (λ (h : ltb v x ≡ true).
      ⊎_elim (λ a. ap (λ (y : ℕ). leb y t) (mark_yes t v m j (ltb-true v x h) a) ∙ lt-leb v t up ∙ sym (lt-leb x t (omega (arith, ltb-true v x h)))) (λ a. ap (λ (y : ℕ). leb y t) (mark_no t v m j a)) (either (all_of (marked t m) j.supports)))
      (λ (h : ltb v x ≡ false). ap (λ (y : ℕ). leb y t) (mark_low t v m j (ltb-false v x h)))
      (either (ltb v x))

  marked_given : (m : List ℕ) (j : Justification) (s : ℕ) → j.consequent < length m → marked t (given_by t v m j) s ≡ marked t m s
  unfolding marked
  marked_given m j s low =
      let c : ℕ = j.consequent in
      ⊎_elim (λ (e : eqb s c ≡ true).
      let q : s ≡ c = eqb-true s c e in
      ap (λ (x : ℕ). leb (get_or (given_by t v m j) x 255) t) q ∙ ap (λ (x : ℕ). leb x t) (given_here t v m j low) ∙ kept m j ∙ ap (λ (x : ℕ). leb (get_or m x 255) t) (sym q))
      (λ (e : eqb s c ≡ false). ap (λ (x : ℕ). leb x t) (given_other t v m j s (eqb-false s c e)))
      (either (eqb s c))

  alike_choice : (b : Bool) → choose b v v ≡ v
  alike_choice true = refl
  alike_choice false = refl

  sort : (b a o : Bool) (x : ℕ) → ltb v x ≡ b → choose (ltb v (choose (b && a) v x) && o) v (choose (b && a) v x) ≡ choose (b && (a || o)) v x
  sort false a o x e = ap (λ (d : Bool). choose (d && o) v x) e
  sort true true o x e = alike_choice (ltb v v && o)
  sort true false o x e = ap (λ (d : Bool). choose (d && o) v x) e

  one_more : (m : List ℕ) (j : Justification) (n : ℕ) (o : Bool) → j.consequent < length m
      → choose (ltb v (get_or (given_by t v m j) n 255) && o) v (get_or (given_by t v m j) n 255) ≡ choose (ltb v (get_or m n 255) && (gives (marked t m) n j || o)) v (get_or m n 255)
  unfolding gives mark_by
  one_more m j n o low =
      let c : ℕ = j.consequent in
      let a : Bool = all_of (marked t m) j.supports in
      let x : ℕ = get_or m n 255 in
      ⊎_elim (λ (e : eqb c n ≡ true).
      let q : c ≡ n = eqb-true c n e in
      let w : get_or (given_by t v m j) n 255 ≡ choose (ltb v x && a) v x = ap (λ (y : ℕ). get_or (given_by t v m j) y 255) (sym q) ∙ given_here t v m j low ∙ ap (λ (y : ℕ). choose (ltb v (get_or m y 255) && a) v (get_or m y 255)) q in
      ap (λ (y : ℕ). choose (ltb v y && o) v y) w ∙ sort (ltb v x) a o x refl ∙ ap (λ (b : Bool). choose (ltb v x && (b && a || o)) v x) (sym e))
      (λ (e : eqb c n ≡ false).
      ap (λ (y : ℕ). choose (ltb v y && o) v y) (given_other t v m j n (λ (q : n ≡ c). eqb-false c n e (sym q))) ∙ ap (λ (b : Bool). choose (ltb v x && (b && a || o)) v x) (sym e))
      (either (eqb c n))

  no_gain : (b : Bool) (x : ℕ) → choose (b && false) v x ≡ x
  no_gain true x = refl
  no_gain false x = refl

  -- the mark of n after a pass: v where that is lower and a justification gives n by the marks that were there
  pub pass_at : (J : List Justification) (m : List ℕ) (n : ℕ) → Inside m J → get_or (pass_over t v m J) n 255 ≡ choose (ltb v (get_or m n 255) && some_of (gives (marked t m) n) J) v (get_or m n 255)
  unfolding pass_over some_of
  pass_at [] m n f = sym (no_gain (ltb v (get_or m n 255)) (get_or m n 255))
  pass_at (j ∷ J) m n f =
      pass_at J (given_by t v m j) n (inside_given t v m j J f)
      ∙ ap (λ (S : ℕ → Bool). choose (ltb v (get_or (given_by t v m j) n 255) && some_of (gives S n) J) v (get_or (given_by t v m j) n 255)) (fun_ext λ s. marked_given m j s (f j (here refl)))
      ∙ one_more m j n (some_of (gives (marked t m) n) J) (f j (here refl))

pub table_same : {X : Type 0} (n : ℕ) (f g : ℕ → X) (z : X) → ((i : ℕ) → i < n → f i ≡ g i) → table n f ≡ table n g
table_same n f g z h = is_table (table n f) n g z (length_table n f) (λ i p. get_d_table n f i z p ∙ h i p)

all_same : (p q : ℕ → Bool) (l : List ℕ) → ((x : ℕ) → Mem x l → p x ≡ q x) → all_of p l ≡ all_of q l
all_same p q l f = same_test (λ h. all_intro q l (λ x m. sym (f x m) ∙ all_elim p h m)) (λ h. all_intro p l (λ x m. f x m ∙ all_elim q h m))

some_same : (p q : Justification → Bool) (l : List Justification) → ((x : Justification) → Mem x l → p x ≡ q x) → some_of p l ≡ some_of q l
some_same p q l f =
    same_test (λ h. let w = some_elim p l h in some_intro q w.1 (sym (f w.0 w.1) ∙ w.2)) (λ h. let w = some_elim q l h in some_intro p w.1 (f w.0 w.1 ∙ w.2))

module _ (J : List Justification) (E : ℕ) where
  -- ---- the first stage up to k
  pub up_to_yes : (k n : ℕ) → follows J k E n ≡ true → up_to J E k n ≤ k
  unfolding up_to
  up_to_yes zero n h = rw h (omega arith)
  up_to_yes (suc k) n h =
      ⊎_elim (λ (a : follows J k E n ≡ true). rw a (omega (arith, up_to_yes k n a))) (λ (a : follows J k E n ≡ false). rw (a, h) (omega arith)) (either (follows J k E n))

  pub up_to_no : (k n : ℕ) → follows J k E n ≡ false → up_to J E k n ≡ 255
  unfolding up_to
  up_to_no zero n h = rw h
  up_to_no (suc k) n h =
      let a : follows J k E n ≡ false = not_so (follows J k E n) (λ e. clash (follows_keep J k E n e) h) in
      ap₂ (λ (b d : Bool). choose b (up_to J E k n) (choose d (suc k) 255)) a h

  -- by stage k exactly the numbers with marks of at most k have followed
  pub up_to_marked : (k n : ℕ) → k < 255 → leb (up_to J E k n) k ≡ follows J k E n
  up_to_marked k n h =
      ⊎_elim (λ a. le-leb (up_to J E k n) k (up_to_yes k n a) ∙ sym a) (λ a. ap (λ (x : ℕ). leb x k) (up_to_no k n a) ∙ lt-leb 255 k h ∙ sym a) (either (follows J k E n))

  next_follows : (k n : ℕ) → follows J k E n ≡ false → follows J (suc k) E n ≡ some_of (gives (follows J k E) n) J
  unfolding follows
  next_follows k n a = ap (λ (b : Bool). b || some_of (gives (follows J k E) n) J) a

  up_to_next : (k n : ℕ) → k < limits.numbers + 1 → choose (ltb (k + 1) (up_to J E k n) && some_of (gives (follows J k E) n) J) (k + 1) (up_to J E k n) ≡ up_to J E (suc k) n
  unfolding up_to
  up_to_next k n h =
      let o : Bool = some_of (gives (follows J k E) n) J in
      let x : ℕ = up_to J E k n in
      ⊎_elim (λ (a : follows J k E n ≡ true).
      ap (λ (b : Bool). choose (b && o) (k + 1) x) (le-ltb (k + 1) x (omega (arith, up_to_yes k n a))) ∙ ap (λ (b : Bool). choose b x (choose (follows J (suc k) E n) (suc k) 255)) (sym a))
      (λ (a : follows J k E n ≡ false).
      ap (λ (y : ℕ). choose (ltb (k + 1) y && o) (k + 1) y) (up_to_no k n a) ∙ ap (λ (b : Bool). choose (b && o) (k + 1) 255) (lt-ltb (k + 1) 255 (omega arith))
      ∙ ap₂ (λ (b : Bool) (y : ℕ). choose b y 255) (sym (next_follows k n a)) (add-one k) ∙ ap (λ (b : Bool). choose b x (choose (follows J (suc k) E n) (suc k) 255)) (sym a))
      (either (follows J k E n))

  -- ---- where nothing new follows
  Still : ℕ → Type 0
  Still k = (n : ℕ) → follows J (suc k) E n ≡ true → follows J k E n ≡ true

  still_next : (k : ℕ) → Still k → Still (suc k)
  unfolding Still
  still_next k s n h =
      ⊎_elim (λ a. a) (λ g. follows_by J k E n g.0 g.1 (record { of = g.2.of; by = λ t m. s t (g.2.by t m) })) (follows_cases J (suc k) E n h)

  still_ended : (k : ℕ) → Still k → Ended J E k
  unfolding Still
  still_ended k s m h =
      let later : (j : ℕ) → k ≤ j → Still j = le_ind Still s (λ j l t. still_next j t) in
      le_ind (λ (j : ℕ). (n : ℕ) → follows J j E n ≡ true → follows J k E n ≡ true) (λ n f. f) (λ j l ih n f. ih n (later j l n f)) m h

  up_to_later : (k m n : ℕ) → k ≤ m → Ended J E k → up_to J E m n ≡ up_to J E k n
  unfolding up_to
  up_to_later k m n h d =
      le_ind (λ (j : ℕ). up_to J E j n ≡ up_to J E k n) refl (λ j l ih. step j l ∙ ih) m h
    where
      step : (j : ℕ) → k ≤ j → up_to J E (suc j) n ≡ up_to J E j n
      step j l =
          ⊎_elim (λ (a : follows J j E n ≡ true). ap (λ (b : Bool). choose b (up_to J E j n) (choose (follows J (suc j) E n) (suc j) 255)) a)
          (λ (a : follows J j E n ≡ false).
          let e : follows J (suc j) E n ≡ false = not_so (follows J (suc j) E n) (λ f. clash (follows_later J k j E n l (d (suc j) (omega arith) n f)) a) in
          ap₂ (λ (b c : Bool). choose b (up_to J E j n) (choose c (suc j) 255)) a e ∙ sym (up_to_no j n a))
          (either (follows J j E n))

  pub since_is : (k n : ℕ) → Ended J E k → up_to J E k n ≡ since_of J E n
  unfolding since_of
  since_is k n d =
      sym (up_to_later k (k + length J) n (omega arith) d) ∙ up_to_later (length J) (k + length J) n (omega arith) (λ m h x f. ends J m E x f)

  module _ (w : Placed J) where
    -- the first stage at which n follows, as it is marked
    pub since_129 : (n : ℕ) → since_of J E n ≡ up_to J E (limits.numbers + 1) n
    since_129 n = sym (since_is (limits.numbers + 1) n (ended_129 J E w (limits.numbers + 1) (omega arith)))

    since_marks : (k : ℕ) → k < 255 → Inside (table (limits.numbers + 1) (up_to J E k)) J → (n : ℕ) → some_of (gives (marked k (table (limits.numbers + 1) (up_to J E k))) n) J ≡ some_of (gives (follows J k E) n) J
    unfolding gives marked
    since_marks k h f n =
        some_same (gives (marked k (table (limits.numbers + 1) (up_to J E k))) n) (gives (follows J k E) n) J
        (λ j i. ap (λ (b : Bool). eqb j.consequent n && b)
        (all_same (marked k (table (limits.numbers + 1) (up_to J E k))) (follows J k E) j.supports
        (λ s t. ap (λ (x : ℕ). leb x k) (get_d_table (limits.numbers + 1) (up_to J E k) s 255 (omega (arith, w.supports j i s t))) ∙ up_to_marked k s h)))

    pub pass_step : (k : ℕ) → k < limits.numbers + 1 → pass_over k (k + 1) (table (limits.numbers + 1) (up_to J E k)) J ≡ table (limits.numbers + 1) (up_to J E (suc k))
    pass_step k h =
        let m : List ℕ = table (limits.numbers + 1) (up_to J E k) in
        let e : length m ≡ limits.numbers + 1 = length_table (limits.numbers + 1) (up_to J E k) in
        is_table (pass_over k (k + 1) m J) (limits.numbers + 1) (up_to J E (suc k)) 255 (pass_long k (k + 1) J m ∙ e)
        (λ n low. pass_at k (k + 1) (omega arith) J m n (inside J E w m e)
        ∙ ap₂ (λ (x : ℕ) (b : Bool). choose (ltb (k + 1) x && b) (k + 1) x) (get_d_table (limits.numbers + 1) (up_to J E k) n 255 low) (since_marks k (omega arith) (inside J E w m e) n)
        ∙ up_to_next k n h)

    still_same : (k : ℕ) → k < limits.numbers + 1 → table (limits.numbers + 1) (up_to J E (suc k)) ≡ table (limits.numbers + 1) (up_to J E k) → Still k
    unfolding Still
    still_same k h e n f =
        ⊎_elim (λ a. a)
        (λ g.
        let low : n < limits.numbers + 1 = omega (arith, g.2.of, w.consequents g.0 g.1) in
        let q : up_to J E (suc k) n ≡ up_to J E k n = sym (get_d_table (limits.numbers + 1) (up_to J E (suc k)) n 255 low) ∙ ap (λ (l : List ℕ). get_or l n 255) e ∙ get_d_table (limits.numbers + 1) (up_to J E k) n 255 low in
        ⊎_elim (λ a. a) (λ (a : follows J k E n ≡ false). absurd (omega (arith, q, up_to_no k n a, up_to_yes (suc k) n f))) (either (follows J k E n)))
        (follows_cases J k E n f)

-- the marks of stage 0 are those of what follows there
pub sown_at : (J : List Justification) (E : ℕ) → sown E ≡ table (limits.numbers + 1) (up_to J E 0)
unfolding up_to follows marks_of
sown_at J E = refl

-- ---- the loop
module _ (J : List Justification) (w : Placed J) (E : ℕ) where
  abbrev At : ℕ → List ℕ
  At k = table (limits.numbers + 1) (up_to J E k)

  pub ended_table : (k : ℕ) → Ended J E k → At k ≡ table (limits.numbers + 1) (since_of J E)
  ended_table k d = table_same (limits.numbers + 1) (up_to J E k) (since_of J E) 255 (λ n low. since_is J E k n d)

  pub pass_plus : (k : ℕ) → k < limits.numbers + 1 → pass_over k (k + 1) (At k) J ≡ At (k + 1)
  pass_plus k h = pass_step J E w k h ∙ ap At (sym (add-one k))

  -- where a pass marks nothing new, nothing new follows
  pub pass_still : (k : ℕ) → k < limits.numbers + 1 → pass_over k (k + 1) (At k) J ≡ At k → At k ≡ table (limits.numbers + 1) (since_of J E)
  pass_still k h e = ended_table k (still_ended J E k (still_same J E w k h (sym (pass_step J E w k h) ∙ e)))

  pub since_last : (k : ℕ) → limits.numbers + 1 ≤ k → At k ≡ table (limits.numbers + 1) (since_of J E)
  since_last k h = ended_table k (ended_129 J E w k h)

  stages_at : (f k : ℕ) → k + f ≡ limits.numbers + 1 → stages_from J f k (At k) ≡ table (limits.numbers + 1) (since_of J E)
  unfolding stages_from
  stages_at zero k e = since_last k (omega (arith, e))
  stages_at (suc f) k e =
      let low : k < limits.numbers + 1 = omega (arith, e) in
      let next : List ℕ = pass_over k (k + 1) (At k) J in
      ⊎_elim (λ (t : same_sets next (At k) ≡ true). ap (λ (b : Bool). choose b (At k) (stages_from J f (k + 1) next)) t ∙ pass_still k low (same_elim next (At k) t))
      (λ (t : same_sets next (At k) ≡ false).
      ap (λ (b : Bool). choose b (At k) (stages_from J f (k + 1) next)) t ∙ ap (stages_from J f (k + 1)) (pass_plus k low) ∙ stages_at f (k + 1) (omega (arith, e)))
      (either (same_sets next (At k)))

  -- from the marks of stage 0 there are for each number the first stage at which it follows
  pub stages_since : stages_from J (limits.numbers + 1) 0 (sown E) ≡ table (limits.numbers + 1) (since_of J E)
  stages_since = ap (stages_from J (limits.numbers + 1) 0) (sown_at J E) ∙ stages_at (limits.numbers + 1) 0 refl

-- the loop of `staged`, k stages done; t tells whether the pass marked nothing new
module _ (J : List Justification) (k : ℕ) (m r : List ℕ) (low : k < limits.numbers + 1) (is : r ≡ pass_over k (k + 1) m J) (t : Bool) (told : t ≡ same_sets r m) where
  step : stages_from J ((limits.numbers + 1) - k) k m ≡ choose t m (stages_from J ((limits.numbers + 1) - (k + 1)) (k + 1) r)
  unfolding stages_from
  step =
      ap (λ (f : ℕ). stages_from J f k m) left_one
      ∙ ap₂ (λ (b : Bool) (x : List ℕ). choose b m (stages_from J ((limits.numbers + 1) - (k + 1)) (k + 1) x)) (ap (λ (x : List ℕ). same_sets x m) (sym is) ∙ sym told) (sym is)
    where
      left_one : (limits.numbers + 1) - k ≡ suc ((limits.numbers + 1) - (k + 1))
      left_one = omega (arith, low)

  pub stages_same : t ≡ true → stages_from J ((limits.numbers + 1) - k) k m ≡ m
  stages_same y = step ∙ ap (λ (b : Bool). choose b m (stages_from J ((limits.numbers + 1) - (k + 1)) (k + 1) r)) y

  pub stages_next : t ≡ false → stages_from J ((limits.numbers + 1) - k) k m ≡ stages_from J ((limits.numbers + 1) - (k + 1)) (k + 1) r
  stages_next y = step ∙ ap (λ (b : Bool). choose b m (stages_from J ((limits.numbers + 1) - (k + 1)) (k + 1) r)) y

pub stages_end : (J : List Justification) (k : ℕ) (m : List ℕ) → limits.numbers + 1 ≤ k → stages_from J ((limits.numbers + 1) - k) k m ≡ m
unfolding stages_from
stages_end J k m h = ap (λ (f : ℕ). stages_from J f k m) none
  where
    none : (limits.numbers + 1) - k ≡ 0
    none = omega (arith, h)
