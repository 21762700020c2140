-- What a judgement says: agreement is equality of two stages, and the verdict tells the first stage that decides. Assumes nothing.
use mathlib.Core.Bool.{Bool, false, true}
use mathlib.Core.List.Memᴰ.{head as here}
use mathlib.Core.List.Memᴰ.{tail as there}
use mathlib.Core.List.{List, Memᴰ as Mem, [], ◌++◌, ◌∷◌, map}
use mathlib.Core.Logic.{◌↔◌, ⊎_elim}
use mathlib.Core.Path.{◌∙◌, ◌≡◌, ap, ap₂, fun_ext, refl, subst, sym}
use Prim.Native.Nat.{◌+◌, ◌<◌, ◌^◌, ◌≤◌, suc, zero, zero-le, ℕ}
use native.Mathlib.Nat.{add-zero, eq-or-lt_of_le, le_of_suc-le-suc, not-suc-le-zero, zero-add}
use native.Mathlib.Numerals.{add-one}
use native.Mathlib.Decide.{le_ind}
use native.Mathlib.Omega.{arith}
use lib.Dec.{eqb, ltb}
use lib.ListN.{get_or-append, get_or-eq_default, get_or, length, length-map}
use lib.Seq.{ext_get_or, get_or-append_seam}
use borrow.Author.Tests.{eq-eqb, eqb-true, ltb-false, ltb-true}
use Rattle.theory.proofs.Lasting.{Agree, Upto, agree_later}
use Rattle.theory.proofs.Depth.{length_below, settles}
use Rattle.theory.proofs.Following.{follows_later}
use Rattle.theory.proofs.Label.{inconsistent, label_elim, supported}
use Rattle.theory.proofs.Listing.{below_intro}
use Rattle.theory.proofs.Sameness.{Covered, same_stage}
use Rattle.theory.proofs.Lists.{and_intro, and_left, and_right, clash}
use Rattle.theory.specs.Judge.{Stage, Verdict, agree, consequents, course, judge, label_long, label_over, lowest_long, nogoods_long, nogoods_over, ruling, same_sets, settled, stage_at, stage_of}
use Rattle.theory.specs.Limits.{Limits}
use Rattle.theory.specs.Lists.{alike, choose, numbers_below, numbers_to}
use Rattle.theory.specs.Sets.{contains}
use Rattle.theory.specs.Stages.{Justification, follows, label_at, label_of, nogoods_at}
use Rattle.theory.specs.Step.{label_in}

-- ---- agreement

module _ {X : Type 0} (same : X → X → Bool) where
  alike_elim : ((x y : X) → same x y ≡ true → x ≡ y) → (l m : List X) → alike same l m ≡ true → l ≡ m
  unfolding alike
  alike_elim f [] [] h = refl
  alike_elim f [] (y ∷ m) h = clash h refl
  alike_elim f (x ∷ l) [] h = clash h refl
  alike_elim f (x ∷ l) (y ∷ m) h =
      ap₂ (λ (a : X) (b : List X). a ∷ b) (f x y (and_left (same x y) (alike same l m) h)) (alike_elim f l m (and_right (same x y) (alike same l m) h))

  alike_refl : ((x : X) → same x x ≡ true) → (l : List X) → alike same l l ≡ true
  unfolding alike
  alike_refl f [] = refl
  alike_refl f (x ∷ l) = and_intro (f x) (alike_refl f l)

pub same_elim : (l m : List ℕ) → same_sets l m ≡ true → l ≡ m
unfolding same_sets
same_elim l m h = alike_elim eqb eqb-true l m h

pub same_refl : (l : List ℕ) → same_sets l l ≡ true
unfolding same_sets
same_refl l = alike_refl eqb (λ x. eq-eqb x x refl) l

pub same_intro : (l m : List ℕ) → l ≡ m → same_sets l m ≡ true
same_intro l m e = rw e (same_refl m)

-- two stages agree exactly when they are equal
pub agree_elim : (s t : Stage) → agree s t ≡ true → s ≡ t
unfolding agree
agree_elim s t h =
    let p : Bool = same_sets s.nogoods t.nogoods in
    let q : Bool = alike same_sets s.labels t.labels in
    ap₂ (λ (n : List ℕ) (l : List (List ℕ)). record { nogoods = n; labels = l }) (same_elim s.nogoods t.nogoods (and_left p q h))
    (alike_elim same_sets same_elim s.labels t.labels (and_right p q h))

pub agree_refl : (s : Stage) → agree s s ≡ true
unfolding agree
agree_refl s = and_intro (same_refl s.nogoods) (alike_refl same_sets same_refl s.labels)

pub agree_intro : (s t : Stage) → s ≡ t → agree s t ≡ true
agree_intro s t e = rw e (agree_refl t)

-- ---- the labels of a stage, as a list

map_suc : {n : ℕ} (l : List ℕ) → Mem n l → Mem (suc n) (map suc l)
map_suc l (here e) = here (ap suc e)
map_suc {n = n} l (there {xs = xs} m) = there (map_suc {n = n} xs m)

pub numbers_to_intro : (N n : ℕ) → n < N → Mem (suc n) (numbers_to N)
unfolding numbers_to
numbers_to_intro N n h = map_suc (numbers_below N) (below_intro N h)

-- falsity has no label
pub label_none : (A : ℕ) (J : List Justification) (k : ℕ) → label_at A J k zero ≡ []
label_none A J k = go (label_at A J k zero) (λ E m. let i = label_elim A J k zero m in clash i.least.has i.clean)
  where
    go : (l : List ℕ) → ((E : ℕ) → Mem E l → ⊥) → l ≡ []
    go [] f = refl
    go (x ∷ l) f = absurd (f x (here refl))

module _ {X : Type 0} (f : ℕ → X) where
  at_map : (l : List ℕ) (i : ℕ) (z : X) (n : ℕ) → i < length l → get_or l i 0 ≡ n → get_or (map f l) i z ≡ f n
  at_map [] i z n h e = absurd (not-suc-le-zero h)
  at_map (x ∷ l) zero z n h e = ap f e
  at_map (x ∷ l) (suc i) z n h e = at_map l i z n (le_of_suc-le-suc h) e

pub at_below : (n i : ℕ) → i < n → get_or (numbers_below n) i 0 ≡ i
unfolding numbers_below
at_below zero i h = absurd (not-suc-le-zero h)
at_below (suc n) i h =
    ⊎_elim (λ (e : i ≡ n). rw e (ap (λ (j : ℕ). get_or (numbers_below n ++ n ∷ []) j 0) (sym (length_below n)) ∙ get_or-append_seam (numbers_below n) n [] 0))
    (λ l. get_or-append (numbers_below n) (n ∷ []) 0 i (omega (arith, length_below n)) ∙ at_below n i l) (eq-or-lt_of_le (le_of_suc-le-suc h))

module _ (A N : ℕ) (J : List Justification) (k : ℕ) where
  pub stage_nogoods : (stage_at A N J k).nogoods ≡ nogoods_at A J k
  unfolding stage_at stage_of nogoods_at
  stage_nogoods = refl

  pub stage_length : length (stage_at A N J k).labels ≡ N
  unfolding stage_at stage_of numbers_to
  stage_length = length-map (map suc (numbers_below N)) (label_of A (follows J k)) ∙ length-map (numbers_below N) suc ∙ length_below N

  pub stage_label : (i : ℕ) → i < N → get_or (stage_at A N J k).labels i [] ≡ label_at A J k (suc i)
  unfolding stage_at stage_of numbers_to label_at
  stage_label i h =
      let l : i < length (numbers_below N) = omega (arith, length_below N) in
      at_map (label_of A (follows J k)) (map suc (numbers_below N)) i [] (suc i) (omega (arith, length-map (numbers_below N) suc)) (at_map suc (numbers_below N) i 0 i l (at_below N i h))

  pub stage_label_none : (i : ℕ) → N ≤ i → get_or (stage_at A N J k).labels i [] ≡ []
  stage_label_none i h = get_or-eq_default (stage_at A N J k).labels [] {n = i} (omega (arith, stage_length))

  -- the label of n among those of the stage
  pub stage_label_in : (n : ℕ) → n ≤ N → label_in (stage_at A N J k).labels n ≡ label_at A J k n
  unfolding label_in
  stage_label_in zero h = sym (label_none A J k)
  stage_label_in (suc i) h = stage_label i h

module _ (A N : ℕ) (J : List Justification) (k m : ℕ) where
  -- equal stages have equal lists, and the other way round
  pub stage_agree : stage_at A N J k ≡ stage_at A N J m → Agree A N J k m
  stage_agree e = record {
    nogoods = sym (stage_nogoods A N J k) ∙ ap (λ (s : Stage). s.nogoods) e ∙ stage_nogoods A N J m;
    labels = λ n h. sym (stage_label_in A N J k n h) ∙ ap (λ (s : Stage). label_in s.labels n) e ∙ stage_label_in A N J m n h;
  }

  pub agree_stage : Agree A N J k m → stage_at A N J k ≡ stage_at A N J m
  agree_stage a =
      ap₂ (λ (n : List ℕ) (l : List (List ℕ)). record { nogoods = n; labels = l }) (stage_nogoods A N J k ∙ a.nogoods ∙ sym (stage_nogoods A N J m))
      (ext_get_or [] (stage_at A N J k).labels (stage_at A N J m).labels (stage_length A N J k ∙ sym (stage_length A N J m))
      (λ i h. let l : i < N = omega (arith, stage_length A N J k) in stage_label A N J k i l ∙ a.labels (suc i) l ∙ sym (stage_label A N J m i l)))

-- ---- the lowest label over its limit

-- of the labels ls of n, n + 1 ..: n + i is the lowest number whose label is over
pub record Lowest (limit : ℕ) (ls : List (List ℕ)) (i : ℕ) : Type 0 where
  pub there_is : i < length ls
  pub over : limit < length (get_or ls i [])
  pub lower : (j : ℕ) → j < i → length (get_or ls j []) ≤ limit

pub long_none : (limit n : ℕ) (ls : List (List ℕ)) → lowest_long limit (suc n) ls ≡ 0 → (i : ℕ) → length (get_or ls i []) ≤ limit
unfolding lowest_long
long_none limit n [] e i = zero-le
long_none limit n (l ∷ ls) e i = go (ltb limit (length l)) refl e (long_none limit (suc n) ls) i
  where
    go : (b : Bool) → ltb limit (length l) ≡ b → choose b (suc n) (lowest_long limit (suc (suc n)) ls) ≡ 0
        → (lowest_long limit (suc (suc n)) ls ≡ 0 → (i : ℕ) → length (get_or ls i []) ≤ limit) → (i : ℕ) → length (get_or (l ∷ ls) i []) ≤ limit
    go true t e f i = absurd (omega arith)
    go false t e f zero = omega (arith, ltb-false limit (length l) t)
    go false t e f (suc i) = f e i

pub long_some : (limit n : ℕ) (ls : List (List ℕ)) (m : ℕ) → lowest_long limit (suc n) ls ≡ suc m → (i : ℕ) × (suc m ≡ suc (n + i)) × Lowest limit ls i
unfolding lowest_long
long_some limit n [] m e = absurd (omega arith)
long_some limit n (l ∷ ls) m e = go (ltb limit (length l)) refl e (long_some limit (suc n) ls m)
  where
    go : (b : Bool) → ltb limit (length l) ≡ b → choose b (suc n) (lowest_long limit (suc (suc n)) ls) ≡ suc m
        → (lowest_long limit (suc (suc n)) ls ≡ suc m → (i : ℕ) × (suc m ≡ suc (suc n + i)) × Lowest limit ls i) → (i : ℕ) × (suc m ≡ suc (n + i)) × Lowest limit (l ∷ ls) i
    go true t e f = (0, omega arith, record { there_is = omega arith; over = ltb-true limit (length l) t; lower = λ j h. absurd (not-suc-le-zero h) })
    go false t e f =
        let r = f e in (
          suc r.0,
          omega arith,
          record {
            there_is = omega (arith, r.2.there_is);
            over = r.2.over;
            lower = λ j. elim j as (λ i. i < suc r.0 → length (get_or {A = List ℕ} (l ∷ ls) i []) ≤ limit) [
              | zero ↦ λ h. omega (arith, ltb-false limit (length l) t)
              | suc j' ↦ λ h. r.2.lower j' (le_of_suc-le-suc h)
            ];
          },
        )

-- ---- the course of the stages

-- stage i comes before the one that decides: it is within the limits and differs from the next
pub record Passed (L : Limits) (T : ℕ → Stage) (i : ℕ) : Type 0 where
  pub few : nogoods_long L (T i) ≡ false
  pub short : label_long L (T i) ≡ zero
  pub differs : agree (T i) (T (suc i)) ≡ false

abbrev pub AllPassed : Limits → (ℕ → Stage) → ℕ → ℕ → Type 0
AllPassed L T k j = (i : ℕ) → k ≤ i → i < j → Passed L T i

-- what a verdict on the stages from k on, below e, says
abbrev pub Told : Limits → (ℕ → Stage) → ℕ → ℕ → Verdict → Type 0
Told L T k e (settled j s) = (k ≤ j) × (j < e) × AllPassed L T k j × (s ≡ T j) × (nogoods_long L (T j) ≡ false) × (label_long L (T j) ≡ zero) × (agree (T j) (T (suc j)) ≡ true)
Told L T k e nogoods_over = (j : ℕ) × (k ≤ j) × (j < e) × AllPassed L T k j × (nogoods_long L (T j) ≡ true)
Told L T k e (label_over n) = (j : ℕ) × (k ≤ j) × (j < e) × AllPassed L T k j × (nogoods_long L (T j) ≡ false) × (label_long L (T j) ≡ n) × (0 < n)

module _ (L : Limits) (T : ℕ → Stage) where
  passed_more : (k j : ℕ) → Passed L T k → AllPassed L T (suc k) j → AllPassed L T k j
  passed_more k j p f i l m = ⊎_elim (λ (w : k ≡ i). subst (Passed L T) w p) (λ g. f i g m) (eq-or-lt_of_le l)

  told_more : (k e : ℕ) (v : Verdict) → Passed L T k → Told L T (suc k) e v → Told L T k e v
  told_more k e (settled j s) p t = (omega (arith, t.0), t.1, passed_more k j p t.2, t.3, t.4, t.5, t.6)
  told_more k e nogoods_over p t = (t.0, omega (arith, t.1), t.2, passed_more k t.0 p t.3, t.4)
  told_more k e (label_over n) p t = (t.0, omega (arith, t.1), t.2, passed_more k t.0 p t.3, t.4, t.5, t.6)

  -- one ruling: stage k decides, or what later stages tell
  rule : (k e : ℕ) (b : Bool) (n : ℕ) (c : Bool) → nogoods_long L (T k) ≡ b → label_long L (T k) ≡ n → agree (T k) (T (suc k)) ≡ c → k ≤ e
      → (later : Verdict) → (c ≡ false → Told L T (suc k) (suc e) later) → Told L T k (suc e) (ruling k (T k) b n c later)
  rule k e true n c hp hq ha low later f = (k, omega arith, omega arith, (λ i l m. absurd (omega arith)), hp)
  rule k e false (suc n) c hp hq ha low later f = (k, omega arith, omega arith, (λ i l m. absurd (omega arith)), hp, hq, omega arith)
  rule k e false zero true hp hq ha low later f = (omega arith, omega arith, (λ i l m. absurd (omega arith)), refl, hp, hq, ha)
  rule k e false zero false hp hq ha low later f = told_more k (suc e) later (record { few = hp; short = hq; differs = ha }) (f refl)

  -- the verdict tells the first stage that decides, and how
  pub course_told : (d k : ℕ) → agree (T (k + d)) (T (suc (k + d))) ≡ true → Told L T k (suc (k + d)) (course L T d k)
  unfolding course
  course_told zero k last = rule k (k + 0) (nogoods_long L (T k)) (label_long L (T k)) true refl refl (subst (λ (m : ℕ). agree (T m) (T (suc m)) ≡ true) (add-zero k) last) (omega arith) (settled k (T k)) (λ c. clash refl c)
  course_told (suc d) k last =
      let e : suc k + d ≡ k + suc d = omega arith in
      rule k (k + suc d) (nogoods_long L (T k)) (label_long L (T k)) (agree (T k) (T (suc k))) refl refl refl (omega arith) (course L T d (suc k))
      (λ c. subst (λ (m : ℕ). Told L T (suc k) (suc m) (course L T d (suc k))) e (course_told d (suc k) (subst (λ (m : ℕ). agree (T m) (T (suc m)) ≡ true) (sym e) last)))

  -- a stage more to look at changes nothing
  course_more : (d k : ℕ) → agree (T (k + d)) (T (suc (k + d))) ≡ true → course L T d k ≡ course L T (suc d) k
  unfolding course
  course_more zero k last =
      let h : agree (T k) (T (suc k)) ≡ true = subst (λ (m : ℕ). agree (T m) (T (suc m)) ≡ true) (add-zero k) last in
      let later : Verdict = course L T zero (suc k) in
      step (nogoods_long L (T k)) (label_long L (T k)) (agree (T k) (T (suc k))) h (settled k (T k)) later
    where
      step : (b : Bool) (n : ℕ) (c : Bool) → c ≡ true → (v w : Verdict) → ruling k (T k) b n true v ≡ ruling k (T k) b n c w
      step true n c h v w = refl
      step false (suc n) c h v w = refl
      step false zero true h v w = refl
      step false zero false h v w = clash h refl
  course_more (suc d) k last =
      ap (λ (v : Verdict). ruling k (T k) (nogoods_long L (T k)) (label_long L (T k)) (agree (T k) (T (suc k))) v)
      (course_more d (suc k) (subst (λ (m : ℕ). agree (T m) (T (suc m)) ≡ true) (omega arith) last))

  pub course_longer : (d : ℕ) → ((k : ℕ) → d ≤ k → agree (T k) (T (suc k)) ≡ true) → (e : ℕ) → d ≤ e → course L T d 0 ≡ course L T e 0
  course_longer d last e h =
      le_ind (λ (m : ℕ). course L T d 0 ≡ course L T m 0) refl (λ m l ih. ih ∙ course_more m 0 (subst (λ (x : ℕ). agree (T x) (T (suc x)) ≡ true) (sym (zero-add m)) (last m l))) e h

  -- one stage more, with the code's numbers
  pub course_turn : (d : ℕ) → ((k : ℕ) → d ≤ k → agree (T k) (T (suc k)) ≡ true) → (k : ℕ)
      → course L T d k ≡ ruling k (T k) (nogoods_long L (T k)) (label_long L (T k)) (agree (T k) (T (k + 1))) (course L T d (k + 1))
  unfolding course
  course_turn d last k =
      course_more d k (last (k + d) (omega arith))
      ∙ ap (λ (j : ℕ). ruling k (T k) (nogoods_long L (T k)) (label_long L (T k)) (agree (T k) (T j)) (course L T d j)) (sym (add-one k))

-- ---- the last stage

module _ (A N : ℕ) (J : List Justification) where
  pub agree_at_last : (k : ℕ) → length (consequents J) ≤ k → agree (stage_at A N J k) (stage_at A N J (suc k)) ≡ true
  unfolding stage_at
  agree_at_last k l =
      let l' : length (consequents J) ≤ suc k = omega arith in
      agree_intro (stage_at A N J k) (stage_at A N J (suc k)) (ap (stage_of A N) (sym (settles J k l) ∙ settles J (suc k) l'))

  pub judge_told : (L : Limits) → Told L (stage_at A N J) 0 (suc (length (consequents J))) (judge L A N J)
  unfolding judge
  judge_told L =
      let d : ℕ = length (consequents J) in
      subst (λ (m : ℕ). Told L (stage_at A N J) 0 (suc m) (course L (stage_at A N J) d 0)) (zero-add d)
      (course_told L (stage_at A N J) d 0 (agree_at_last (0 + d) (omega arith)))

  -- the depth never exceeds the number of different consequents
  pub depth_few : (L : Limits) (d : ℕ) (s : Stage) → judge L A N J ≡ settled d s → d ≤ length (consequents J)
  depth_few L d s e = let t : Told L (stage_at A N J) 0 (suc (length (consequents J))) (settled d s) = rw e at (judge_told L) in omega (arith, t.1)

-- where all stages are the same, so is the judgement
pub judge_same : (L : Limits) (A N : ℕ) (J J' : List Justification) → ((k : ℕ) → stage_at A N J k ≡ stage_at A N J' k) → judge L A N J ≡ judge L A N J'
unfolding judge
judge_same L A N J J' f =
    let d : ℕ = length (consequents J) in
    let e : ℕ = length (consequents J') in
    course_longer L (stage_at A N J) d (agree_at_last A N J) (d + e) (omega arith)
    ∙ ap (λ (T : ℕ → Stage). course L T (d + e) 0) (fun_ext f)
    ∙ sym (course_longer L (stage_at A N J') e (agree_at_last A N J') (d + e) (omega arith))

-- it depends only on the set of justifications
pub same_judge : (J J' : List Justification) → Covered J J' → Covered J' J → (L : Limits) (A N : ℕ) → judge L A N J ≡ judge L A N J'
same_judge J J' c c' L A N = judge_same L A N J J' (same_stage J J' c c' A N)

-- ---- settled at d: the lists of every stage from d on are those of d, and d is the least stage that agrees with the next

module _ (L : Limits) (A N : ℕ) (J : List Justification) (d : ℕ) (s : Stage) (e : judge L A N J ≡ settled d s) where
  pub settled_told : Told L (stage_at A N J) 0 (suc (length (consequents J))) (settled d s)
  settled_told = rw e at (judge_told A N J L)

  pub settled_stage : s ≡ stage_at A N J d
  settled_stage = settled_told.3

  pub settled_least : (k : ℕ) → k < d → stage_at A N J k ≡ stage_at A N J (suc k) → ⊥
  settled_least k h q = clash (agree_intro (stage_at A N J k) (stage_at A N J (suc k)) q) (settled_told.2 k zero-le h).differs

  pub settled_agrees : stage_at A N J d ≡ stage_at A N J (suc d)
  settled_agrees = agree_elim (stage_at A N J d) (stage_at A N J (suc d)) settled_told.6

  module _ (u : Upto N J) where
    pub settled_later : (m : ℕ) → d ≤ m → Agree A N J d m
    settled_later m h = agree_later A N J u d (stage_agree A N J d (suc d) settled_agrees) m h

    -- the lists at the depth answer for all stages: E contains a nogood exactly where falsity follows at some stage ..
    pub nogoods_mean : (E : ℕ) → E < 2 ^ A → (contains (nogoods_at A J d) E ≡ true) ↔ ((k : ℕ) × (follows J k E zero ≡ true))
    nogoods_mean E h = (
      λ c. (d, sym (inconsistent A J d E h) ∙ c),
      λ f.
          let m : ℕ = f.0 + d in
          let g : follows J m E zero ≡ true = follows_later J f.0 m E zero (omega arith) f.1 in
          rw (settled_later m (omega arith)).nogoods (inconsistent A J m E h ∙ g),
    )

    -- .. and a consistent E contains a member of n's label exactly where n follows at some stage
    pub labels_mean : (n E : ℕ) → n ≤ N → E < 2 ^ A → contains (nogoods_at A J d) E ≡ false → (contains (label_at A J d n) E ≡ true) ↔ ((k : ℕ) × (follows J k E n ≡ true))
    labels_mean n E l h c = (
      λ q. (d, sym (supported A J d n E h c) ∙ q),
      λ f.
          let m : ℕ = f.0 + d in
          let a = settled_later m (omega arith) in
          let g : follows J m E n ≡ true = follows_later J f.0 m E n (omega arith) f.1 in
          let c' : contains (nogoods_at A J m) E ≡ false = rw a.nogoods at c in
          rw (a.labels n l) (supported A J m n E h c' ∙ g),
    )
