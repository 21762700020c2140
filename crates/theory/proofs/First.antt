-- The first candidate that passes a test, found in one walk over the candidates in any order. Assumes nothing.
use mathlib.Core.Bool.{Bool, false, not, true}
use mathlib.Core.List.Memᴰ
use mathlib.Core.List.Memᴰ.{head as here}
use mathlib.Core.List.Memᴰ.{tail as there}
use mathlib.Core.List.{List, Memᴰ as Mem, [], ◌++◌, ◌∷◌}
use mathlib.Core.Logic.{◌⊎◌, inl, inr, ⊎_elim}
use mathlib.Core.Option.{Option, none, some}
use mathlib.Core.Path.{◌∙◌, ◌≡◌, ap, refl, subst, sym}
use Prim.Native.Nat.{ℕ}
use Rattle.theory.proofs.Label.{contains_elim, contains_intro}
use Rattle.theory.proofs.Lists.{clash, not_so}
use Rattle.theory.proofs.Order.{before_irrefl, before_trans}
use Rattle.theory.proofs.Select.{before_total}
use Rattle.theory.proofs.Sets.{within_trans}
use Rattle.theory.proofs.Step.{joins_from}
use Rattle.theory.specs.Lists.{choose, each}
use Rattle.theory.specs.Sets.{before, contains}
use Rattle.theory.specs.Step.{best, joins, sooner}

-- the walk over joined lists, as nested loops make it
pub best_append : (t : ℕ → Bool) (a : Option ℕ) (l m : List ℕ) → best t a (l ++ m) ≡ best t (best t a l) m
unfolding best
best_append t a [] m = refl
best_append t a (x ∷ l) m = best_append t (sooner (t x) a x) l m

pub best_each : (t : ℕ → Bool) (a : Option ℕ) (f : ℕ → List ℕ) (x : ℕ) (l : List ℕ) → best t a (each f (x ∷ l)) ≡ best t (best t a (f x)) (each f l)
unfolding each
best_each t a f x l = best_append t a (f x) (each f l)

-- ---- what the walk from a over l finds
module _ (t : ℕ → Bool) where
  sooner_none : (b : Bool) (a : Option ℕ) (x : ℕ) → sooner b a x ≡ none → (a ≡ none) × (b ≡ false)
  sooner_none false a x e = (e, refl)
  sooner_none true none x e = (refl, cc)
  sooner_none true (some y) x e = (cc, cc)

  pub best_none : (a : Option ℕ) (l : List ℕ) → best t a l ≡ none → (a ≡ none) × ((x : ℕ) → Mem x l → t x ≡ false)
  unfolding best
  best_none a [] e = (e, λ x m. elim m [ ])
  best_none a (y ∷ l) e =
      let r = best_none (sooner (t y) a y) l e in
      let s = sooner_none (t y) a y r.0 in
      (s.0, λ x m. ⊎_elim (λ (q : x ≡ y). ap t q ∙ s.1) (r.1 x) (Memᴰ.cases_cons m))

  sooner_some : (b : Bool) (a : Option ℕ) (x H : ℕ) → sooner b a x ≡ some H → (a ≡ some H) ⊎ ((x ≡ H) × (b ≡ true))
  sooner_some false a x H e = inl e
  sooner_some true none x H e = inr (cc, refl)
  sooner_some true (some y) x H e = go (before x y) e
    where
      go : (c : Bool) → some (choose c x y) ≡ some H → (some y ≡ some H) ⊎ ((x ≡ H) × (true ≡ true))
      go true q = inr (cc, refl)
      go false q = inl q

  pub best_some : (a : Option ℕ) (l : List ℕ) (H : ℕ) → best t a l ≡ some H → (a ≡ some H) ⊎ (Mem H l × (t H ≡ true))
  unfolding best
  best_some a [] H e = inl e
  best_some a (y ∷ l) H e =
      ⊎_elim (λ f. ⊎_elim inl (λ s. inr (here (sym s.0), ap t (sym s.0) ∙ s.1)) (sooner_some (t y) a y H f)) (λ r. inr (there r.0, r.1)) (best_some (sooner (t y) a y) l H e)

  -- nothing that was offered stands before H
  abbrev Ahead : ℕ → ℕ → Type 0
  Ahead H y = before y H ≡ false

  ahead_after : (x y H : ℕ) → before x y ≡ true → Ahead H x → Ahead H y
  ahead_after x y H b h = not_so (before y H) (λ c. clash (before_trans x y H b c) h)

  ahead_upto : (x y H : ℕ) → before x y ≡ false → Ahead H y → Ahead H x
  ahead_upto x y H b h = ⊎_elim (λ (q : x ≡ y). subst (Ahead H) (sym q) h) (λ c. ahead_after y x H c h) (before_total x y b)

  sooner_ahead : (b : Bool) (a : Option ℕ) (x H : ℕ) → ((y : ℕ) → sooner b a x ≡ some y → Ahead H y) → (b ≡ true → Ahead H x) × ((y : ℕ) → a ≡ some y → Ahead H y)
  sooner_ahead false a x H f = (λ e. clash e refl, f)
  sooner_ahead true none x H f = (λ e. f x refl, λ y q. let z : before y H ≡ false = cc in z)
  sooner_ahead true (some w) x H f = go (before x w) refl f
    where
      go : (c : Bool) → before x w ≡ c → ((y : ℕ) → some (choose c x w) ≡ some y → Ahead H y) → (true ≡ true → Ahead H x) × ((y : ℕ) → some w ≡ some y → Ahead H y)
      go true e g = (λ _. g x refl, λ y q. let i : w ≡ y = cc in subst (Ahead H) i (ahead_after x w H e (g x refl)))
      go false e g = (λ _. ahead_upto x w H e (g w refl), g)

  pub best_first : (a : Option ℕ) (l : List ℕ) (H : ℕ) → best t a l ≡ some H → ((y : ℕ) → a ≡ some y → Ahead H y) × ((x : ℕ) → Mem x l → t x ≡ true → Ahead H x)
  unfolding best
  best_first a [] H e = (λ y q. let i : y ≡ H = cc in subst (Ahead H) (sym i) (not_so (before H H) (before_irrefl H)), λ x m. elim m [ ])
  best_first a (y ∷ l) H e =
      let r = best_first (sooner (t y) a y) l H e in
      let s = sooner_ahead (t y) a y H r.0 in
      (s.1, λ x m h. ⊎_elim (λ (q : x ≡ y). subst (Ahead H) (sym q) (s.0 (ap t (sym q) ∙ h))) (λ n. r.1 x n h) (Memᴰ.cases_cons m))

  -- nothing of the list passes: the walk may be left out
  pub best_skip : (a : Option ℕ) (l : List ℕ) → ((x : ℕ) → Mem x l → t x ≡ false) → best t a l ≡ a
  unfolding best
  best_skip a [] f = refl
  best_skip a (y ∷ l) f = rw (f y (here refl)) (best_skip a l (λ x m. f x (there m)))

-- a joined set that contains a member found before: no join from it on is open
pub joins_skip : (L : ℕ → List ℕ) (out ss : List ℕ) (G : ℕ) (a : Option ℕ) → contains out G ≡ true → best (λ H. not (contains out H)) a (joins L G ss) ≡ a
joins_skip L out ss G a c =
    best_skip (λ H. not (contains out H)) a (joins L G ss)
    (λ H m. let i = contains_elim out G c in
    ap not (contains_intro H i.1 (within_trans i.0 G H i.2 (joins_from L ss G m))))
