-- The first member of a list that lies within a set: of a list of the smallest sets it is the first of those within, and no two sets are that. Assumes nothing.
use Rattle.std.specs.Prelude.{Some, None, cond}
use mathlib.Core.Bool.{Bool, ◌||◌, false, true}
use mathlib.Core.List.Memᴰ
use mathlib.Core.List.Memᴰ.{head as here}
use mathlib.Core.List.Memᴰ.{tail as there}
use mathlib.Core.List.{List, Memᴰ as Mem, [], ◌∷◌}
use mathlib.Core.Logic.{◌⊎◌, inl, inr, ⊎_elim}
use mathlib.Core.Path.{◌≡◌, refl, subst, sym}
use Prim.Native.Nat.{ℕ}
use Rattle.asking.specs.Asking.{first_in}
use Rattle.promises.specs.Demand2.{FirstOf, ListsSmallest}
use Rattle.theory.proofs.Label.{contains_intro}
use Rattle.theory.proofs.Lists.{clash}
use Rattle.theory.proofs.Order.{before_asym, sorted_head, sorted_tail}
use Rattle.theory.specs.Lists.{choose, some_of, sorted_by}
use Rattle.theory.specs.Sets.{before, contains, within}

-- ---- any list in order

-- a member within E, before every other one within E
record Leads (l : List ℕ) (E F : ℕ) : Type 0 where
  member : Mem F l
  inside : within F E ≡ true
  first : (G : ℕ) → Mem G l → within G E ≡ true → (G ≡ F) ⊎ (before F G ≡ true)

leads : (l : List ℕ) (E F : ℕ) → sorted_by before l ≡ true → first_in l E ≡ Some F → Leads l E F
unfolding first_in
leads [] E F o e = cc
leads (D ∷ l) E F o e = go (within D E) refl e (leads l E F (sorted_tail before D l o))
  where
    go : (b : Bool) → within D E ≡ b → cond b (Some D) (first_in l E) ≡ Some F → (first_in l E ≡ Some F → Leads l E F) → Leads (D ∷ l) E F
    go true w e later =
        let same : D ≡ F = cc in subst (Leads (D ∷ l) E) same
        (record { member = here refl; inside = w; first = λ G m v. ⊎_elim (λ q. inl q) (λ k. inr (sorted_head before D o G k)) (Memᴰ.cases_cons m) })
    go false w e later =
        let r = later e in
        record {
          member = there r.member;
          inside = r.inside;
          first = λ G m v. ⊎_elim (λ (q : G ≡ D). clash (subst (λ (x : ℕ). within x E ≡ true) q v) w) (λ k. r.first G k v) (Memᴰ.cases_cons m);
        }

-- none is named: E contains no member
pub none_within : (l : List ℕ) (E : ℕ) → first_in l E ≡ None → contains l E ≡ false
unfolding first_in contains some_of
none_within [] E e = refl
none_within (D ∷ l) E e = go (within D E) e (none_within l E)
  where
    go : (b : Bool) → cond b (Some D) (first_in l E) ≡ None → (first_in l E ≡ None → some_of (λ F. within F E) l ≡ false) → b || some_of (λ F. within F E) l ≡ false
    go true e k = cc
    go false e k = k e

-- ---- a list of the smallest sets

module _ {A : ℕ} {P : ℕ → Bool} {l : List ℕ} (h : ListsSmallest A P l) (E : ℕ) {F : ℕ} (e : first_in l E ≡ Some F) where
  abbrev lead : Leads l E F
  lead = leads l E F h.order e

  pub named_within : contains l E ≡ true
  named_within = contains_intro E lead.member lead.inside

  pub named_first : FirstOf A P E F
  named_first = record {
    smallest = (h.exactly F).0 lead.member;
    inside = lead.inside;
    first = λ G m v. lead.first G ((h.exactly G).1 m) v;
  }

-- ---- no two sets are the first
pub first_one : {A : ℕ} {P : ℕ → Bool} {E : ℕ} (F G : ℕ) → FirstOf A P E F → FirstOf A P E G → F ≡ G
first_one F G p q =
    ⊎_elim sym
    (λ (a : before F G ≡ true). ⊎_elim (λ e. e) (λ (b : before G F ≡ true). absurd (before_asym F G a b)) (q.first F p.smallest p.inside))
    (p.first G q.smallest q.inside)
