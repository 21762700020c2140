-- Once two stages agree, every later one does. Assumes nothing.
use mathlib.Core.Bool.{◌&&◌, false, not}
use mathlib.Core.List.Memᴰ.{head as here}
use mathlib.Core.List.Memᴰ.{tail as there}
use mathlib.Core.List.{List, Memᴰ as Mem, [], ◌++◌, ◌∷◌}
use mathlib.Core.Path.{◌∙◌, ◌≡◌, ap, ap₂, refl, subst, sym}
use Prim.Native.Nat.{◌≤◌, suc, zero, ℕ}
use native.Mathlib.Decide.{le_ind}
use lib.Dec.{eqb}
use Rattle.theory.proofs.Lists.{each_same, those_by_members, those_elim}
use Rattle.theory.proofs.Step.{Least, label_step, label_cands, nogood_step, nogood_cands}
use Rattle.theory.specs.Lists.{each, those}
use Rattle.theory.specs.Sets.{contains, listing, union}
use Rattle.theory.specs.Stages.{Justification, follows, label_at, label_of, minimal, nogoods_at, nogoods_of}
use Rattle.theory.specs.Step.{candidates, joins, joins_for}

pub joins_same : (L L' : ℕ → List ℕ) (ss : List ℕ) (G : ℕ) → ((s : ℕ) → Mem s ss → L s ≡ L' s) → joins L G ss ≡ joins L' G ss
unfolding joins
joins_same L L' [] G f = refl
joins_same L L' (s ∷ ss) G f =
    each_same (λ F. joins L (union G F) ss) (λ F. joins L' (union G F) ss) (L s) (λ F m. joins_same L L' ss (union G F) (λ t n. f t (there n)))
    ∙ ap (each (λ F. joins L' (union G F) ss)) (f s (here refl))

-- no justification has a support above N
abbrev pub Upto : ℕ → List Justification → Type 0
Upto N J = (r : Justification) → Mem r J → (s : ℕ) → Mem s r.supports → s ≤ N

pub candidates_same : (N : ℕ) (J : List Justification) → Upto N J → (L L' : ℕ → List ℕ) (old old' : List ℕ) (n : ℕ) → ((s : ℕ) → s ≤ N → L s ≡ L' s) → old ≡ old' → candidates L old J n ≡ candidates L' old' J n
unfolding candidates joins_for
candidates_same N J u L L' old old' n f e =
    ap₂ (λ (x y : List ℕ). x ++ y) e
    (each_same (λ (r : Justification). joins L zero r.supports) (λ (r : Justification). joins L' zero r.supports) (those (λ (r : Justification). eqb r.consequent n) J)
    (λ r m. joins_same L L' r.supports zero (λ s t. f s (u r (those_elim (λ (r : Justification). eqb r.consequent n) J m).0 s t))))

module _ (A N : ℕ) (J : List Justification) where
  pub record Agree (k m : ℕ) : Type 0 where
    pub nogoods : nogoods_at A J k ≡ nogoods_at A J m
    pub labels : (n : ℕ) → n ≤ N → label_at A J k n ≡ label_at A J m n

  pub nogoods_by_members : (k m : ℕ) → ((E : ℕ) → Mem E (nogoods_at A J k) → Mem E (nogoods_at A J m)) → ((E : ℕ) → Mem E (nogoods_at A J m) → Mem E (nogoods_at A J k)) → nogoods_at A J k ≡ nogoods_at A J m
  unfolding nogoods_at nogoods_of
  nogoods_by_members k m f g = those_by_members (minimal A (λ E. follows J k E zero)) (minimal A (λ E. follows J m E zero)) (listing A) f g

  pub labels_by_members : (n k m : ℕ) → ((E : ℕ) → Mem E (label_at A J k n) → Mem E (label_at A J m n)) → ((E : ℕ) → Mem E (label_at A J m n) → Mem E (label_at A J k n)) → label_at A J k n ≡ label_at A J m n
  unfolding label_at label_of
  labels_by_members n k m f g =
      those_by_members (λ E. minimal A (λ F. follows J k F n) E && not (follows J k E zero)) (λ E. minimal A (λ F. follows J m F n) E && not (follows J m E zero)) (listing A) f g

  -- the lists of a stage make those of the next
  module _ (u : Upto N J) where
    pub agree_next : (k m : ℕ) → Agree k m → Agree (suc k) (suc m)
    agree_next k m a = record { nogoods = same_nogoods; labels = same_labels }
      where
        cands : nogood_cands A J k ≡ nogood_cands A J m
        cands = candidates_same N J u (label_at A J k) (label_at A J m) (nogoods_at A J k) (nogoods_at A J m) zero a.labels a.nogoods

        same_nogoods : nogoods_at A J (suc k) ≡ nogoods_at A J (suc m)
        same_nogoods =
            nogoods_by_members (suc k) (suc m) (λ E h. (nogood_step A J m E).1 (subst (λ l. Least l E) cands ((nogood_step A J k E).0 h)))
            (λ E h. (nogood_step A J k E).1 (subst (λ l. Least l E) (sym cands) ((nogood_step A J m E).0 h)))

        same_labels : (n : ℕ) → n ≤ N → label_at A J (suc k) n ≡ label_at A J (suc m) n
        same_labels n h =
            let c : label_cands A J k n ≡ label_cands A J m n = candidates_same N J u (label_at A J k) (label_at A J m) (label_at A J k n) (label_at A J m n) n a.labels (a.labels n h) in
            labels_by_members n (suc k) (suc m)
            (λ E i. let p = (label_step A J k n E).0 i in
            (label_step A J m n E).1 (subst (λ l. contains l E ≡ false) same_nogoods p.0, subst (λ l. Least l E) c p.1))
            (λ E i. let p = (label_step A J m n E).0 i in
            (label_step A J k n E).1 (subst (λ l. contains l E ≡ false) (sym same_nogoods) p.0, subst (λ l. Least l E) (sym c) p.1))

    agree_trans : (k m o : ℕ) → Agree k m → Agree m o → Agree k o
    agree_trans k m o a b = record { nogoods = a.nogoods ∙ b.nogoods; labels = λ n h. a.labels n h ∙ b.labels n h }

    agree_on : (k : ℕ) → Agree k (suc k) → (m : ℕ) → k ≤ m → Agree m (suc m)
    agree_on k a m h = le_ind (λ (j : ℕ). Agree j (suc j)) a (λ j l b. agree_next j (suc j) b) m h

    -- every stage from k on agrees with k
    pub agree_later : (k : ℕ) → Agree k (suc k) → (m : ℕ) → k ≤ m → Agree k m
    agree_later k a m h = le_ind (λ (j : ℕ). Agree k j) (record { nogoods = refl; labels = λ n l. refl }) (λ j l b. agree_trans k j (suc j) b (agree_on k a j l)) m h
