-- A stage's lists by those of the stage before. Assumes nothing.
use mathlib.Core.Bool.{false, true}
use mathlib.Core.List.Memᴰ
use mathlib.Core.List.Memᴰ.{head as here}
use mathlib.Core.List.Memᴰ.{tail as there}
use mathlib.Core.List.{List, Memᴰ as Mem, [], ◌∷◌}
use mathlib.Core.Logic.{◌↔◌, ◌⊎◌, inl, inr, ⊎_elim}
use mathlib.Core.Path.{◌∙◌, ◌≡◌, refl, subst, sym}
use Prim.Native.Nat.{◌<◌, ◌^◌, suc, zero, ℕ}
use lib.Bits.{or_lt}
use lib.Dec.{eqb}
use lib.Pow.{pow_pos}
use borrow.Author.Tests.{eq-eqb, eqb-true}
use Rattle.theory.proofs.Following.{Gives, follows_by, follows_cases, follows_keep}
use Rattle.theory.proofs.Label.{clean_below, inconsistent, label_above, label_below, label_elim, label_intro, nogood_below, nogood_elim, nogood_intro}
use Rattle.theory.proofs.Listing.{within_below}
use Rattle.theory.proofs.Lists.{clash, each_elim, each_intro, either, not_so, those_elim, those_intro}
use Rattle.theory.proofs.Sets.{within_antisym, within_join, within_left, within_refl, within_right, within_trans, within_zero}
use Rattle.theory.specs.Lists.{each, those}
use Rattle.theory.specs.Sets.{contains, union, within}
use Rattle.theory.specs.Stages.{Justification, follows, label_at, nogoods_at}
use Rattle.theory.specs.Step.{candidates, joins, joins_for}

-- a member of the list lies within E
abbrev pub Inside : List ℕ → ℕ → Type 0
Inside l E = (F : ℕ) × Mem F l × (within F E ≡ true)

pub inside_more : {l : List ℕ} (E E' : ℕ) → within E E' ≡ true → Inside l E → Inside l E'
inside_more E E' w i = (i.0, i.1, within_trans i.0 E E' i.2 w)

module _ (L : ℕ → List ℕ) where
  pub joins_from : (ss : List ℕ) (G : ℕ) {H : ℕ} → Mem H (joins L G ss) → within G H ≡ true
  unfolding joins
  joins_from [] G {H} m = rw (Memᴰ.eq_of_singleton m) (within_refl G)
  joins_from (s ∷ ss) G {H} m =
      let e = each_elim (λ F. joins L (union G F) ss) (L s) m in
      within_trans G (union G e.0) H (within_left G e.0) (joins_from ss (union G e.0) e.2)

  pub joins_above : (ss : List ℕ) (G : ℕ) {H : ℕ} → Mem H (joins L G ss) → (s : ℕ) → Mem s ss → Inside (L s) H
  unfolding joins
  joins_above [] G m s n = elim n [ ]
  joins_above (t ∷ ss) G {H} m s n =
      let e = each_elim (λ F. joins L (union G F) ss) (L t) m in
      let F : ℕ = e.0 in
      ⊎_elim (λ q. rw q (F, e.1, within_trans F (union G F) H (within_right G F) (joins_from ss (union G F) e.2)))
      (λ n'. joins_above ss (union G F) e.2 s n') (Memᴰ.cases_cons n)

  pub joins_below : (ss : List ℕ) (G E : ℕ) → within G E ≡ true → ((s : ℕ) → Mem s ss → Inside (L s) E) → Inside (joins L G ss) E
  unfolding joins
  joins_below [] G E w f = (G, here refl, w)
  joins_below (s ∷ ss) G E w f =
      let i = f s (here refl) in
      let r = joins_below ss (union G i.0) E (within_join G i.0 E w i.2) (λ t m. f t (there m)) in
      (r.0, each_intro (λ F. joins L (union G F) ss) i.1 r.1, r.2)

  pub joins_small : (A : ℕ) → ((s F : ℕ) → Mem F (L s) → F < 2 ^ A) → (ss : List ℕ) (G : ℕ) {H : ℕ} → G < 2 ^ A → Mem H (joins L G ss) → H < 2 ^ A
  unfolding joins
  joins_small A f [] G {H} h m = rw (Memᴰ.eq_of_singleton m) h
  joins_small A f (s ∷ ss) G h m =
      let e = each_elim (λ F. joins L (union G F) ss) (L s) m in
      joins_small A f ss (union G e.0) (or_lt A G e.0 h (f s e.0 e.1)) e.2

  -- a candidate is old, or a join for a justification of n
  pub candidates_cases : (old : List ℕ) (J : List Justification) (n : ℕ) {H : ℕ} → Mem H (candidates L old J n)
      → Mem H old ⊎ ((r : Justification) × Mem r J × (r.consequent ≡ n) × Mem H (joins L zero r.supports))
  unfolding candidates joins_for
  candidates_cases old J n m =
      ⊎_elim inl
      (λ h.
      let e = each_elim (λ (r : Justification). joins L zero r.supports) (those (λ (r : Justification). eqb r.consequent n) J) h in
      let f = those_elim (λ (r : Justification). eqb r.consequent n) J e.1 in
      inr (e.0, f.0, eqb-true e.0.consequent n f.1, e.2))
      (Memᴰ.append_cases old m)

  pub candidates_old : {old : List ℕ} (J : List Justification) (n : ℕ) {H : ℕ} → Mem H old → Mem H (candidates L old J n)
  unfolding candidates joins_for
  candidates_old J n m = Memᴰ.append_left (each (λ (r : Justification). joins L zero r.supports) (those (λ (r : Justification). eqb r.consequent n) J)) m

  pub candidates_join : (old : List ℕ) (J : List Justification) (n : ℕ) {H : ℕ} (r : Justification) → Mem r J → r.consequent ≡ n → Mem H (joins L zero r.supports) → Mem H (candidates L old J n)
  unfolding candidates joins_for
  candidates_join old J n r m e h =
      Memᴰ.append_right old
      (each_intro (λ (r : Justification). joins L zero r.supports) (those_intro (λ (r : Justification). eqb r.consequent n) m (eq-eqb r.consequent n e)) h)

module _ (A : ℕ) (J : List Justification) (k : ℕ) where
  -- ---- the candidates of the next stage are sound and complete
  join_sound : (n : ℕ) {H : ℕ} (r : Justification) → Mem r J → r.consequent ≡ n → Mem H (joins (label_at A J k) zero r.supports) → (H < 2 ^ A) × (follows J (suc k) H n ≡ true)
  join_sound n {H} r m e h = (
    joins_small (label_at A J k) A (λ s F f. (label_elim A J k s f).small) r.supports zero (pow_pos A) h,
    follows_by J k H n r m (record { of = e; by = λ s t. let i = joins_above (label_at A J k) r.supports zero h s t in label_above A J k s H i.1 i.2 }),
  )

  join_complete : (E n : ℕ) → E < 2 ^ A → follows J k E zero ≡ false → (r : Justification) → Gives (follows J k E) n r → Inside (joins (label_at A J k) zero r.supports) E
  join_complete E n h c r g = joins_below (label_at A J k) r.supports zero E (within_zero E) (λ s m. label_below A J k s E h (g.by s m) c)

  abbrev pub label_cands : ℕ → List ℕ
  label_cands n = candidates (label_at A J k) (label_at A J k n) J n

  abbrev pub nogood_cands : List ℕ
  nogood_cands = candidates (label_at A J k) (nogoods_at A J k) J zero

  pub label_sound : (n : ℕ) {H : ℕ} → Mem H (label_cands n) → (H < 2 ^ A) × (follows J (suc k) H n ≡ true)
  label_sound n {H} m =
      ⊎_elim (λ o. let i = label_elim A J k n o in (i.small, follows_keep J k H n i.least.has))
      (λ j. join_sound n j.0 j.1 j.2 j.3) (candidates_cases (label_at A J k) (label_at A J k n) J n m)

  pub nogood_sound : {H : ℕ} → Mem H nogood_cands → (H < 2 ^ A) × (follows J (suc k) H zero ≡ true)
  nogood_sound {H} m =
      ⊎_elim (λ o. let i = nogood_elim A J k o in (i.small, follows_keep J k H zero i.least.has))
      (λ j. join_sound zero j.0 j.1 j.2 j.3) (candidates_cases (label_at A J k) (nogoods_at A J k) J zero m)

  pub label_complete : (n E : ℕ) → E < 2 ^ A → follows J k E zero ≡ false → follows J (suc k) E n ≡ true → Inside (label_cands n) E
  label_complete n E h c f =
      ⊎_elim (λ o. let i = label_below A J k n E h o c in (i.0, candidates_old (label_at A J k) J n i.1, i.2))
      (λ g. let i = join_complete E n h c g.0 g.2 in
      (i.0, candidates_join (label_at A J k) (label_at A J k n) J n g.0 g.1 g.2.of i.1, i.2))
      (follows_cases J k E n f)

  pub nogood_complete : (E : ℕ) → E < 2 ^ A → follows J (suc k) E zero ≡ true → Inside nogood_cands E
  nogood_complete E h f =
      ⊎_elim (λ o. let i = nogood_below A J k E h o in (i.0, candidates_old (label_at A J k) J zero i.1, i.2))
      (λ c. ⊎_elim (λ o. clash o c)
      (λ g. let i = join_complete E zero h c g.0 g.2 in
      (i.0, candidates_join (label_at A J k) (nogoods_at A J k) J zero g.0 g.1 g.2.of i.1, i.2))
      (follows_cases J k E zero f))
      (either (follows J k E zero))

-- E is in the list, and no other member lies within it
pub record Least (l : List ℕ) (E : ℕ) : Type 0 where
  pub mem : Mem E l
  pub alone : (F : ℕ) → Mem F l → within F E ≡ true → F ≡ E

module _ (A : ℕ) (J : List Justification) (k : ℕ) where
  pub nogood_step : (E : ℕ) → Mem E (nogoods_at A J (suc k)) ↔ Least (nogood_cands A J k) E
  nogood_step E = (to, from)
    where
      to : Mem E (nogoods_at A J (suc k)) → Least (nogood_cands A J k) E
      to m =
          let i = nogood_elim A J (suc k) m in
          let alone : (F : ℕ) → Mem F (nogood_cands A J k) → within F E ≡ true → F ≡ E = λ F n w. i.least.least F w (nogood_sound A J k n).1 in
          let c = nogood_complete A J k E i.small i.least.has in
          record { mem = rw (alone c.0 c.1 c.2) at c.1; alone = alone }

      from : Least (nogood_cands A J k) E → Mem E (nogoods_at A J (suc k))
      from l =
          let s = nogood_sound A J k l.mem in
          nogood_intro A J (suc k) (record {
            small = s.0;
            least = record {
              has = s.1;
              least = λ F w f.
                  let c = nogood_complete A J k F (within_below A F E w s.0) f in
                  let e : c.0 ≡ E = l.alone c.0 c.1 (within_trans c.0 F E c.2 w) in
                  within_antisym F E w (subst (λ (G : ℕ). within G F ≡ true) e c.2);
            };
          })

  pub label_step : (n E : ℕ) → Mem E (label_at A J (suc k) n) ↔ ((contains (nogoods_at A J (suc k)) E ≡ false) × Least (label_cands A J k n) E)
  label_step n E = (to, from)
    where
      earlier : (F : ℕ) → follows J (suc k) F zero ≡ false → follows J k F zero ≡ false
      earlier F c = not_so (follows J k F zero) (λ f. clash (follows_keep J k F zero f) c)

      to : Mem E (label_at A J (suc k) n) → (contains (nogoods_at A J (suc k)) E ≡ false) × Least (label_cands A J k n) E
      to m =
          let i = label_elim A J (suc k) n m in
          let alone : (F : ℕ) → Mem F (label_cands A J k n) → within F E ≡ true → F ≡ E = λ F o w. i.least.least F w (label_sound A J k n o).1 in
          let c = label_complete A J k n E i.small (earlier E i.clean) i.least.has in
          (inconsistent A J (suc k) E i.small ∙ i.clean, record { mem = rw (alone c.0 c.1 c.2) at c.1; alone = alone })

      from : (contains (nogoods_at A J (suc k)) E ≡ false) × Least (label_cands A J k n) E → Mem E (label_at A J (suc k) n)
      from p =
          let l : Least (label_cands A J k n) E = p.1 in
          let s = label_sound A J k n l.mem in
          let clean : follows J (suc k) E zero ≡ false = sym (inconsistent A J (suc k) E s.0) ∙ p.0 in
          label_intro A J (suc k) n (record {
            small = s.0;
            clean = clean;
            least = record {
              has = s.1;
              least = λ F w f.
                  let c = label_complete A J k n F (within_below A F E w s.0) (earlier F (clean_below A J (suc k) F E w clean)) f in
                  let e : c.0 ≡ E = l.alone c.0 c.1 (within_trans c.0 F E c.2 w) in
                  within_antisym F E w (subst (λ (G : ℕ). within G F ≡ true) e c.2);
            };
          })
