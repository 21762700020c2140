-- Labels and nogoods at a stage: what membership means, and what they say of a set. Assumes nothing.
use mathlib.Core.Bool.{Bool, ◌&&◌, ◌||◌, false, not, true}
use mathlib.Core.List.{List, Memᴰ as Mem}
use mathlib.Core.Path.{◌∙◌, ◌≡◌, ap, sym}
use Prim.Native.Nat.{◌+◌, ◌<◌, ◌^◌, ◌≤◌, zero, ℕ}
use native.Mathlib.Numerals.{add-one}
use lib.ListN.{drop, drop_of_length-le, get_or, length}
use lib.Seq.{drop-cons}
use borrow.Author.Tests.{not-true}
use Rattle.theory.proofs.Following.{follows_more}
use Rattle.theory.proofs.Listing.{Minimal, contains_minimal, listing_elim, listing_intro, minimal_elim, minimal_intro}
use Rattle.theory.proofs.Lists.{and_intro, and_left, and_right, clash, not_so, same_test, some_elim, some_intro, those_elim, those_intro}
use Rattle.theory.specs.Lists.{some_of}
use Rattle.theory.specs.Sets.{contains, listing, within}
use Rattle.theory.specs.Stages.{Justification, follows, label_at, label_of, minimal, nogoods_at, nogoods_of}

pub contains_intro : {l : List ℕ} {F : ℕ} (E : ℕ) → Mem F l → within F E ≡ true → contains l E ≡ true
unfolding contains
contains_intro E m w = some_intro (λ F. within F E) m w

pub contains_elim : (l : List ℕ) (E : ℕ) → contains l E ≡ true → (F : ℕ) × Mem F l × (within F E ≡ true)
unfolding contains
contains_elim l E h = some_elim (λ F. within F E) l h

-- a loop over the list: the first of what is left, and the rest
pub contains_drop : (l : List ℕ) (E i : ℕ) → i < length l → contains (drop i l) E ≡ within (get_or l i 0) E || contains (drop (i + 1) l) E
unfolding contains some_of
contains_drop l E i h = rw (drop-cons l i 0 h, add-one)

pub contains_end : (l : List ℕ) (E i : ℕ) → length l ≤ i → contains (drop i l) E ≡ false
unfolding contains some_of
contains_end l E i h = rw (drop_of_length-le l h)

module _ (A : ℕ) (J : List Justification) (k : ℕ) where
  pub record InNogoods (E : ℕ) : Type 0 where
    pub small : E < 2 ^ A
    pub least : Minimal A (λ F. follows J k F zero) E

  pub record InLabel (n E : ℕ) : Type 0 where
    pub small : E < 2 ^ A
    pub least : Minimal A (λ F. follows J k F n) E
    pub clean : follows J k E zero ≡ false

  pub nogood_elim : {E : ℕ} → Mem E (nogoods_at A J k) → InNogoods E
  unfolding nogoods_at nogoods_of
  nogood_elim {E} m =
      let P : ℕ → Bool = λ F. follows J k F zero in
      let f = those_elim (minimal A P) (listing A) m in
      let h : E < 2 ^ A = listing_elim A f.0 in
      record { small = h; least = minimal_elim A P E h f.1 }

  pub nogood_intro : {E : ℕ} → InNogoods E → Mem E (nogoods_at A J k)
  unfolding nogoods_at nogoods_of
  nogood_intro {E} i =
      let P : ℕ → Bool = λ F. follows J k F zero in
      those_intro (minimal A P) (listing_intro A i.small) (minimal_intro A P E i.least)

  pub label_elim : (n : ℕ) {E : ℕ} → Mem E (label_at A J k n) → InLabel n E
  unfolding label_at label_of
  label_elim n {E} m =
      let P : ℕ → Bool = λ F. follows J k F n in
      let f = those_elim (λ F. minimal A P F && not (follows J k F zero)) (listing A) m in
      let h : E < 2 ^ A = listing_elim A f.0 in
      let t : Bool = minimal A P E in
      let u : Bool = not (follows J k E zero) in
      record { small = h; least = minimal_elim A P E h (and_left t u f.1); clean = not-true (follows J k E zero) (and_right t u f.1) }

  pub label_intro : (n : ℕ) {E : ℕ} → InLabel n E → Mem E (label_at A J k n)
  unfolding label_at label_of
  label_intro n {E} i =
      let P : ℕ → Bool = λ F. follows J k F n in
      those_intro (λ F. minimal A P F && not (follows J k F zero)) (listing_intro A i.small) (and_intro (minimal_intro A P E i.least) (ap not i.clean))

  -- ---- what a list says of the sets above its members

  pub nogood_above : {F : ℕ} (E : ℕ) → Mem F (nogoods_at A J k) → within F E ≡ true → follows J k E zero ≡ true
  nogood_above {F} E m w = follows_more J k F E zero w (nogood_elim m).least.has

  pub nogood_below : (E : ℕ) → E < 2 ^ A → follows J k E zero ≡ true → (F : ℕ) × Mem F (nogoods_at A J k) × (within F E ≡ true)
  nogood_below E h f =
      let P : ℕ → Bool = λ F. follows J k F zero in
      let r = contains_minimal A P E h f in
      (r.0, nogood_intro (record { small = r.2; least = minimal_elim A P r.0 r.2 r.3 }), r.1)

  pub label_above : (n : ℕ) {F : ℕ} (E : ℕ) → Mem F (label_at A J k n) → within F E ≡ true → follows J k E n ≡ true
  label_above n {F} E m w = follows_more J k F E n w (label_elim n m).least.has

  pub clean_below : (F E : ℕ) → within F E ≡ true → follows J k E zero ≡ false → follows J k F zero ≡ false
  clean_below F E w c = not_so (follows J k F zero) (λ f. clash (follows_more J k F E zero w f) c)

  pub label_below : (n E : ℕ) → E < 2 ^ A → follows J k E n ≡ true → follows J k E zero ≡ false → (F : ℕ) × Mem F (label_at A J k n) × (within F E ≡ true)
  label_below n E h f c =
      let P : ℕ → Bool = λ F. follows J k F n in
      let r = contains_minimal A P E h f in
      (r.0, label_intro n (record { small = r.2; least = minimal_elim A P r.0 r.2 r.3; clean = clean_below r.0 E r.1 c }), r.1)

  -- E is inconsistent if and only if it contains a nogood
  pub inconsistent : (E : ℕ) → E < 2 ^ A → contains (nogoods_at A J k) E ≡ follows J k E zero
  inconsistent E h =
      same_test (λ c. let w = contains_elim (nogoods_at A J k) E c in nogood_above E w.1 w.2)
      (λ f. let w = nogood_below E h f in contains_intro E w.1 w.2)

  -- of a consistent E: n follows if and only if E contains a member of n's label
  pub supported : (n E : ℕ) → E < 2 ^ A → contains (nogoods_at A J k) E ≡ false → contains (label_at A J k n) E ≡ follows J k E n
  supported n E h c =
      same_test (λ d. let w = contains_elim (label_at A J k n) E d in label_above n E w.1 w.2)
      (λ f. let w = label_below n E h f (sym (inconsistent E h) ∙ c) in contains_intro E w.1 w.2)
