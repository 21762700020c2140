-- What is taken from a file lies in it, and a fault of it is not done: the header, the supports, a record. Assumes nothing.
use mathlib.Core.Bool.{Bool, ◌||◌, true, false}
use mathlib.Core.List.{List, [], ◌∷◌}
use mathlib.Core.Logic.{⊎_elim}
use mathlib.Core.Path.{◌∙◌, ◌≡◌, ap, ap₂, refl, subst, sym}
use Prim.Native.Nat.{ℕ, ◌≤◌, suc, zero}
use native.Mathlib.Omega.{arith}
use lib.Dec.{eqb, ltb}
use lib.ListN.{drop, length}
use borrow.Author.Tests.{eqb-true, ltb-false}
use Rattle.items.specs.Items.{Header, Item, header_from, numbers_from, record_from, unless}
use Rattle.items.specs.Steps.{counts_from, counts_of, entry_from}
use Rattle.items.specs.declared.Counts.{Counts}
use Rattle.rules.specs.declared.Entry.{Entry}
use Rattle.std.specs.Prelude.{Ok, Err}
use Rattle.numbers.proofs.Numbers.{Onward, Past, Took, chosen, faulted, onward, onward_bad, onward_got, onward_then, took}
use Rattle.numbers.specs.Numbers.{Taken, got, bad, and_then, number_from}
use Rattle.numbers.specs.Reader.{Takes, left}
use Rattle.numbers.specs.declared.Reader.{Reader}
use Rattle.replies.proofs.Laws.{zero_done}
use Rattle.replies.specs.Replies.{number_of}
use Rattle.replies.specs.declared.Reply.TheVariants.{Counts as Over, Done, Full, Supports}
use Rattle.replies.specs.declared.Reply.{Reply}
use Rattle.rules.specs.Held.{entry_of}
use Rattle.rules.specs.Items.{fault_of, justification_of}
use Rattle.theory.proofs.Lists.{clash, either}
use Rattle.theory.specs.Limits.{limits, over_counts}
use Rattle.theory.specs.Lists.{choose}

-- ---- what is taken is so

unfoldable pub Each : {X : Type 0} → (X → Type 0) → Taken X → Type 0
Each P (got x rest) = P x
Each P (bad f) = Unit

each_then : {X Y : Type 0} (P : Y → Type 0) (t : Taken X) (f : X → List ℕ → Taken Y) → ((x : X) (rest : List ℕ) → Each P (f x rest)) → Each P (and_then t f)
unfolding Each
each_then P (got x rest) f g = g x rest
each_then P (bad r) f g = tt

each_held : {X Y : Type 0} (P : X → Type 0) (Q : Y → Type 0) (t : Taken X) (f : X → List ℕ → Taken Y) → Each P t → ((x : X) (rest : List ℕ) → P x → Each Q (f x rest)) → Each Q (and_then t f)
unfolding Each
each_held P Q (got x rest) f p g = g x rest p
each_held P Q (bad r) f p g = tt

-- ---- the header

-- what a header's counts are the counts of
abbrev pub header_of : Counts → Header
header_of c = record { assumptions = c.assumptions; claims = c.claims; records = c.records }

-- counts within the limits
pub record Limited (h : Header) : Type 0 where
  pub assumptions : h.assumptions ≤ limits.assumptions
  pub claims : h.claims ≤ limits.claims
  pub records : h.records ≤ limits.held

neither : (a b : Bool) → a || b ≡ false → (a ≡ false) × (b ≡ false)
neither false b e = (refl, e)
neither true b e = clash refl e

limited : (A M J : ℕ) (rest : List ℕ) → Each Limited (choose (over_counts A M) (bad Over) (choose (ltb limits.held J) (bad Full) (got (record { assumptions = A; claims = M; records = J }) rest)))
unfolding Each
limited A M J rest = go (over_counts A M) (ltb limits.held J) (λ e. neither (ltb limits.assumptions A) (ltb limits.claims M) e) (λ e. ltb-false limits.held J e)
  where
    go : (s t : Bool) → (s ≡ false → (ltb limits.assumptions A ≡ false) × (ltb limits.claims M ≡ false)) → (t ≡ false → J ≤ limits.held) → Each Limited (choose s (bad Over) (choose t (bad Full) (got (record { assumptions = A; claims = M; records = J }) rest)))
    go true t f g = tt
    go false true f g = tt
    go false false f g = record { assumptions = ltb-false limits.assumptions A (f refl).0; claims = ltb-false limits.claims M (f refl).1; records = g refl }

module _ (l : List ℕ) where
  pub header_limited : Each Limited (header_from l)
  unfolding header_from
  header_limited =
      each_then Limited (number_from l) _ (λ A l₁. each_then Limited (number_from l₁) _ (λ M l₂. each_then Limited (number_from l₂) _ (λ J l₃. limited A M J l₃)))

  pub header_onward : Onward l (header_from l)
  unfolding header_from
  header_onward =
      onward_then l (number_from l) _ (onward l 0) (λ A p h. onward_then l (number_from (drop p l)) _ (onward l p) (λ M q k. onward_then l (number_from (drop q l)) _ (onward l q) (λ J r m.
      chosen (Onward l) (over_counts A M) (onward_bad Header l Over refl) (chosen (Onward l) (ltb limits.held J) (onward_bad Header l Full refl) (onward_got l (record { assumptions = A; claims = M; records = J }) r m)))))

  counts_onward : Onward l (counts_from l)
  counts_onward = onward_then l (header_from l) _ header_onward (λ h k m. onward_got l (counts_of h) k m)

counts_limited : (l : List ℕ) → Each (λ (c : Counts). Limited (header_of c)) (counts_from l)
unfolding Each
counts_limited l = each_held Limited (λ (c : Counts). Limited (header_of c)) (header_from l) _ (header_limited l) (λ h rest p. p)

counts_got : (t : Taken Header) (c : Counts) (rest : List ℕ) → and_then t (λ h rest. got (counts_of h) rest) ≡ got c rest → t ≡ got (header_of c) rest
counts_got (got h l) c rest e =
    let p : counts_of h ≡ c = cc in
    let q : l ≡ rest = cc in
    ap₂ got (ap header_of p) q
counts_got (bad f) c rest e = absurd cc

faulty_then : {X Y : Type 0} (t : Taken X) (g : X → Y) (f : Reply) → and_then t (λ x rest. got (g x) rest) ≡ bad f → t ≡ bad f
faulty_then (got x rest) g f e = absurd cc
faulty_then (bad r) g f e = let p : r ≡ f = cc in ap bad p

-- the counts of a header, within the limits, and where the reader stands after it
pub record Headed (r s : Reader) (c : Counts) : Type 0 where
  pub taken : header_from (left r) ≡ got (header_of c) (left s)
  pub past : Past r s
  pub limited : Limited (header_of c)

each_got : {X : Type 0} (P : X → Type 0) (t : Taken X) (x : X) (rest : List ℕ) → Each P t → t ≡ got x rest → P x
unfolding Each
each_got P (got y l) x rest p e = let q : y ≡ x = cc in subst P q p
each_got P (bad f) x rest p e = absurd cc

pub header_read : (r s : Reader) (c : Counts) → Takes counts_from r s (Ok c) → Headed r s c
header_read r s c p =
    let t : Took counts_from r s c = took counts_from r (counts_onward (left r)) s c p in
    record {
      taken = counts_got (header_from (left r)) c (left s) t.taken;
      past = t.past;
      limited = each_got (λ (x : Counts). Limited (header_of x)) (counts_from (left r)) c (left s) (counts_limited (left r)) t.taken;
    }

pub header_fault : (r s : Reader) (f : Reply) → Takes counts_from r s (Err f) → header_from (left r) ≡ bad f
header_fault r s f p = faulty_then (header_from (left r)) counts_of f (faulted counts_from r s f p)

-- ---- the supports

pub numbers_onward : (l : List ℕ) (k at : ℕ) → at ≤ length l → Onward l (numbers_from k (drop at l))
unfolding numbers_from
numbers_onward l zero at h = onward_got l [] at h
numbers_onward l (suc k) at h =
    onward_then l (number_from (drop at l)) _ (onward l at) (λ x p m. onward_then l (numbers_from k (drop p l)) _ (numbers_onward l k p m) (λ xs q n. onward_got l (x ∷ xs) q n))

pub numbers_many : (k : ℕ) (l : List ℕ) → Each (λ s. length s ≡ k) (numbers_from k l)
unfolding numbers_from Each
numbers_many zero l = refl
numbers_many (suc k) l =
    each_then (λ s. length s ≡ suc k) (number_from l) _ (λ x m. each_held (λ s. length s ≡ k) (λ s. length s ≡ suc k) (numbers_from k m) _ (numbers_many k m) (λ xs rest e. ap suc e))

pub numbers_took : (k : ℕ) (r s : Reader) (x : List ℕ) → Takes (numbers_from k) r s (Ok x) → Took (numbers_from k) r s x
numbers_took k r s x p = took (numbers_from k) r (numbers_onward (left r) k 0 (omega arith)) s x p

-- ---- a record

-- an item without fault, N being A + M
abbrev pub Faultless : ℕ → Item → Type 0
Faultless N i = fault_of N i.consequent i.supports ≡ Done

module _ (N : ℕ) (i : Item) where
  abbrev F : Reply
  F = fault_of N i.consequent i.supports

  pub unless_yes : (rest : List ℕ) → F ≡ Done → unless F i rest ≡ got i rest
  unfolding unless
  unless_yes rest e = rw e

  pub unless_no : (rest : List ℕ) → eqb (number_of F) 0 ≡ false → unless F i rest ≡ bad F
  unfolding unless
  unless_no rest e = rw e

  unless_each : (rest : List ℕ) → Each (Faultless N) (unless F i rest)
  unfolding Each
  unless_each rest =
      ⊎_elim (λ t. let d : F ≡ Done = zero_done F (eqb-true (number_of F) 0 t) in subst (Each (Faultless N)) (sym (unless_yes rest d)) d)
      (λ t. subst (Each (Faultless N)) (sym (unless_no rest t)) tt) (either (eqb (number_of F) 0))

  unless_onward : (l : List ℕ) (k : ℕ) → k ≤ length l → Onward l (unless F i (drop k l))
  unless_onward l k h =
      ⊎_elim (λ t. subst (Onward l) (sym (unless_yes (drop k l) (zero_done F (eqb-true (number_of F) 0 t)))) (onward_got l i k h))
      (λ t. subst (Onward l) (sym (unless_no (drop k l) t)) (onward_bad Item l F t)) (either (eqb (number_of F) 0))

module _ (N : ℕ) where
  pub record_each : (l : List ℕ) → Each (Faultless N) (record_from N l)
  unfolding record_from Each
  record_each l =
      each_then (Faultless N) (number_from l) _ (λ c l₁. each_then (Faultless N) (number_from l₁) _ (λ k l₂.
      chosen (Each (Faultless N)) (ltb limits.supports k) (each_bad Supports) (each_then (Faultless N) (numbers_from k l₂) _ (λ s l₃. unless_each N (record { consequent = c; supports = s }) l₃))))
    where
      each_bad : (f : Reply) → Each (Faultless N) (bad f)
      each_bad f = tt

  pub record_onward : (l : List ℕ) (at : ℕ) → Onward l (record_from N (drop at l))
  unfolding record_from
  record_onward l at =
      onward_then l (number_from (drop at l)) _ (onward l at) (λ c p h. onward_then l (number_from (drop p l)) _ (onward l p) (λ k q m.
      chosen (Onward l) (ltb limits.supports k) (onward_bad Item l Supports refl) (onward_then l (numbers_from k (drop q l)) _ (numbers_onward l k q m) (λ s r n. unless_onward N (record { consequent = c; supports = s }) l r n))))

-- an item taken from the file, as it is held, and where the reader stands after it
pub record Told (N : ℕ) (r s : Reader) (e : Entry) : Type 0 where
  pub item : Item
  pub taken : record_from N (left r) ≡ got item (left s)
  pub past : Past r s
  pub faultless : fault_of N item.consequent item.supports ≡ Done
  pub entered : e ≡ entry_of (justification_of N item.consequent item.supports)

module _ (N : ℕ) where
  abbrev held_as : Item → Entry
  held_as i = entry_of (justification_of N i.consequent i.supports)

  item_got : (r s : Reader) (e : Entry) (t : Taken Item) → record_from N (left r) ≡ t → Each (Faultless N) t → Past r s → and_then t (λ i rest. got (held_as i) rest) ≡ got e (left s) → Told N r s e
  unfolding Each
  item_got r s e (got i l) q d p h =
      let v : held_as i ≡ e = cc in
      let w : l ≡ left s = cc in
      record { item = i; taken = q ∙ ap (got i) w; past = p; faultless = d; entered = sym v }
  item_got r s e (bad f) q d p h = absurd cc

  entry_onward : (l : List ℕ) → Onward l (entry_from N l)
  entry_onward l = onward_then l (record_from N l) _ (record_onward N l 0) (λ i k m. onward_got l (held_as i) k m)

  pub record_read : (r s : Reader) (e : Entry) → Takes (entry_from N) r s (Ok e) → Told N r s e
  record_read r s e p =
      let t : Took (entry_from N) r s e = took (entry_from N) r (entry_onward (left r)) s e p in
      item_got r s e (record_from N (left r)) refl (record_each N (left r)) t.past t.taken

  pub record_fault : (r s : Reader) (f : Reply) → Takes (entry_from N) r s (Err f) → record_from N (left r) ≡ bad f
  record_fault r s f p = faulty_then (record_from N (left r)) held_as f (faulted (entry_from N) r s f p)
