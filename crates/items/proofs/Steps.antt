-- The header, the supports and a record, step by step, as the code reads them. Assumes nothing.
use mathlib.Core.Bool.{Bool, true, false}
use mathlib.Core.List.{List, [], ◌∷◌, ◌++◌, append_assoc, append-nil}
use mathlib.Core.Path.{◌∙◌, ◌≡◌, ap, refl, sym}
use Prim.Native.Nat.{ℕ, ◌+◌, ◌-◌, ◌<◌, ◌≤◌, suc}
use native.Mathlib.Omega.{arith}
use lib.Dec.{ltb}
use lib.ListN.{length, length-set, set, take}
use borrow.Author.Tests.{le-ltb, lt-ltb, ne_eqb}
use Rattle.std.proofs.lemmas.List.{take_all, take_more_set}
use Rattle.std.specs.Prelude.{Ok, Err, ⊤}
use Rattle.items.proofs.Taken.{numbers_took, unless_no, unless_yes}
use Rattle.replies.proofs.Checked.{checked_done, checked_refusal}
use Rattle.items.specs.Items.{Header, Item, header_from, numbers_from, record_from, unless}
use Rattle.items.specs.Steps.{counts_from, counts_of, entry_from, within_of}
use Rattle.items.specs.declared.Counts.{Counts}
use Rattle.numbers.proofs.Numbers.{Past, Took, fault, faulted, number_took, past_more, past_none, takes, two_then, two_took}
use Rattle.numbers.specs.Numbers.{Taken, got, bad, and_then, number_from, two_from}
use Rattle.numbers.specs.Reader.{Takes, left}
use Rattle.numbers.specs.declared.Reader.{Reader}
use Rattle.replies.specs.Replies.{checked, number_of}
use Rattle.replies.specs.declared.Reply.TheVariants.{Done, Counts as Over, Full, Supports}
use Rattle.replies.specs.declared.Reply.{Reply}
use Rattle.rules.specs.Held.{entry_of}
use Rattle.rules.specs.Items.{fault_of, justification_of}
use Rattle.rules.specs.declared.Entry.{Entry}
use Rattle.theory.specs.Limits.{limits, over_counts}
use Rattle.theory.specs.Lists.{choose}

-- ---- the header

-- what the limits leave of three numbers
after_three : ℕ → ℕ → ℕ → List ℕ → Taken Header
after_three A M J rest = choose (over_counts A M) (bad Over) (choose (ltb limits.held J) (bad Full) (got (record { assumptions = A; claims = M; records = J }) rest))

limited_got : (s t : Bool) (f g : Reply) (h : Header) (c : Counts) (rest : List ℕ) → Ok c ≡ choose s (Err f) (choose t (Err g) (Ok (counts_of h)))
    → and_then (choose s (bad f) (choose t (bad g) (got h rest))) (λ x m. got (counts_of x) m) ≡ got c rest
limited_got true t f g h c rest e = absurd cc
limited_got false true f g h c rest e = absurd cc
limited_got false false f g h c rest e = let p : counts_of h ≡ c = cc in ap (λ (x : Counts). got x rest) p

limited_bad : (s t : Bool) (f g r : Reply) (h : Header) (rest : List ℕ) → Err r ≡ choose s (Err f) (choose t (Err g) (Ok (counts_of h)))
    → and_then (choose s (bad f) (choose t (bad g) (got h rest))) (λ x m. got (counts_of x) m) ≡ bad r
limited_bad true t f g r h rest e = let p : f ≡ r = cc in ap bad p
limited_bad false true f g r h rest e = let p : g ≡ r = cc in ap bad p
limited_bad false false f g r h rest e = absurd cc

header_two : (l : List ℕ) → header_from l ≡ and_then (two_from l) (λ p l₁. and_then (number_from l₁) (λ J l₂. after_three p.0 p.1 J l₂))
unfolding header_from after_three
header_two l = sym (two_then (λ A M l₁. and_then (number_from l₁) (λ J l₂. after_three A M J l₂)) l)

pub header_first : (r s : Reader) (f : Reply) → Takes two_from r s (Err f) → Takes counts_from r r (Err f)
header_first r s f e = fault counts_from r f (rw (header_two (left r), faulted two_from r s f e))

module _ (r s : Reader) (A M : ℕ) (two : Takes two_from r s (Ok (A, M))) where
  p : Took two_from r s (A, M)
  p = two_took r s A M two

  pub header_second : (t : Reader) (f : Reply) → Takes number_from s t (Err f) → Takes counts_from r r (Err f)
  header_second t f e = fault counts_from r f (rw (header_two (left r), p.taken, faulted number_from s t f e))

  module _ (t : Reader) (J : ℕ) (number : Takes number_from s t (Ok J)) where
    q : Took number_from s t J
    q = number_took s t J number

    pub header_over : (f : Reply) → Err f ≡ within_of A M J → Takes counts_from r r (Err f)
    unfolding within_of after_three
    header_over f e = fault counts_from r f (rw (header_two (left r), p.taken, q.taken) (limited_bad (over_counts A M) (ltb limits.held J) Over Full f _ (left t) e))

    pub header_whole : (c : Counts) → Ok c ≡ within_of A M J → Takes counts_from r t (Ok c)
    unfolding within_of after_three
    header_whole c e =
        takes counts_from r t c
        (record { taken = rw (header_two (left r), p.taken, q.taken) (limited_got (over_counts A M) (ltb limits.held J) Over Full _ c (left t) e); past = past_more r s t p.past q.past })

-- ---- the supports

-- numbers read before, in front of those taken
abbrev prefixed : List ℕ → Taken (List ℕ) → Taken (List ℕ)
prefixed xs (got ys rest) = got (xs ++ ys) rest
prefixed xs (bad f) = bad f

prefixed_nil : (t : Taken (List ℕ)) → t ≡ prefixed [] t
prefixed_nil (got ys rest) = refl
prefixed_nil (bad f) = refl

prefixed_more : (xs : List ℕ) (n : ℕ) (t : Taken (List ℕ)) → prefixed xs (and_then t (λ ys rest. got (n ∷ ys) rest)) ≡ prefixed (xs ++ (n ∷ [])) t
prefixed_more xs n (got ys rest) = ap (λ (zs : List ℕ). got zs rest) (sym (append_assoc xs (n ∷ []) ys))
prefixed_more xs n (bad f) = refl

-- i of the places are filled, and the reading goes on where s stands
pub record Partly (r s : Reader) (k : ℕ) (places : List ℕ) (i : ℕ) : Type 0 where
  pub few : i ≤ k
  pub long : length places ≡ k
  pub rest : numbers_from k (left r) ≡ prefixed (take i places) (numbers_from (k - i) (left s))
  pub past : Past r s

module _ (r : Reader) (k : ℕ) where
  pub partly_none : (places : List ℕ) → length places ≡ k → Partly r r k places 0
  partly_none places h =
      let e : k - 0 ≡ k = omega arith in
      record { few = omega arith; long = h; rest = rw e (prefixed_nil (numbers_from k (left r))); past = past_none r }

  module _ (s : Reader) (places : List ℕ) (i : ℕ) (p : Partly r s k places i) where
    module _ (less : i < k) where
      onward : numbers_from (k - i) (left s) ≡ and_then (number_from (left s)) (λ x l₁. and_then (numbers_from (k - (i + 1)) l₁) (λ xs l₂. got (x ∷ xs) l₂))
      unfolding numbers_from
      onward = let e : k - i ≡ suc (k - (i + 1)) = omega arith in rw e

      pub partly_bad : (t : Reader) (f : Reply) → Takes number_from s t (Err f) → Takes (numbers_from k) r r (Err f)
      partly_bad t f e = fault (numbers_from k) r f (rw (p.rest, onward, faulted number_from s t f e))

      pub partly_more : (t : Reader) (n : ℕ) → Takes number_from s t (Ok n) → Partly r t k (set places i n) (i + 1)
      partly_more t n e =
          let q : Took number_from s t n = number_took s t n e in
          record {
            few = omega arith;
            long = length-set places i n ∙ p.long;
            rest = rw (p.rest, onward, q.taken) (prefixed_more (take i places) n (numbers_from (k - (i + 1)) (left t)) ∙ ap (λ (x : List ℕ). prefixed x (numbers_from (k - (i + 1)) (left t))) (sym (take_more_set places i n (omega (arith, p.long)))));
            past = past_more r s t p.past q.past;
          }

    pub partly_all : k ≤ i → Takes (numbers_from k) r s (Ok places)
    unfolding numbers_from
    partly_all h =
        let e : k - i ≡ 0 = omega arith in
        takes (numbers_from k) r s places (record { taken = rw (p.rest, e, append-nil, take_all i places (omega (arith, p.long))); past = p.past })

-- ---- a record

-- the places of the supports, before they are read
abbrev pub zeros : List ℕ
zeros = 0 ∷ 0 ∷ 0 ∷ 0 ∷ []

-- what comes after a record's number of supports
after_count : ℕ → ℕ → ℕ → List ℕ → Taken Item
after_count N c k l = choose (ltb limits.supports k) (bad Supports) (and_then (numbers_from k l) (λ s rest. unless (fault_of N c s) (record { consequent = c; supports = s }) rest))

record_two : (N : ℕ) (l : List ℕ) → record_from N l ≡ and_then (two_from l) (λ p l₁. after_count N p.0 p.1 l₁)
unfolding record_from after_count
record_two N l = sym (two_then (λ c k l₁. after_count N c k l₁) l)

module _ (N : ℕ) (r s : Reader) where
  pub record_first : (f : Reply) → Takes two_from r s (Err f) → Takes (entry_from N) r r (Err f)
  record_first f e = fault (entry_from N) r f (rw (record_two N (left r), faulted two_from r s f e))

  module _ (c k : ℕ) (two : Takes two_from r s (Ok (c, k))) where
    pair : Took two_from r s (c, k)
    pair = two_took r s c k two

    pub record_many : limits.supports < k → Takes (entry_from N) r r (Err Supports)
    unfolding after_count
    record_many h = fault (entry_from N) r Supports (rw (record_two N (left r), pair.taken, lt-ltb limits.supports k h))

    module _ (small : k ≤ limits.supports) (t : Reader) where
      pub record_short : (f : Reply) → Takes (numbers_from k) s t (Err f) → Takes (entry_from N) r r (Err f)
      unfolding after_count
      record_short f e = fault (entry_from N) r f (rw (record_two N (left r), pair.taken, le-ltb limits.supports k small, faulted (numbers_from k) s t f e))

      module _ (x : List ℕ) (list : Takes (numbers_from k) s t (Ok x)) where
        read : Took (numbers_from k) s t x
        read = numbers_took k s t x list

        abbrev given : Item
        given = record { consequent = c; supports = x }

        pub record_faulty : (f : Reply) → Err f ≡ checked (fault_of N c x) → Takes (entry_from N) r r (Err f)
        unfolding after_count
        record_faulty f e =
            let q = checked_refusal (fault_of N c x) f (sym e) in
            fault (entry_from N) r f
            (rw (record_two N (left r), pair.taken, le-ltb limits.supports k small, read.taken, unless_no N given (left t) (ne_eqb (number_of (fault_of N c x)) 0 (λ w. q.1 (sym (ap number_of q.0) ∙ w))), q.0))

        pub record_whole : (u : ⊤) → Ok u ≡ checked (fault_of N c x) → (e : Entry) → e ≡ entry_of (justification_of N c x) → Takes (entry_from N) r t (Ok e)
        unfolding after_count
        record_whole u g e h =
            let d : fault_of N c x ≡ Done = checked_done (fault_of N c x) u (sym g) in
            takes (entry_from N) r t e
            (record { taken = rw (record_two N (left r), pair.taken, le-ltb limits.supports k small, read.taken, unless_yes N given (left t) d, h); past = past_more r s t pair.past read.past })
