-- A number at a place of the bytes, case by case, and what it says of the bytes from that place on. Assumes nothing.
use mathlib.Core.Bool.{Bool, ◌&&◌, true, false}
use mathlib.Core.List.{List, [], ◌∷◌}
use mathlib.Core.Logic.{⊎_elim}
use mathlib.Core.Path.{◌∙◌, ◌≡◌, ap, ap₂, refl, subst, sym}
use Prim.Native.Nat.{ℕ, ◌+◌, ◌*◌, ◌-◌, ◌<◌, ◌≤◌, suc}
use native.Mathlib.Numerals.{add-one}
use native.Mathlib.Omega.{arith}
use lib.Dec.{eqb, leb, ltb}
use lib.ListN.{drop, drop_of_length-le, get_or, length, length-drop}
use lib.Seq.{drop-cons, drop-drop}
use borrow.Author.Tests.{lt-ltb, le-ltb, ltb-true, ltb-false}
use Rattle.numbers.specs.Numbers.{Taken, got, bad, and_then, second_from, number_from, two_from, placed, number_at, pair_of, past_of}
use Rattle.numbers.specs.declared.Number.{Number}
use Rattle.numbers.specs.declared.Pair.{Pair}
use Rattle.numbers.specs.declared.Reader.{Reader}
use Rattle.numbers.specs.Reader.{Takes, after, left, outcome}
use Rattle.std.specs.Prelude.{Result, Ok, Err}
use Rattle.replies.specs.Replies.{number_of}
use Rattle.replies.specs.declared.Reply.TheVariants.{Ends, Form}
use Rattle.replies.specs.declared.Reply.{Reply}
use Rattle.theory.proofs.Lists.{either}
use Rattle.theory.specs.Lists.{choose}

module _ (l : List ℕ) (at : ℕ) where
  -- b is the first byte, c the one after it
  first : (b : ℕ) → at < length l → b ≡ get_or l at 0 → number_from (drop at l) ≡ choose (ltb b 128) (got b (drop (at + 1) l)) (second_from b (drop (at + 1) l))
  unfolding number_from
  first b h e = ap number_from (drop-cons l at 0 h) ∙ rw (add-one, ← e)

  second : (b c : ℕ) → at + 1 < length l → c ≡ get_or l (at + 1) 0 → second_from b (drop (at + 1) l) ≡ choose (leb 1 c && ltb c 128) (got (b - 128 + 128 * c) (drop (at + 2) l)) (bad Form)
  unfolding second_from
  second b c h q = let e : suc (at + 1) ≡ at + 2 = omega arith in ap (second_from b) (drop-cons l (at + 1) 0 h) ∙ rw (e, ← q)

-- what a second byte makes, whatever bytes come after it
module _ (b c : ℕ) where
  made : (t : Bool) (v n : ℕ) (rest : List ℕ) → Ok n ≡ outcome (choose t (got v []) (bad Form)) → choose t (got v rest) (bad Form) ≡ got n rest
  made true v n rest p = let e : v ≡ n = cc in rw e
  made false v n rest p = absurd cc

  unmade : (t : Bool) (v : ℕ) (f : Reply) (rest : List ℕ) → Err f ≡ outcome (choose t (got v []) (bad Form)) → choose t (got v rest) (bad Form) ≡ bad f
  unmade true v f rest p = absurd cc
  unmade false v f rest p = let e : Form ≡ f = cc in rw e

  second_made : (n : ℕ) (rest : List ℕ) → Ok n ≡ outcome (second_from b (c ∷ [])) → second_from b (c ∷ rest) ≡ got n rest
  unfolding second_from
  second_made n rest p = made (leb 1 c && ltb c 128) (b - 128 + 128 * c) n rest p

  second_refused : (f : Reply) (rest : List ℕ) → Err f ≡ outcome (second_from b (c ∷ [])) → second_from b (c ∷ rest) ≡ bad f
  unfolding second_from
  second_refused f rest p = unmade (leb 1 c && ltb c 128) (b - 128 + 128 * c) f rest p

-- ---- the number at a place, case by case

module _ (l : List ℕ) (at : ℕ) where
  -- n, and the bytes from the place k on
  value : (n k : ℕ) → k ≤ length l → number_from (drop at l) ≡ got n (drop k l) → Ok (record { value = n; next = k }) ≡ number_at l at
  unfolding number_at
  value n k h e = let d : length l - length (drop k l) ≡ k = omega (arith, length-drop k l) in sym (ap (placed l) e ∙ ap (λ (i : ℕ). Ok (record { value = n; next = i })) d)

  refused : (f : Reply) → number_from (drop at l) ≡ bad f → Err f ≡ number_at l at
  unfolding number_at
  refused f e = sym (ap (placed l) e)

  pub no_first : length l ≤ at → Err Ends ≡ number_at l at
  unfolding number_from
  no_first h = refused Ends (ap number_from (drop_of_length-le l {i = at} h))

  module _ (b : ℕ) (h : at < length l) (e : b ≡ get_or l at 0) where
    pub one_byte : b < 128 → Ok (record { value = b; next = at + 1 }) ≡ number_at l at
    one_byte s = value b (at + 1) (omega arith) (rw (first l at b h e, lt-ltb b 128 s))

    module _ (s : 128 ≤ b) where
      on : number_from (drop at l) ≡ second_from b (drop (at + 1) l)
      on = rw (first l at b h e, le-ltb b 128 s)

      pub no_second : length l ≤ at + 1 → Err Ends ≡ number_at l at
      unfolding second_from
      no_second k = refused Ends (on ∙ ap (second_from b) (drop_of_length-le l {i = at + 1} k))

      module _ (c : ℕ) (k : at + 1 < length l) (q : c ≡ get_or l (at + 1) 0) where
        step : second_from b (drop (at + 1) l) ≡ second_from b (c ∷ drop (at + 2) l)
        step = let e : suc (at + 1) ≡ at + 2 = omega arith in ap (second_from b) (drop-cons l (at + 1) 0 k) ∙ rw (e, ← q)

        pub refused_second : (f : Reply) → Err f ≡ outcome (second_from b (c ∷ [])) → Err f ≡ number_at l at
        refused_second f p = refused f (on ∙ step ∙ second_refused b c f (drop (at + 2) l) p)

        pub two_bytes : (n : ℕ) → Ok n ≡ outcome (second_from b (c ∷ [])) → Ok (record { value = n; next = at + 2 }) ≡ number_at l at
        two_bytes n p = value n (at + 2) (omega arith) (on ∙ step ∙ second_made b c n (drop (at + 2) l) p)

-- each case of a number at a place
pub ruleset cases = (no_first, one_byte, no_second, refused_second, two_bytes)

-- ---- what is taken lies in the bytes

-- the bytes from a place on stand at that place
pub place_of : (l : List ℕ) (k : ℕ) → k ≤ length l → length l - length (drop k l) ≡ k
place_of l k h = omega (arith, length-drop k l)

-- the bytes after what is taken are those from a place on; a fault is not done
unfoldable pub Onward : {X : Type 0} → List ℕ → Taken X → Type 0
Onward l (got x rest) = (k : ℕ) × (k ≤ length l) × (rest ≡ drop k l)
Onward l (bad f) = eqb (number_of f) 0 ≡ false

pub onward_got : {X : Type 0} (l : List ℕ) (x : X) (k : ℕ) → k ≤ length l → Onward l (got x (drop k l))
unfolding Onward
onward_got l x k h = (k, h, refl)

pub onward_bad : (X : Type 0) (l : List ℕ) (f : Reply) → eqb (number_of f) 0 ≡ false → Onward {X = X} l (bad f)
unfolding Onward
onward_bad X l f h = h

-- what is taken next lies in the file where the first does
pub onward_then : {X Y : Type 0} (l : List ℕ) (t : Taken X) (f : X → List ℕ → Taken Y) → Onward l t → ((x : X) (k : ℕ) → k ≤ length l → Onward l (f x (drop k l))) → Onward l (and_then t f)
unfolding Onward
onward_then l (got x rest) f (k, h, e) g = subst (λ (r : List ℕ). Onward l (f x r)) (sym e) (g x k h)
onward_then l (bad r) f o g = o

-- one of two that both are so is so
pub chosen : {X : Type 0} (P : X → Type 0) (t : Bool) {x y : X} → P x → P y → P (choose t x y)
chosen P true p q = p
chosen P false p q = q

module _ (l : List ℕ) (at : ℕ) where
  pub onward : Onward l (number_from (drop at l))
  unfolding Onward number_from second_from
  onward =
      ⊎_elim
      (λ t.
      let h : at < length l = ltb-true at (length l) t in
      subst (Onward l) (sym (first l at _ h refl))
      (chosen (Onward l) (ltb (get_or l at 0) 128)
      (at + 1, (omega arith), refl)
      (⊎_elim
      (λ s.
      let k : at + 1 < length l = ltb-true (at + 1) (length l) s in
      subst (Onward l) (sym (second l at _ _ k refl)) (chosen (Onward l) (leb 1 (get_or l (at + 1) 0) && ltb (get_or l (at + 1) 0) 128) (at + 2, (omega arith), refl) refl))
      (λ s. subst (λ (r : List ℕ). Onward l (second_from (get_or l at 0) r)) (sym (drop_of_length-le l {i = at + 1} (ltb-false (at + 1) (length l) s))) refl)
      (either (ltb (at + 1) (length l))))))
      (λ t. subst (λ (r : List ℕ). Onward l (number_from r)) (sym (drop_of_length-le l {i = at} (ltb-false at (length l) t))) refl)
      (either (ltb at (length l)))

-- ---- what a reader takes

-- s is the reader r some bytes on
pub record Past (r s : Reader) : Type 0 where
  pub bytes : s.bytes ≡ r.bytes
  pub on : r.at ≤ s.at
  pub left_so : s.at + length (left s) ≡ r.at + length (left r)

pub past_none : (r : Reader) → Past r r
past_none r = record { bytes = refl; on = omega arith; left_so = refl }

pub past_more : (r s t : Reader) → Past r s → Past s t → Past r t
past_more r s t p q = record { bytes = q.bytes ∙ p.bytes; on = omega (arith, p.on, q.on); left_so = q.left_so ∙ p.left_so }

-- r takes x of what t says, and then is s
pub record Took {X : Type 0} (t : List ℕ → Taken X) (r s : Reader) (x : X) : Type 0 where
  pub taken : t (left r) ≡ got x (left s)
  pub past : Past r s

-- the reader some places on
there : (r s : Reader) (n : ℕ) → s.bytes ≡ r.bytes → s.at ≡ n → s ≡ record r { at = n }
there r s n b e = rw (← b, ← e)

took_from : {X : Type 0} (r : Reader) (u : Taken X) → Onward (left r) u → (s : Reader) (x : X) → Ok x ≡ outcome u → s ≡ after r u → (u ≡ got x (left s)) × Past r s
unfolding Onward
took_from r (got y rest) (k, h, e) s x p q =
    let a : s.at ≡ r.at + (length (left r) - length rest) = ap (λ (x : Reader). x.at) q in
    let b : s.bytes ≡ r.bytes = ap (λ (x : Reader). x.bytes) q in
    let d : length rest ≡ length (left r) - k = ap length e ∙ length-drop k (left r) in
    let n : s.at ≡ r.at + k = omega arith in
    let w : left s ≡ rest = ap₂ (λ (i : ℕ) (y : Reader). drop i y.bytes.now) n q ∙ (sym (drop-drop k r.at r.bytes.now) ∙ sym e) in
    let v : y ≡ x = cc in
    (ap₂ got v (sym w), record { bytes = b; on = omega arith; left_so = omega (arith, ap length w) })
took_from r (bad f) o s x p q = absurd cc

faulted_from : {X : Type 0} (u : Taken X) (f : Reply) → Err f ≡ outcome u → u ≡ bad f
faulted_from (got x rest) f p = absurd cc
faulted_from (bad g) f p = let e : g ≡ f = cc in ap bad e

module _ {X : Type 0} (t : List ℕ → Taken X) (r : Reader) where
  pub takes : (s : Reader) (x : X) → Took t r s x → Takes t r s (Ok x)
  takes s x p =
      let a : s.at ≡ r.at + (length (left r) - length (left s)) = omega (arith, p.past.left_so, p.past.on) in
      record { answered = sym (ap outcome p.taken); stands = there r s _ p.past.bytes a ∙ sym (ap (after r) p.taken) }

  pub fault : (f : Reply) → t (left r) ≡ bad f → Takes t r r (Err f)
  fault f e = record { answered = sym (ap outcome e); stands = sym (ap (after r) e) }

  pub took : Onward (left r) (t (left r)) → (s : Reader) (x : X) → Takes t r s (Ok x) → Took t r s x
  took o s x p = let w = took_from r (t (left r)) o s x p.answered p.stands in record { taken = w.0; past = w.1 }

  pub faulted : (s : Reader) (f : Reply) → Takes t r s (Err f) → t (left r) ≡ bad f
  faulted s f p = faulted_from (t (left r)) f p.answered

-- ---- a number

before_end : (l : List ℕ) (at n : ℕ) (rest : List ℕ) → number_from (drop at l) ≡ got n rest → at < length l
unfolding number_from
before_end l at n rest e =
    ⊎_elim (λ t. ltb-true at (length l) t) (λ t. let z : bad Ends ≡ got n rest = sym (ap number_from (drop_of_length-le l {i = at} (ltb-false at (length l) t))) ∙ e in absurd cc) (either (ltb at (length l)))

module _ (l : List ℕ) (at : ℕ) where
  from_value : (t : Taken ℕ) → Onward (drop at l) t → number_from (drop at l) ≡ t → (n next : ℕ) → placed l t ≡ Ok (record { value = n; next = next }) → (t ≡ got n (drop next l)) × (at ≤ next) × (next ≤ length l)
  unfolding Onward
  from_value (got x rest) (k, h, e) q n next p =
      let b : at < length l = before_end l at x rest q in
      let y : ◌≡◌ {A = Number} (record { value = x; next = length l - length rest }) (record { value = n; next = next }) = cc in
      let d : length rest ≡ length (drop at l) - k = ap length e ∙ length-drop k (drop at l) in
      let i : length l - length rest ≡ next = ap (λ (z : Number). z.next) y in
      let w : next ≡ at + k = omega (arith, length-drop at l) in
      let v : rest ≡ drop next l = e ∙ (drop-drop k at l ∙ ap (λ (j : ℕ). drop j l) (sym w)) in
      (ap₂ got (ap (λ (z : Number). z.value) y) v, omega arith, omega (arith, length-drop at l))
  from_value (bad f) o q n next p = absurd cc

  from_bad : (t : Taken ℕ) (f : Reply) → placed l t ≡ Err f → t ≡ bad f
  from_bad (got x rest) f p = absurd cc
  from_bad (bad g) f p = let e : g ≡ f = cc in ap bad e

  pub value_from_lem : (n next : ℕ) → number_at l at ≡ Ok (record { value = n; next = next }) → (number_from (drop at l) ≡ got n (drop next l)) × (at ≤ next) × (next ≤ length l)
  unfolding number_at
  value_from_lem n next p = from_value (number_from (drop at l)) (onward (drop at l) 0) refl n next p

  pub bad_from : (f : Reply) → number_at l at ≡ Err f → number_from (drop at l) ≡ bad f
  unfolding number_at
  bad_from f p = from_bad (number_from (drop at l)) f p

module _ (r : Reader) where
  -- the number at the reader's place is taken, and the reader stands after it
  pub number_there : (x : Number) → number_at r.bytes.now r.at ≡ Ok x → Took number_from r (record r { at = x.next }) x.value
  number_there x p =
      let (e, o, h) = value_from_lem r.bytes.now r.at x.value x.next p in
      record { taken = e; past = record { bytes = refl; on = o; left_so = omega (arith, o, h, length-drop r.at r.bytes.now, length-drop x.next r.bytes.now) } }

  pub number_took : (s : Reader) (n : ℕ) → Takes number_from r s (Ok n) → Took number_from r s n
  number_took s n p = took number_from r (onward (left r) 0) s n p

  -- what a reader takes is the number at its place, and a fault the fault there
  pub value_at : (s : Reader) (n : ℕ) → Took number_from r s n → Ok (record { value = n; next = s.at }) ≡ number_at r.bytes.now r.at
  unfolding number_at
  value_at s n p =
      let b : r.at < length r.bytes.now = before_end r.bytes.now r.at n (left s) p.taken in
      let d : length r.bytes.now - length (left s) ≡ s.at = omega (arith, p.past.left_so, length-drop r.at r.bytes.now) in
      sym (ap (placed r.bytes.now) p.taken ∙ ap (λ (k : ℕ). Ok (record { value = n; next = k })) d)

  pub fault_at : (s : Reader) (f : Reply) → Takes number_from r s (Err f) → Err f ≡ number_at r.bytes.now r.at
  unfolding number_at
  fault_at s f p = sym (ap (placed r.bytes.now) (faulted number_from r s f p))

-- ---- two numbers

two_onward : (l : List ℕ) → Onward l (two_from l)
two_onward l = onward_then l (number_from l) _ (onward l 0) (λ m p h. onward_then l (number_from (drop p l)) _ (onward l p) (λ n q k. onward_got l (m, n) q k))

pub two_took : (r s : Reader) (m n : ℕ) → Takes two_from r s (Ok (m, n)) → Took two_from r s (m, n)
two_took r s m n p = took two_from r (two_onward (left r)) s (m, n) p

pub first_faulted : (r : Reader) (f : Reply) → number_from (left r) ≡ bad f → two_from (left r) ≡ bad f
first_faulted r f q = rw q

module _ (r s : Reader) (m : ℕ) (p : Took number_from r s m) where
  pub two_taken : (t : Reader) (n : ℕ) → Took number_from s t n → Took two_from r t (m, n)
  two_taken t n q = record { taken = rw (p.taken, q.taken); past = past_more r s t p.past q.past }

  pub two_faulted : (f : Reply) → number_from (left s) ≡ bad f → two_from (left r) ≡ bad f
  two_faulted f q = rw (p.taken, q)

module _ (l : List ℕ) (at : ℕ) (r : Pair) (e : r ≡ pair_of l at) where
  pub pair_first : {n : Result Number Reply} → r.first ≡ n → number_at l at ≡ n
  pair_first h = sym (ap (λ (p : Pair). p.first) e) ∙ h

  pub pair_second : {n : Result Number Reply} (x : Number) → r.first ≡ Ok x → r.second ≡ n → number_at l x.next ≡ n
  pair_second x h k = ap (λ (m : Result Number Reply). number_at l (past_of m at)) (sym (pair_first h)) ∙ (sym (ap (λ (q : Pair). q.second) e) ∙ k)

-- what comes after two numbers comes after one and another
module _ {X : Type 0} (f : ℕ → ℕ → List ℕ → Taken X) where
  second_then : (m : ℕ) (t : Taken ℕ) → and_then {X = ℕ × ℕ} (and_then t (λ n rest. got (m, n) rest)) (λ p rest. f p.0 p.1 rest) ≡ and_then t (f m)
  second_then m (got n rest) = refl
  second_then m (bad g) = refl

  first_then : (t : Taken ℕ) → and_then {X = ℕ × ℕ} (and_then t (λ m rest. and_then (number_from rest) (λ n rest₁. got (m, n) rest₁))) (λ p rest. f p.0 p.1 rest) ≡ and_then t (λ m rest. and_then (number_from rest) (f m))
  first_then (got m rest) = second_then m (number_from rest)
  first_then (bad g) = refl

  pub two_then : (l : List ℕ) → and_then (two_from l) (λ p l₁. f p.0 p.1 l₁) ≡ and_then (number_from l) (λ m l₁. and_then (number_from l₁) (f m))
  two_then l = first_then (number_from l)
