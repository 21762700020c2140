-- What is written is read back: a number, numbers one after another, a record, the records, the header. Assumes nothing.
use mathlib.Core.Bool.{Bool}
use mathlib.Core.List.Memᴰ.{head as here}
use mathlib.Core.List.Memᴰ.{tail as there}
use mathlib.Core.List.{List, Memᴰ as Mem, [], ◌++◌, ◌∷◌, append_assoc, map}
use mathlib.Core.Logic.{⊎_elim}
use mathlib.Core.Path.{◌∙◌, ◌≡◌, ap, refl, sym}
use Prim.Native.Nat.{◌%◌, ◌*◌, ◌+◌, ◌-◌, ◌/◌, ◌<◌, ◌≤◌, suc, ℕ}
use native.Mathlib.Omega.{arith}
use lib.Dec.{eqb, ltb}
use lib.ListN.{length}
use borrow.Author.Tests.{eqb-true, le-leb, le-ltb, lt-ltb, ltb-false, ltb-true}
use Rattle.casefile.specs.Case.{records_from, whole, with_item, with_record}
use Rattle.items.specs.Items.{Item, header_from, numbers_from, record_from, unless}
use Rattle.numbers.specs.Numbers.{Taken, and_then, bad, got, number_from, second_from}
use Rattle.replies.specs.declared.Reply.{Reply}
use Rattle.replies.specs.declared.Reply.TheVariants.{Done, Supports}
use Rattle.rules.proofs.Faults.{fault_none}
use Rattle.rules.proofs.Laws.{Ranged}
use Rattle.rules.specs.Items.{fault_of}
use Rattle.theory.proofs.Lists.{either, not_so, some_elim}
use Rattle.theory.specs.Limits.{limits}
use Rattle.theory.specs.Lists.{choose, each, some_of}
use Rattle.theory.specs.Stages.{Justification}
use Rattle.writing.specs.Writing.{bytes_of, record_for}

-- ---- one number

pub bytes_one : (n : ℕ) → n < 128 → bytes_of n ≡ n ∷ []
unfolding bytes_of
bytes_one n h = rw (lt-ltb n 128 h)

pub bytes_two : (n : ℕ) → 128 ≤ n → bytes_of n ≡ (128 + n % 128) ∷ n / 128 ∷ []
unfolding bytes_of
bytes_two n h = rw (le-ltb n 128 h)

one_back : (n : ℕ) (l : List ℕ) → n < 128 → number_from (n ∷ l) ≡ got n l
unfolding number_from
one_back n l h = rw (lt-ltb n 128 h)

two_back : (b c : ℕ) (l : List ℕ) → 128 ≤ b → 1 ≤ c → c < 128 → number_from (b ∷ c ∷ l) ≡ got (b - 128 + 128 * c) l
unfolding number_from second_from
two_back b c l h k e = rw (le-ltb b 128 h, le-leb 1 c k, lt-ltb c 128 e)

pub number_back : (n : ℕ) (l : List ℕ) → n < 16384 → number_from (bytes_of n ++ l) ≡ got n l
number_back n l h =
    ⊎_elim (λ t. let s : n < 128 = ltb-true n 128 t in ap (λ (x : List ℕ). number_from (x ++ l)) (bytes_one n s) ∙ one_back n l s)
    (λ t.
    let s : 128 ≤ n = ltb-false n 128 t in
    let e : 128 + n % 128 - 128 + 128 * (n / 128) ≡ n = omega arith in
    ap (λ (x : List ℕ). number_from (x ++ l)) (bytes_two n s) ∙ two_back (128 + n % 128) (n / 128) l (omega arith) (omega arith) (omega arith) ∙ ap (λ (x : ℕ). got x l) e)
    (either (ltb n 128))

pub bytes_length : (n : ℕ) → length (bytes_of n) ≤ 2
bytes_length n =
    ⊎_elim (λ t. omega (arith, ap length (bytes_one n (ltb-true n 128 t)))) (λ t. omega (arith, ap length (bytes_two n (ltb-false n 128 t)))) (either (ltb n 128))

pub bytes_short : (n : ℕ) → n < 128 → length (bytes_of n) ≡ 1
bytes_short n h = ap length (bytes_one n h)

-- ---- numbers

abbrev pub Low : List ℕ → Type 0
Low l = (x : ℕ) → Mem x l → x < 16384

pub numbers_back : (xs l : List ℕ) → Low xs → numbers_from (length xs) (each bytes_of xs ++ l) ≡ got xs l
unfolding numbers_from each
numbers_back [] l f = refl
numbers_back (x ∷ xs) l f =
    ap (λ (m : List ℕ). and_then (number_from m) (λ y l₁. and_then (numbers_from (length xs) l₁) (λ ys l₂. got (y ∷ ys) l₂))) (append_assoc (bytes_of x) (each bytes_of xs) l)
    ∙ ap (λ (t : Taken ℕ). and_then t (λ y l₁. and_then (numbers_from (length xs) l₁) (λ ys l₂. got (y ∷ ys) l₂))) (number_back x (each bytes_of xs ++ l) (f x (here refl)))
    ∙ ap (λ (t : Taken (List ℕ)). and_then t (λ ys l₂. got (x ∷ ys) l₂)) (numbers_back xs l (λ y m. f y (there m)))

-- ---- a record

-- a justification as it is read
abbrev pub item_for : Justification → Item
item_for j = record { consequent = j.consequent; supports = j.supports }

pub ranged_faultless : (N : ℕ) (j : Justification) → Ranged N j → fault_of N j.consequent j.supports ≡ Done
ranged_faultless N j r =
    sym (fault_none N j.consequent j.supports r.few r.low
    (not_so (some_of (ltb N) j.supports) (λ t. let w = some_elim (ltb N) j.supports t in absurd (omega (arith, ltb-true N w.0 w.2, (r.between w.0 w.1).1))))
    (not_so (some_of (eqb 0) j.supports) (λ t. let w = some_elim (eqb 0) j.supports t in absurd (omega (arith, eqb-true 0 w.0 w.2, (r.between w.0 w.1).0))))
    r.foreign)

unless_done : (f : Reply) (i : Item) (l : List ℕ) → f ≡ Done → unless f i l ≡ got i l
unfolding unless
unless_done f i l e = rw e

pub record_back : (N : ℕ) (j : Justification) (l : List ℕ) → N < 16384 → Ranged N j → record_from N (each bytes_of (record_for j) ++ l) ≡ got (item_for j) l
unfolding record_from record_for each
record_back N j l h r =
    let c : ℕ = j.consequent in
    let s : List ℕ = j.supports in
    let k : ℕ = length s in
    let rest : List ℕ = each bytes_of s ++ l in
    let fits : k ≤ limits.supports = r.few in
    let last : ℕ → List ℕ → Taken Item = λ k l₂. choose (ltb limits.supports k) (bad Supports) (and_then (numbers_from k l₂) (λ s l₃. unless (fault_of N c s) (record { consequent = c; supports = s }) l₃)) in
    ap (λ (m : List ℕ). record_from N m) (append_assoc (bytes_of c) (bytes_of k ++ each bytes_of s) l ∙ ap (λ (m : List ℕ). bytes_of c ++ m) (append_assoc (bytes_of k) (each bytes_of s) l))
    ∙ ap (λ (t : Taken ℕ). and_then t (λ c l₁. and_then (number_from l₁) (λ k l₂. choose (ltb limits.supports k) (bad Supports) (and_then (numbers_from k l₂) (λ s l₃. unless (fault_of N c s) (record { consequent = c; supports = s }) l₃))))) (number_back c (bytes_of k ++ rest) (omega (arith, r.low)))
    ∙ ap (λ (t : Taken ℕ). and_then t last) (number_back k rest (omega arith))
    ∙ ap (λ (b : Bool). choose b (bad Supports) (and_then (numbers_from k rest) (λ s l₃. unless (fault_of N c s) (record { consequent = c; supports = s }) l₃))) (le-ltb limits.supports k fits)
    ∙ ap (λ (t : Taken (List ℕ)). and_then t (λ s l₃. unless (fault_of N c s) (record { consequent = c; supports = s }) l₃)) (numbers_back s l (λ x m. omega (arith, (r.between x m).1)))
    ∙ unless_done (fault_of N c s) (item_for j) l (ranged_faultless N j r)

-- ---- the records

abbrev pub record_bytes : Justification → List ℕ
record_bytes j = each bytes_of (record_for j)

pub records_back : (N r : ℕ) (J : List Justification) → N < 16384 → ((j : Justification) → Mem j J → Ranged N j) → records_from N r (length J) (each record_bytes J) ≡ whole (map item_for J)
unfolding records_from each
records_back N r [] h f = refl
records_back N r (j ∷ J) h f =
    ap (λ (t : Taken Item). with_record (suc r) t (records_from N (suc r) (length J))) (record_back N j (each record_bytes J) h (f j (here refl)))
    ∙ ap (with_item (item_for j)) (records_back N (suc r) J h (λ i m. f i (there m)))

-- ---- the header

pub header_back : (A M n : ℕ) (l : List ℕ) → A ≤ limits.assumptions → M ≤ limits.claims → n ≤ limits.held → header_from (bytes_of A ++ (bytes_of M ++ (bytes_of n ++ l))) ≡ got (record { assumptions = A; claims = M; records = n }) l
unfolding header_from
header_back A M n l a m k =
    rw (number_back A (bytes_of M ++ (bytes_of n ++ l)) (omega arith), number_back M (bytes_of n ++ l) (omega arith), number_back n l (omega arith), le-ltb limits.assumptions A a, le-ltb limits.claims M m, le-ltb limits.held n k)

-- ---- numbers made of each, one after another

pub each_append : {X Y : Type 0} (f : X → List Y) (l m : List X) → each f (l ++ m) ≡ each f l ++ each f m
unfolding each
each_append f [] m = refl
each_append f (x ∷ l) m = ap (λ (k : List _). f x ++ k) (each_append f l m) ∙ sym (append_assoc (f x) (each f l) (each f m))

pub each_each : {X Y Z : Type 0} (f : Y → List Z) (g : X → List Y) (l : List X) → each f (each g l) ≡ each (λ x. each f (g x)) l
unfolding each
each_each f g [] = refl
each_each f g (x ∷ l) = each_append f (g x) (each g l) ∙ ap (λ k. each f (g x) ++ k) (each_each f g l)
