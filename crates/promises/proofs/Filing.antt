-- The rows of loading: they decide one answer at most, and it is ours. Assumes nothing.
use mathlib.Core.Bool.{Bool, ◌&&◌, ◌||◌, false, true}
use mathlib.Core.List.Memᴰ
use mathlib.Core.List.Memᴰ.{head as here}
use mathlib.Core.List.Memᴰ.{tail as there}
use mathlib.Core.List.{List, Memᴰ as Mem, [], ◌∷◌, map}
use mathlib.Core.Logic.{◌↔◌, ◌⊎◌, inl, inr, ⊎_elim}
use mathlib.Core.Option.{none}
use mathlib.Core.Path.{◌∙◌, ◌≡◌, ap, ap₂, refl, subst, sym}
use Prim.Native.Nat.{◌*◌, ◌+◌, ◌-◌, ◌<◌, ◌≤◌, suc, zero, ℕ}
use native.Mathlib.Omega.{arith}
use lib.Dec.{eqb, leb, ltb}
use lib.ListN.{drop, length}
use borrow.Author.Tests.{leb-false, leb-true, ltb-false, ltb-true}
use Rattle.casefile.proofs.Gathering.{meant}
use Rattle.casefile.proofs.Whole.{Checked, Sound, case_checked}
use Rattle.casefile.specs.Case.{Case, Reading, case_after, case_of, case_with, ending, held_by, records_from, refused, whole, with_item, with_record}
use Rattle.casefile.specs.Load.{load_of, loaded_of}
use Rattle.casefile.specs.declared.Loaded.{Loaded}
use Rattle.items.proofs.Taken.{Faultless}
use Rattle.items.specs.Items.{Header, Item, header_from, numbers_from, record_from, unless}
use Rattle.numbers.proofs.Numbers.{chosen}
use Rattle.numbers.specs.Numbers.{Taken, and_then, bad, got, number_at, number_from, placed, second_from}
use Rattle.promises.proofs.Full.{says_same}
use Rattle.promises.proofs.Loading.{case_judged}
use Rattle.promises.proofs.Rows.{Names, by_choice, few_told, given_one, less_test, or_test, stages_name, stages_one, stages_told, unnamed}
use Rattle.promises.specs.Made.{SameMembers, put_in}
use Rattle.promises.specs.Once.{One}
use Rattle.promises.specs.Rows.{given}
use Rattle.promises.specs.Table.{DecodeRows, LoadNames, LoadRows, Next, NumberRows, NumbersRows, RecordRows, Reported, SecondRows, StageRows, reported}
use Rattle.replies.specs.Replies.{named_by, number_of}
use Rattle.replies.specs.declared.Reply.{Reply}
use Rattle.replies.specs.declared.Reply.TheVariants.{After, Counts, Ends, Falsity, Form, Full, Itself, Number, Supports}
use Rattle.rules.specs.Held.{held_of}
use Rattle.rules.specs.Items.{fault_of, justification_of}
use Rattle.store.specs.Calls.{no_store, store_of}
use Rattle.theory.proofs.Lists.{clash}
use Rattle.theory.specs.Judge.{Verdict, judge}
use Rattle.theory.specs.Limits.{limits, over_counts}
use Rattle.theory.specs.Lists.{choose, some_of}
use Rattle.theory.specs.Stages.{Justification}

-- ---- one answer at most

second_one : (k b : ℕ) (l : List ℕ) (next : Next ℕ) → ((x : ℕ) (rest : List ℕ) → One (next x rest)) → One (SecondRows k b l next)
unfolding SecondRows
second_one k b [] next o = λ x y p q. p ∙ sym q
second_one k b (c ∷ l) next o = given_one _ _ _ (o (b - 128 + 128 * c) l)

number_one : (k : ℕ) (l : List ℕ) (next : Next ℕ) → ((x : ℕ) (rest : List ℕ) → One (next x rest)) → One (NumberRows k l next)
unfolding NumberRows
number_one k [] next o x y p q = p ∙ sym q
number_one k (b ∷ l) next o x y (inl p) (inl q) = o b l x y p.1 q.1
number_one k (b ∷ l) next o x y (inl p) (inr q) = absurd (omega (arith, p.0, q.0))
number_one k (b ∷ l) next o x y (inr p) (inl q) = absurd (omega (arith, p.0, q.0))
number_one k (b ∷ l) next o x y (inr p) (inr q) = second_one k b l next o x y p.1 q.1

numbers_one : (k n : ℕ) (l : List ℕ) (next : Next (List ℕ)) → ((x : List ℕ) (rest : List ℕ) → One (next x rest)) → One (NumbersRows k n l next)
unfolding NumbersRows
numbers_one k zero l next o = o [] l
numbers_one k (suc n) l next o = number_one k l _ (λ x l₁. numbers_one k n l₁ _ (λ xs l₂. o (x ∷ xs) l₂))

records_one : (A N n r : ℕ) (H : List Justification) (l : List ℕ) → One (RecordRows A N n r H l)
unfolding RecordRows
records_one A N zero r H l = given_one _ _ _ (λ x y p q. ap₂ (λ (i k : ℕ). (i, k)) (stages_one A N H x.0 y.0 p.0 q.0) (p.1 ∙ sym q.1))
records_one A N (suc n) r H l =
    number_one (suc r) l _ (λ c l₁.
    number_one (suc r) l₁ _ (λ k l₂.
    given_one _ _ _
    (numbers_one (suc r) k l₂ _ (λ s l₃.
    given_one _ _ _
    (given_one _ _ _
    (given_one _ _ _
    (records_one A N n (suc r) (justification_of N c s ∷ H) l₃)))))))

pub load_one : (bytes : List ℕ) → One (LoadRows bytes)
load_one bytes =
    number_one 0 bytes _ (λ A l₁.
    number_one 0 l₁ _ (λ M l₂.
    number_one 0 l₂ _ (λ J l₃.
    given_one _ _ _
    (given_one _ _ _
    (records_one A (A + M) J 0 [] l₃)))))

-- ---- what is taken from the bytes

-- g says what is answered for what was taken: a fault by its number, in record k
module _ (k : ℕ) where
  second_told : (b : ℕ) (l : List ℕ) (next : Next ℕ) (g : Taken ℕ → Reported) → ((f : Reply) → g (bad f) ≡ (number_of f, k)) → ((x : ℕ) (rest : List ℕ) → next x rest (g (got x rest))) → SecondRows k b l next (g (second_from b l))
  unfolding SecondRows second_from given
  second_told b [] next g e n = e Ends
  second_told b (c ∷ l) next g e n = go (leb 1 c) (ltb c 128) refl refl
    where
      go : (p q : Bool) → leb 1 c ≡ p → ltb c 128 ≡ q → given ((c < 1) ⊎ (127 < c)) (12, k) (next (b - 128 + 128 * c) l) (g (choose (p && q) (got (b - 128 + 128 * c) l) (bad Form)))
      go true true u v = inr (⊎_elim (λ z. omega (arith, leb-true 1 c u)) (λ z. omega (arith, ltb-true c 128 v)), n (b - 128 + 128 * c) l)
      go true false u v = inl (inr (omega (arith, ltb-false c 128 v)), e Form)
      go false q u v = inl (inl (omega (arith, leb-false 1 c u)), e Form)

  number_told : (l : List ℕ) (next : Next ℕ) (g : Taken ℕ → Reported) → ((f : Reply) → g (bad f) ≡ (number_of f, k)) → ((x : ℕ) (rest : List ℕ) → next x rest (g (got x rest))) → NumberRows k l next (g (number_from l))
  unfolding NumberRows number_from
  number_told [] next g e n = e Ends
  number_told (b ∷ l) next g e n = go (ltb b 128) refl
    where
      go : (p : Bool) → ltb b 128 ≡ p → ((b < 128) × next b l (g (choose p (got b l) (second_from b l)))) ⊎ ((128 ≤ b) × SecondRows k b l next (g (choose p (got b l) (second_from b l))))
      go true u = inl (ltb-true b 128 u, n b l)
      go false u = inr (ltb-false b 128 u, second_told b l next g e n)

  numbers_told : (n : ℕ) (l : List ℕ) (next : Next (List ℕ)) (g : Taken (List ℕ) → Reported) → ((f : Reply) → g (bad f) ≡ (number_of f, k))
      → ((xs rest : List ℕ) → length xs ≡ n → next xs rest (g (got xs rest))) → NumbersRows k n l next (g (numbers_from n l))
  unfolding NumbersRows numbers_from
  numbers_told zero l next g e m = m [] l refl
  numbers_told (suc n) l next g e m =
      number_told l _ (λ t. g (and_then t (λ x l₁. and_then (numbers_from n l₁) (λ xs l₂. got (x ∷ xs) l₂)))) e
      (λ x l₁. numbers_told n l₁ _ (λ t. g (and_then t (λ xs l₂. got (x ∷ xs) l₂))) e (λ xs l₂ h. m (x ∷ xs) l₂ (ap suc h)))

-- the number at a place
decode_next : (x : ℕ) (rest : List ℕ) → One (λ (a : Reported). a ≡ (0, x))
decode_next x rest a b p q = p ∙ sym q

pub decode_one : (bytes : List ℕ) (at : ℕ) → One (DecodeRows bytes at)
decode_one bytes at = number_one 0 (drop at bytes) _ decode_next

pub decode_told : (bytes : List ℕ) (at : ℕ) → DecodeRows bytes at (reported (number_at bytes at))
unfolding number_at
decode_told bytes at = number_told 0 (drop at bytes) _ (λ t. reported (placed bytes t)) (λ f. refl) (λ x rest. refl)

-- ---- the records

-- K has the members of H and those of L
abbrev Joins : List Justification → List Justification → List Justification → Type 0
Joins K H L = (j : Justification) → Mem j K ↔ (Mem j H ⊎ Mem j L)

joins_next : {K H L : List Justification} (i : Justification) → Joins K (i ∷ H) L → Joins K H (i ∷ L)
joins_next i f j = (
  λ m. ⊎_elim (λ a. ⊎_elim (λ e. inr (here e)) (λ n. inl n) (Memᴰ.cases_cons a)) (λ b. inr (there b)) ((f j).0 m),
  λ m. (f j).1 (⊎_elim (λ a. inl (there a)) (λ b. ⊎_elim (λ e. inl (here e)) (λ n. inr n) (Memᴰ.cases_cons b)) m),
)

module _ (A N t : ℕ) where
  -- what is answered where the items are read to the end
  abbrev Ended : List Justification → ℕ → (Reading (List Item) → Reported) → Type 0
  Ended H n g = (l : List Item) → length l ≡ n → ((i : Item) → Mem i l → Faultless N i) → (K : List Justification) → Joins K H (map (meant N) l) → StageRows A N K (g (whole l)).0 × ((g (whole l)).1 ≡ t)

  ended_next : (H : List Justification) (n : ℕ) (g : Reading (List Item) → Reported) (i : Item) → Faultless N i → Ended H (suc n) g → Ended (meant N i ∷ H) n (λ R. g (with_item i R))
  ended_next H n g i d f l m each K j = f (i ∷ l) (ap suc m) (λ x k. ⊎_elim (λ e. subst (Faultless N) (sym e) d) (λ q. each x q) (Memᴰ.cases_cons k)) K (joins_next (meant N i) j)

  -- the parts of a record, from its last to its first
  abbrev item : ℕ → List ℕ → Item
  item c s = record { consequent = c; supports = s }

  abbrev sound : ℕ → List ℕ → List ℕ → Taken Item
  sound c s l = unless (fault_of N c s) (item c s) l

  abbrev counted : ℕ → ℕ → List ℕ → Taken Item
  counted c k l = choose (ltb limits.supports k) (bad Supports) (and_then (numbers_from k l) (sound c))

  abbrev headed : ℕ → List ℕ → Taken Item
  headed c l = and_then (number_from l) (counted c)

  -- after the last record
  ended_told : (r : ℕ) (H : List Justification) (l : List ℕ) (g : Reading (List Item) → Reported) → ((f : Reply) → g (refused f r) ≡ (number_of f, r))
      → t ≡ r → Ended H 0 g → given (0 < length l) (13, r) (λ a. StageRows A N H a.0 × (a.1 ≡ r)) (g (ending r l))
  unfolding given
  ended_told r H [] g e z f =
      let w = f [] refl (λ i m. elim m [ ]) H (λ j. (λ m. inl m, λ m. ⊎_elim (λ a. a) (λ b. elim b [ ]) m)) in
      inr (λ p. omega arith, (w.0, w.1 ∙ z))
  ended_told r H (b ∷ l) g e z f = inl (omega arith, e After)

  records_told : (n r : ℕ) (H : List Justification) (l : List ℕ) (g : Reading (List Item) → Reported) → ((f : Reply) (m : ℕ) → g (refused f m) ≡ (number_of f, m))
      → t ≡ r + n → Ended H n g → RecordRows A N n r H l (g (records_from N r n l))
  unfolding RecordRows records_from record_from unless
  records_told zero r H l g e z f = ended_told r H l g (λ x. e x r) (omega arith) f
  records_told (suc n) r H l g e z f =
      let h : Taken Item → Reported = λ t. g (with_record (suc r) t (records_from N (suc r) n)) in
      let b : (x : Reply) → h (bad x) ≡ (number_of x, suc r) = λ x. e x (suc r) in
      number_told (suc r) l _ (λ t. h (and_then t headed)) b (λ c l₁.
      number_told (suc r) l₁ _ (λ t. h (and_then t (counted c))) b (λ k l₂.
      by_choice _ h (ltb limits.supports k) (bad Supports) (and_then (numbers_from k l₂) (sound c)) (less_test limits.supports k) (b Supports)
      (λ (p : ltb limits.supports k ≡ false). numbers_told (suc r) k l₂ _ (λ t. h (and_then t (sound c))) b (λ s l₃ q.
      few_told N c s (λ x. h (unless x (item c s) l₃)) _ (4, suc r) (5, suc r) (17, suc r) (b Number) (b Falsity) (b Itself)
      (λ d. records_told n (suc r) (justification_of N c s ∷ H) l₃ (λ R. g (with_item (item c s) R)) e (omega arith) (ended_next H n g (item c s) d f))
      (omega (arith, ltb-false limits.supports k p))))))

-- ---- the file

abbrev header : ℕ → ℕ → ℕ → Header
header A M J = record { assumptions = A; claims = M; records = J }

abbrev counts : ℕ → ℕ → ℕ → List ℕ → Taken Header
counts A M J l = choose (over_counts A M) (bad Counts) (choose (ltb limits.held J) (bad Full) (got (header A M J) l))

neither : (a b : Bool) → a || b ≡ false → (a ≡ false) × (b ≡ false)
neither false b e = (refl, e)
neither true b e = clash refl e

-- what loading reports
abbrev pub report_of : Loaded → Reported
report_of o = (number_of o.reply, o.«record»)

stages_ended : (c : Case) → Sound c → (K : List Justification) → Joins K [] (put_in c) → StageRows c.header.assumptions (c.header.assumptions + c.header.claims) K (report_of (loaded_of (whole c))).0
unfolding store_of
stages_ended c sound K f =
    let A : ℕ = c.header.assumptions in
    let N : ℕ = A + c.header.claims in
    let v : Verdict = judge limits A N (held_by c) in
    let same : SameMembers (put_in c) K = λ j. (λ m. (f j).1 (inr m), λ m. ⊎_elim (λ a. elim a [ ]) (λ b. b) ((f j).0 m)) in
    stages_told A N K no_store (held_of A c.header.claims (held_by c)) v (says_same A N same v (case_judged c sound))

pub load_told : (bytes : List ℕ) → LoadRows bytes (report_of (load_of bytes))
unfolding load_of case_of header_from
load_told bytes =
    let g : Taken Header → Reported = λ t. report_of (loaded_of (case_after t)) in
    number_told 0 bytes _ (λ t. g (and_then t (λ A l₁. and_then (number_from l₁) (λ M l₂. and_then (number_from l₂) (counts A M))))) (λ x. refl) (λ A l₁.
    number_told 0 l₁ _ (λ t. g (and_then t (λ M l₂. and_then (number_from l₂) (counts A M)))) (λ x. refl) (λ M l₂.
    number_told 0 l₂ _ (λ t. g (and_then t (counts A M))) (λ x. refl) (λ J l₃.
    by_choice _ g (over_counts A M) (bad Counts) (choose (ltb limits.held J) (bad Full) (got (header A M J) l₃)) (or_test (less_test limits.assumptions A) (less_test limits.claims M)) refl
    (λ (p : over_counts A M ≡ false). by_choice _ g (ltb limits.held J) (bad Full) (got (header A M J) l₃) (less_test limits.held J) refl
    (λ (q : ltb limits.held J ≡ false). records_told A (A + M) J J 0 [] l₃ (λ R. report_of (loaded_of (case_with (header A M J) R))) (λ f m. refl) (omega arith)
    (λ l m each K j. (
      stages_ended (record { header = header A M J; items = l })
          (record { limited = record { assumptions = ltb-false limits.assumptions A (neither (ltb limits.assumptions A) (ltb limits.claims M) p).0; claims = ltb-false limits.claims M (neither (ltb limits.assumptions A) (ltb limits.claims M) p).1; records = ltb-false limits.held J q }; many = m; faultless = each }) K j,
      refl,
    )))))))

-- ---- no fault of a file names a number

abbrev Unnamed : Reply → Type 0
Unnamed f = (named_by f ≡ none) × (number_of f ≡ 8 → ⊥)

unfoldable Plain : {X : Type 0} → Taken X → Type 0
Plain (got x l) = Unit
Plain (bad f) = Unnamed f

plain_then : {X Y : Type 0} (t : Taken X) (f : X → List ℕ → Taken Y) → Plain t → ((x : X) (rest : List ℕ) → Plain (f x rest)) → Plain (and_then t f)
unfolding Plain
plain_then (got x rest) f p q = q x rest
plain_then (bad r) f p q = p

plain_got : {X : Type 0} (x : X) (l : List ℕ) → Plain (got x l)
unfolding Plain
plain_got x l = tt

plain_bad : (X : Type 0) (f : Reply) → Unnamed f → Plain {X = X} (bad f)
unfolding Plain
plain_bad X f u = u

plain_second : (b : ℕ) (l : List ℕ) → Plain (second_from b l)
unfolding second_from
plain_second b [] = plain_bad ℕ Ends (refl, λ z. omega arith)
plain_second b (c ∷ l) = chosen Plain (leb 1 c && ltb c 128) (plain_got (b - 128 + 128 * c) l) (plain_bad ℕ Form (refl, λ z. omega arith))

plain_number_lem : (l : List ℕ) → Plain (number_from l)
unfolding number_from
plain_number_lem [] = plain_bad ℕ Ends (refl, λ z. omega arith)
plain_number_lem (b ∷ l) = chosen Plain (ltb b 128) (plain_got b l) (plain_second b l)

plain_numbers : (n : ℕ) (l : List ℕ) → Plain (numbers_from n l)
unfolding numbers_from
plain_numbers zero l = plain_got [] l
plain_numbers (suc n) l = plain_then (number_from l) _ (plain_number_lem l) (λ x l₁. plain_then (numbers_from n l₁) _ (plain_numbers n l₁) (λ xs l₂. plain_got (x ∷ xs) l₂))

plain_fault : (N c : ℕ) (s : List ℕ) → Unnamed (fault_of N c s)
unfolding fault_of
plain_fault N c s =
    chosen Unnamed (ltb limits.supports (length s)) (refl, λ z. omega arith) (chosen Unnamed (ltb N c || some_of (ltb N) s) (refl, λ z. omega arith) (chosen Unnamed (some_of (eqb 0) s) (refl, λ z. omega arith)
    (chosen Unnamed (some_of (eqb c) s) (refl, λ z. omega arith) (refl, λ z. omega arith))))

plain_record : (N : ℕ) (l : List ℕ) → Plain (record_from N l)
unfolding record_from unless
plain_record N l =
    plain_then (number_from l) _ (plain_number_lem l) (λ c l₁. plain_then (number_from l₁) _ (plain_number_lem l₁) (λ k l₂.
    chosen Plain (ltb limits.supports k) (plain_bad Item Supports (refl, λ z. omega arith)) (plain_then (numbers_from k l₂) _ (plain_numbers k l₂) (λ s l₃.
    chosen Plain (eqb (number_of (fault_of N c s)) 0) (plain_got (record { consequent = c; supports = s }) l₃) (plain_bad Item (fault_of N c s) (plain_fault N c s))))))

plain_header : (l : List ℕ) → Plain (header_from l)
unfolding header_from
plain_header l =
    plain_then (number_from l) _ (plain_number_lem l) (λ A l₁. plain_then (number_from l₁) _ (plain_number_lem l₁) (λ M l₂. plain_then (number_from l₂) _ (plain_number_lem l₂) (λ J l₃.
    chosen Plain (over_counts A M) (plain_bad Header Counts (refl, λ z. omega arith)) (chosen Plain (ltb limits.held J) (plain_bad Header Full (refl, λ z. omega arith)) (plain_got (header A M J) l₃)))))

unfoldable Read : {X : Type 0} → Reading X → Type 0
Read (whole x) = Unit
Read (refused f r) = Unnamed f

read_item : (r : ℕ) (t : Taken Item) (later : List ℕ → Reading (List Item)) → Plain t → ((l : List ℕ) → Read (later l)) → Read (with_record r t later)
unfolding Read Plain
read_item r (bad f) later p q = p
read_item r (got i l) later p q = go (later l) (q l)
  where
    go : (R : Reading (List Item)) → Read R → Read (with_item i R)
    go (whole l) k = tt
    go (refused f r) k = k

read_records : (N r n : ℕ) (l : List ℕ) → Read (records_from N r n l)
unfolding records_from Read
read_records N r zero [] = tt
read_records N r zero (b ∷ l) = (refl, λ z. omega arith)
read_records N r (suc n) l = read_item (suc r) (record_from N l) (records_from N (suc r) n) (plain_record N l) (read_records N (suc r) n)

read_case : (t : Taken Header) → Plain t → Read (case_after t)
unfolding Read Plain
read_case (bad f) p = p
read_case (got h l) p = go (records_from (h.assumptions + h.claims) 0 h.records l) (read_records (h.assumptions + h.claims) 0 h.records l)
  where
    go : (R : Reading (List Item)) → Read R → Read (case_with h R)
    go (whole l) k = tt
    go (refused f r) k = k

names_loaded : (R : Reading Case) → Read R → Checked R → Names (LoadNames R) (loaded_of R).reply
unfolding Read Checked store_of
names_loaded (whole c) p s =
    let A : ℕ = c.header.assumptions in
    let N : ℕ = A + c.header.claims in
    stages_name A N (put_in c) no_store (held_of A c.header.claims (held_by c)) (judge limits A N (held_by c)) (case_judged c s)
names_loaded (refused f r) p s = unnamed (λ n. ⊥) f p.0 p.1

read_bytes : (l : List ℕ) → Read (case_of l)
unfolding case_of
read_bytes l = read_case (header_from l) (plain_header l)

pub load_names : (bytes : List ℕ) → Names (LoadNames (case_of bytes)) (load_of bytes).reply
unfolding load_of
load_names bytes = names_loaded (case_of bytes) (read_bytes bytes) (case_checked bytes)
