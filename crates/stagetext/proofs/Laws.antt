-- The lines of the stages, test by test. Assumes nothing.
use mathlib.Core.Bool.{Bool, ◌&&◌, false, true}
use mathlib.Core.List.{List, [], ◌++◌, ◌∷◌}
use mathlib.Core.Path.{◌∙◌, ◌≡◌, ap, refl, subst, sym}
use Prim.Native.Nat.{◌%◌, ◌*◌, ◌+◌, ◌-◌, ◌/◌, ◌<◌, ◌≤◌, suc, zero, ℕ}
use native.Mathlib.Decide.{dec_lt}
use native.Mathlib.Nat.{mul-suc}
use native.Mathlib.Numerals.{add-one}
use native.Mathlib.Omega.{arith}
use lib.Dec.{leb, ltb}
use lib.ListN.{drop, get_or, length, length-append, take}
use lib.Seq.{length-take-le}
use borrow.Author.Tests.{le-ltb, lt-ltb, ltb-true}
use Rattle.following.proofs.Passing.{marked_no, marked_yes}
use Rattle.following.proofs.Staging.{Placed}
use Rattle.following.specs.First.{since_of}
use Rattle.following.specs.Marks.{marked}
use Rattle.lent.proofs.Fits.{fitted_long, fitted_short}
use Rattle.lent.specs.Lent.{Leaves, fitted, kept}
use Rattle.std.proofs.Common.{Result, Ok, Err, cond, get_or-take}
use Prim.Native.Nat.{max}
use Rattle.std.specs.List.{filter, fold, reduce}
use Rattle.std.specs.Option.{unwrap_or}
use Rattle.stagetext.proofs.Turns.{from_number, number_end, number_more, number_none, number_start, number_turn}
use Rattle.stagetext.proofs.Upto.{upto_few, upto_length, upto_none}
use Rattle.plain.proofs.Laws.{placed}
use Rattle.plain.proofs.Since.{since_by}
use Rattle.replies.specs.Replies.{checked}
use Rattle.replies.specs.declared.Reply.{Reply}
use Rattle.replies.specs.declared.Reply.TheVariants.{Number, Short}
use Rattle.rules.specs.Held.{said_by}
use Rattle.stagetext.specs.Stagetext.{body_of, last_stage, latest, part_of, put_of, row_of, rows_in, rows_of, stage_line, stage_text, stages_of}
use Rattle.store.proofs.Reading.{Readable, refused_set}
use Rattle.store.specs.Reading.{refusal_of}
use Rattle.store.specs.Shape.{top}
use Rattle.store.specs.declared.Store.{Store}
use Rattle.text.proofs.Digits.{digits_more, digits_most, digits_one}
use Rattle.text.specs.Texts.{digits, field, word}
use Rattle.theory.proofs.Listing.{below_elim}
use Rattle.theory.proofs.Lists.{each_same, those_same}
use Rattle.theory.proofs.Places.{get_d_table}
use Rattle.theory.specs.Limits.{limits}
use Rattle.theory.specs.Lists.{choose, each, keep, numbers_below, those}
use Rattle.theory.specs.Places.{table}
use Rattle.theory.specs.Stages.{Justification, follows}

-- ---- digits
pub digits_two : (n : ℕ) → 10 ≤ n → n < 100 → digits n ≡ (48 + n / 10) ∷ (48 + n % 10) ∷ []
digits_two n h k = digits_more n h ∙ ap (λ (t : List ℕ). t ++ ((48 + n % 10) ∷ [])) (digits_one (n / 10) (omega arith))

pub digits_three : (n : ℕ) → 100 ≤ n → n < 1000 → digits n ≡ (48 + n / 100) ∷ (48 + n / 10 % 10) ∷ (48 + n % 10) ∷ []
digits_three n h k =
    let e : n / 10 / 10 ≡ n / 100 = omega arith in
    digits_more n (omega arith) ∙ ap (λ (t : List ℕ). t ++ ((48 + n % 10) ∷ [])) (digits_two (n / 10) (omega arith) (omega arith)) ∙ ap (λ (d : ℕ). (48 + d) ∷ (48 + n / 10 % 10) ∷ (48 + n % 10) ∷ []) e

pub ruleset widths = (digits_one, digits_two, digits_three)

pub digits_few : (n : ℕ) → n < 1000 → length (digits n) ≤ 3
digits_few n h = digits_most 2 n h

-- ---- a part

module _ (m : List ℕ) (k n : ℕ) (inside : n < length m) where
  pub part_none : k < get_or m n 0 → part_of m k n ≡ []
  unfolding part_of
  part_none h = ap (λ (b : Bool). choose b (field n) []) (marked_no k m n inside h)

  pub part_some : get_or m n 0 ≤ k → part_of m k n ≡ field n
  unfolding part_of
  part_some h = ap (λ (b : Bool). choose b (field n) []) (marked_yes k m n inside h)

  pub part_wide : get_or m n 0 ≤ k → length (part_of m k n) ≡ 1 + length (digits n)
  unfolding field word
  part_wide h = ap length (part_some h) ∙ omega arith

  pub turn_some : get_or m n 0 ≤ k → from_number (part_of m k) (length m) n ≡ field n ++ from_number (part_of m k) (length m) (n + 1)
  turn_some h = number_turn (part_of m k) (length m) n inside ∙ ap (λ (t : List ℕ). t ++ from_number (part_of m k) (length m) (n + 1)) (part_some h)

  pub turn_none : k < get_or m n 0 → from_number (part_of m k) (length m) n ≡ from_number (part_of m k) (length m) (n + 1)
  turn_none h = number_turn (part_of m k) (length m) n inside ∙ ap (λ (t : List ℕ). t ++ from_number (part_of m k) (length m) (n + 1)) (part_none h)

part_few : (m : List ℕ) (k n : ℕ) → n < limits.numbers + 1 → length (part_of m k n) ≤ 4
unfolding part_of field word
part_few m k n h = go (marked k m n)
  where
    go : (b : Bool) → length (choose b (32 ∷ digits n) []) ≤ 4
    go true = omega (arith, digits_few n (omega arith))
    go false = omega arith

pub body_few : (m : List ℕ) (k end : ℕ) → end ≤ limits.numbers + 1 → length (body_of end m k) ≤ 4 * end
unfolding body_of
body_few m k end h = upto_few (part_of m k) 4 (limits.numbers + 1) (part_few m k) end h

pub body_next : (m : List ℕ) (k n : ℕ) → length (body_of (n + 1) m k) ≡ length (body_of n m k) + length (part_of m k n)
unfolding body_of
body_next m k n = upto_length (part_of m k) n

pub body_start : (m : List ℕ) (k : ℕ) → body_of (length m) m k ≡ from_number (part_of m k) (length m) 0
unfolding body_of
body_start m k = sym (number_start (part_of m k) (length m))

pub ruleset parts = (turn_some, turn_none, body_start, number_end)

-- ---- a line

pub row_parts : (m : List ℕ) (k : ℕ) → row_of (length m) m k ≡ digits k ++ (body_of (length m) m k ++ (10 ∷ []))
unfolding row_of word
row_parts m k = refl

pub row_length : (m : List ℕ) (end k : ℕ) → length (row_of end m k) ≡ length (digits k) + length (body_of end m k) + 1
unfolding row_of word
row_length m end k = omega (arith, length-append (digits k) (body_of end m k ++ (10 ∷ [])), length-append (body_of end m k) (10 ∷ []))

pub rows_start : (m : List ℕ) (end count : ℕ) → rows_of end m count ≡ from_number (row_of end m) count 0
unfolding rows_of
rows_start m end count = sym (number_start (row_of end m) count)

pub ruleset rows = (rows_start, number_turn, number_end)

pub rows_next : (m : List ℕ) (end k : ℕ) → length (rows_of end m (k + 1)) ≡ length (rows_of end m k) + length (row_of end m k)
unfolding rows_of
rows_next m end k = upto_length (row_of end m) k

pub rows_none : (m : List ℕ) (end : ℕ) → 0 ≡ length (rows_of end m 0)
unfolding rows_of
rows_none m end = sym (ap length (upto_none (row_of end m)))

-- ---- the lines without their numbers

row_empty : (m : List ℕ) (k : ℕ) → row_of 0 m k ≡ digits k ++ (10 ∷ [])
unfolding row_of body_of word
row_empty m k = ap (λ (t : List ℕ). digits k ++ (t ++ (10 ∷ []))) (upto_none (part_of m k))

pub empty_length : (m : List ℕ) (k : ℕ) → length (row_of 0 m k) ≡ length (digits k) + 1
empty_length m k = ap length (row_empty m k) ∙ length-append (digits k) (10 ∷ [])

pub rows_empty : (m : List ℕ) (count : ℕ) → rows_of 0 m count ≡ rows_of 0 [] count
unfolding rows_of
rows_empty m count = each_same (row_of 0 m) (row_of 0 []) (numbers_below count) (λ k i. row_empty m k ∙ sym (row_empty [] k))

pub ruleset sums = (rows_start, number_more, number_none, empty_length)

-- ---- a number in the lines: it stands in each from its mark on

times_none : (w c x : ℕ) → c ≤ x → w * (c - x) ≡ 0
times_none w c x h = let e : c - x ≡ 0 = omega arith in ap (λ (d : ℕ). w * d) e ∙ omega arith

times_more : (w c x : ℕ) → x ≤ c → w * (c + 1 - x) ≡ w * (c - x) + w
times_more w c x h = let e : c + 1 - x ≡ suc (c - x) = omega arith in ap (λ (d : ℕ). w * d) e ∙ mul-suc w (c - x)

times_same : (w c x : ℕ) → c < x → w * (c + 1 - x) ≡ w * (c - x)
times_same w c x h = let e : c + 1 - x ≡ c - x = omega arith in ap (λ (d : ℕ). w * d) e

module _ (m : List ℕ) (n : ℕ) (inside : n < length m) where
  abbrev x : ℕ
  x = get_or m n 0

  abbrev w : ℕ
  w = 1 + length (digits n)

  grown : (k : ℕ) → length (row_of (n + 1) m k) ≡ length (row_of n m k) + length (part_of m k n)
  grown k = omega (arith, row_length m (n + 1) k, row_length m n k, body_next m k n)

  grown_rows : (c : ℕ) → length (rows_of (n + 1) m c) ≡ length (rows_of n m c) + w * (c - x) → length (rows_of (n + 1) m (c + 1)) ≡ length (rows_of n m (c + 1)) + w * (c + 1 - x)
  grown_rows c e = elim (dec_lt c x) [
    | yes h ↦ omega (arith, e, rows_next m (n + 1) c, rows_next m n c, grown c, ap length (part_none m c n inside h), times_same w c x h)
    | no h ↦ let l : x ≤ c = omega arith in omega (arith, e, rows_next m (n + 1) c, rows_next m n c, grown c, part_wide m c n inside l, times_more w c x l)
  ]

  column : (c : ℕ) → length (rows_of (n + 1) m c) ≡ length (rows_of n m c) + w * (c - x)
  column zero = omega (arith, rows_none m (n + 1), rows_none m n, times_none w 0 x (omega arith))
  column (suc c) = subst (λ (i : ℕ). length (rows_of (n + 1) m i) ≡ length (rows_of n m i) + w * (i - x)) (add-one c) (grown_rows c (column c))

  pub column_some : (c d : ℕ) → d ≡ length (digits n) → length (rows_of (n + 1) m c) ≡ length (rows_of n m c) + (1 + d) * (c - get_or m n 0)
  column_some c d e = column c ∙ ap (λ (y : ℕ). length (rows_of n m c) + (1 + y) * (c - x)) (sym e)

  pub column_none : (c : ℕ) → c ≤ get_or m n 0 → length (rows_of (n + 1) m c) ≡ length (rows_of n m c)
  column_none c h = omega (arith, column c, times_none w c x h)

pub ruleset columns = (rows_empty, column_some, column_none, digits_few)

-- ---- the last stage
pub latest_low : (l : List ℕ) (a : ℕ) → a < 255 → latest a l < 255
unfolding latest
latest_low [] a h = h
latest_low (x ∷ l) a h = latest_low l (choose (ltb x 255 && ltb a x) x a) (go (ltb x 255) (ltb a x) refl)
  where
    go : (b c : Bool) → ltb x 255 ≡ b → choose (b && c) x a < 255
    go true true e = ltb-true x 255 e
    go true false e = h
    go false c e = h

-- the greater of the two, where it is below 255
later_is : (b : Bool) (a x : ℕ) (l : List ℕ) → latest (choose (b && ltb a x) x a) l ≡ latest (cond b (max a x) a) l
later_is true a x l = ap (λ (y : ℕ). latest y l) (elim (dec_lt a x) [
  | yes h ↦ ap (λ (t : Bool). choose t x a) (lt-ltb a x h) ∙ omega arith
  | no h ↦ ap (λ (t : Bool). choose t x a) (le-ltb a x (omega arith)) ∙ omega arith
])
later_is false a x l = refl

latest_fold : (l : List ℕ) (a : ℕ) → latest a l ≡ fold max a (filter (λ x. ltb x 255) l)
unfolding latest
latest_fold [] a = refl
latest_fold (x ∷ l) a = later_is (ltb x 255) a x l ∙ go (ltb x 255) (latest_fold l)
  where
    go : (b : Bool) → ((y : ℕ) → latest y l ≡ fold max y (filter (λ z. ltb z 255) l)) → latest (cond b (max a x) a) l ≡ fold max a (cond b (x ∷ filter (λ z. ltb z 255) l) (filter (λ z. ltb z 255) l))
    go true f = f (max a x)
    go false f = f a

pub latest_is : (l : List ℕ) → unwrap_or (reduce max (filter (λ x. ltb x 255) l)) 0 ≡ latest 0 l
latest_is l = go (filter (λ x. ltb x 255) l) ∙ sym (latest_fold l 0)
  where
    go : (k : List ℕ) → unwrap_or (reduce max k) 0 ≡ fold max 0 k
    go [] = refl
    go (x ∷ k) = ap (λ (y : ℕ). fold max y k) (omega arith)

-- ---- the text
each_parts : (p : ℕ → Bool) (l : List ℕ) → each (λ n. choose (p n) (field n) []) l ≡ each field (those p l)
unfolding each those
each_parts p [] = refl
each_parts p (n ∷ l) = go (p n) (each_parts p l)
  where
    go : (b : Bool) → each (λ n. choose (p n) (field n) []) l ≡ each field (those p l) → choose b (field n) [] ++ each (λ n. choose (p n) (field n) []) l ≡ each field (keep b n (those p l))
    go true e = ap (λ (t : List ℕ). field n ++ t) e
    go false e = e

module _ (J : List Justification) (w : Placed J) (E N : ℕ) (low : N ≤ limits.numbers) where
  abbrev M : List ℕ
  M = table (limits.numbers + 1) (since_of J E)

  row_is : (k : ℕ) → k < 255 → row_of (N + 1) M k ≡ stage_line N J E k
  unfolding row_of stage_line body_of part_of marked
  row_is k b =
      ap (λ (x : List ℕ). digits k ++ (x ++ word "\n"))
      (each_parts (marked k M) (numbers_below (N + 1))
      ∙ ap (each field) (those_same (marked k M) (follows J k E) (numbers_below (N + 1))
      (λ n m. ap (λ (x : ℕ). leb x k) (get_d_table (limits.numbers + 1) (since_of J E) n 255 (omega (arith, below_elim (N + 1) m))) ∙ since_by J E n w k b)))

  pub text_is : rows_in (N + 1) M ≡ stage_text N J E
  unfolding rows_of stage_text last_stage
  text_is = each_same (row_of (N + 1) M) (stage_line N J E) (numbers_below (latest 0 M + 1)) (λ k m. row_is k (omega (arith, below_elim (latest 0 M + 1) m, latest_low M 0 (omega arith))))

-- ---- the rows into lent bytes
pub put_above : (m : List ℕ) (N : ℕ) (out : List ℕ) → limits.numbers < N → kept Number out ≡ put_of m N out
unfolding put_of
put_above m N out h = rw (lt-ltb limits.numbers N h)

pub put_within : (m : List ℕ) (N : ℕ) (out : List ℕ) → N ≤ limits.numbers → fitted (rows_in (N + 1) m) out ≡ put_of m N out
unfolding put_of
put_within m N out h = rw (le-ltb limits.numbers N h)

-- the numbers up to N have the marks of the first places
module _ (m : List ℕ) (N : ℕ) (within : N < length m) where
  first : length (take (N + 1) m) ≡ N + 1
  first = length-take-le (N + 1) m (omega (arith, within))

  part_first : (k n : ℕ) → n < N + 1 → part_of (take (N + 1) m) k n ≡ part_of m k n
  unfolding part_of marked
  part_first k n h = ap (λ (x : ℕ). choose (leb x k) (field n) []) (get_or-take (N + 1) m n 255 h)

  pub rows_first : (count : ℕ) → rows_of (length (take (N + 1) m)) (take (N + 1) m) count ≡ rows_of (N + 1) m count
  unfolding rows_of row_of body_of
  rows_first count =
      ap (λ (e : ℕ). rows_of e (take (N + 1) m) count) first
      ∙ each_same (row_of (N + 1) (take (N + 1) m)) (row_of (N + 1) m) (numbers_below count)
      (λ k i. ap (λ (t : List ℕ). digits k ++ (t ++ word "\n")) (each_same (part_of (take (N + 1) m) k) (part_of m k) (numbers_below (N + 1)) (λ n j. part_first k n (below_elim (N + 1) j))))

module _ (m : List ℕ) (N count : ℕ) (out t : List ℕ) (low : N ≤ limits.numbers) (same : t ≡ rows_of (N + 1) m count) (c : count ≡ latest 0 m + 1) where
  counted : t ≡ rows_in (N + 1) m
  counted = same ∙ ap (rows_of (N + 1) m) c

  pub put_short : length out < length t → kept Short out ≡ put_of m N out
  put_short k = fitted_short (rows_in (N + 1) m) out (omega (arith, k, ap length counted)) ∙ put_within m N out low

  pub put_done : length t ≤ length out → record { answer = Ok (length t); bytes = t ++ drop (length t) out } ≡ put_of m N out
  put_done k =
      let T : List ℕ = rows_in (N + 1) m in
      ap (λ (x : List ℕ). record { answer = Ok (length x); bytes = x ++ drop (length x) out }) counted ∙ fitted_long T out (omega (arith, k, ap length counted)) refl ∙ put_within m N out low

-- ---- the call
module _ (s : Store) (E : ℕ) (out : List ℕ) where
  pub lines_refused : (r : Reply) → Err r ≡ checked (refusal_of s 0 E) → Leaves (stages_of s E out) (Err r) out
  unfolding stages_of
  lines_refused r e = refused_set s E r e (λ x. kept x out) (fitted (stage_text (top s.held) (said_by s.held) E) out)

  pub lines_put : Readable s 0 E → (m : List ℕ) → m ≡ table (limits.numbers + 1) (since_of (said_by s.held) E) → (r : Result ℕ Reply) (after : List ℕ) → record { answer = r; bytes = after } ≡ put_of m (top s.held) out
      → Leaves (stages_of s E out) r after
  unfolding stages_of
  lines_put k m e r after p =
      let N : ℕ = top s.held in
      let low : N ≤ limits.numbers = omega (arith, k.fit.few, k.fit.claims) in
      p ∙ sym (put_within m N out low) ∙ ap (λ (t : List ℕ). fitted t out) (ap (rows_in (N + 1)) e ∙ text_is (said_by s.held) (placed s k.fit) E N low) ∙ rw (k.right, k.set)
