-- Lent bytes as long as the longest listing are never refused with 15. Assumes nothing.
use mathlib.Core.Bool.{true}
use mathlib.Core.List.{List, [], ◌∷◌}
use mathlib.Core.Logic.{⊎_elim}
use mathlib.Core.Path.{◌≡◌, ap}
use Prim.Native.Nat.{◌+◌, ◌<◌, ◌^◌, ◌≤◌, suc, zero, ℕ}
use native.Mathlib.Decide.{dec_lt}
use native.Mathlib.Omega.{arith}
use lib.Dec.{eqb}
use lib.ListN.{length}
use borrow.Author.Tests.{eqb-false, eqb-true, le-ltb}
use Rattle.casefile.proofs.Whole.{Checked, case_checked}
use Rattle.casefile.specs.Case.{Case, Reading, case_after, case_of, case_with, ending, records_from, refused, whole, with_item, with_record}
use Rattle.casefile.specs.Load.{load_of, loaded_of}
use Rattle.items.proofs.Taken.{Each, Limited, header_limited}
use Rattle.items.specs.Items.{Header, Item, header_from, record_from}
use Rattle.lines.proofs.Longest.{refused_length}
use Rattle.lent.specs.Lent.{fitted}
use Rattle.std.proofs.Common.{Ok}
use Rattle.listing.proofs.Laws.{text_done, text_long, text_refused}
use Rattle.listing.proofs.Longest.{listing_length}
use Rattle.listing.proofs.Loaded.{loaded_right}
use Rattle.listing.specs.Listing.{listed_of, listing_of, listing_text, longest_listing}
use Rattle.numbers.specs.Numbers.{Taken, bad, got}
use Rattle.replies.specs.Replies.{number_of}
use Rattle.replies.specs.declared.Reply.TheVariants.{Long}
use Rattle.store.specs.Shape.{right_shape}
use Rattle.store.specs.declared.Store.{Store}
use Rattle.theory.proofs.Lists.{either}
use Rattle.theory.specs.Limits.{file_bytes, limits}

-- ---- no fault names a record above the limit

Low : {X : Type 0} → ℕ → Reading X → Type 0
Low b (whole x) = 0 ≤ b
Low b (refused f k) = k ≤ b

module _ (b : ℕ) where
  ending_low : (r : ℕ) (l : List ℕ) → r ≤ b → Low b (ending r l)
  unfolding Low
  ending_low r [] h = omega arith
  ending_low r (x ∷ l) h = h

  item_low : (i : Item) (R : Reading (List Item)) → Low b R → Low b (with_item i R)
  unfolding Low
  item_low i (whole l) h = h
  item_low i (refused f k) h = h

  record_low : (r : ℕ) (t : Taken Item) (later : List ℕ → Reading (List Item)) → r ≤ b → ((m : List ℕ) → Low b (later m)) → Low b (with_record r t later)
  unfolding Low
  record_low r (got i m) later h f = item_low i (later m) (f m)
  record_low r (bad x) later h f = h

  records_low : (N r n : ℕ) → r + n ≤ b → (l : List ℕ) → Low b (records_from N r n l)
  unfolding records_from
  records_low N r zero h l = ending_low r l (omega arith)
  records_low N r (suc n) h l = record_low (suc r) (record_from N l) (records_from N (suc r) n) (omega arith) (records_low N (suc r) n (omega arith))

  case_low : (h : Header) (R : Reading (List Item)) → Low b R → Low b (case_with h R)
  unfolding Low
  case_low h (whole l) p = p
  case_low h (refused f k) p = p

after_low : (t : Taken Header) → Each Limited t → Low limits.held (case_after t)
unfolding Low Each
after_low (got h l) p = case_low limits.held h (records_from (h.assumptions + h.claims) 0 h.records l) (records_low limits.held (h.assumptions + h.claims) 0 h.records (omega (arith, p.records)) l)
after_low (bad f) p = omega arith

loaded_low : (o : Reading Case) → Checked o → Low limits.held o → (loaded_of o).«record» ≤ limits.held
unfolding Low Checked
loaded_low (whole s) p q = p.limited.records
loaded_low (refused f k) p q = q

load_low : (l : List ℕ) → (load_of l).«record» ≤ limits.held
unfolding load_of case_of
load_low l = loaded_low (case_of l) (case_checked l) (after_low (header_from l) (header_limited l))

-- ---- what is printed of a file is no longer than the longest listing

short : (l : List ℕ) → length l ≤ file_bytes → length (listing_of l) ≤ longest_listing
short l h =
    ⊎_elim
    (λ e. let z : number_of (load_of l).reply ≡ 0 = eqb-true (number_of (load_of l).reply) 0 e in
    let w = loaded_right l z in
    omega (arith, listing_length (load_of l).store w.right (omega (arith, w.places)), ap length (text_done l h z)))
    (λ e. let k : (load_of l).«record» < 2 ^ 32 = omega (arith, load_low l) in
    omega (arith, refused_length (load_of l).reply (load_of l).«record» k, ap length (text_refused l h (eqb-false (number_of (load_of l).reply) 0 e))))
    (either (eqb (number_of (load_of l).reply) 0))

pub printed_length : (l : List ℕ) → length (listing_of l) ≤ longest_listing
printed_length l = elim (dec_lt file_bytes (length l)) [
  | yes h ↦ omega (arith, refused_length Long 0 (omega arith), ap length (text_long l h))
  | no h ↦ short l (omega arith)
]

-- ---- so nothing is refused with 15 there

fits : (t out : List ℕ) → length t ≤ length out → (fitted t out).answer ≡ Ok (length t)
unfolding fitted
fits t out h = rw (le-ltb (length out) (length t) h)

pub printed_fits : (l out : List ℕ) → longest_listing ≤ length out → (fitted (listing_of l) out).answer ≡ Ok (length (listing_of l))
printed_fits l out h = fits (listing_of l) out (omega (arith, printed_length l))

pub listing_fits : (s : Store) (out : List ℕ) → right_shape s ≡ true → length s.lists.nogoods ≤ limits.nogoods → longest_listing ≤ length out → (listed_of s out).answer ≡ Ok (length (listing_text s))
unfolding listed_of
listing_fits s out right room h = rw right (fits (listing_text s) out (omega (arith, listing_length s right room)))
