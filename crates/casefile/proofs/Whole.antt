-- A file that is answered done is a whole case: its counts are within the limits, its items without fault, and what is held of them has the right shape and says exactly their justifications. Assumes nothing.
use mathlib.Core.Bool.{true, false}
use mathlib.Core.List.Memᴰ
use mathlib.Core.List.{List, Memᴰ as Mem, [], ◌∷◌}
use mathlib.Core.Logic.{⊎_elim}
use mathlib.Core.Path.{◌≡◌, ap, refl, subst, sym}
use Prim.Native.Nat.{ℕ, ◌+◌, ◌≤◌, suc, zero}
use native.Mathlib.Omega.{arith}
use lib.Dec.{eqb}
use lib.ListN.{length}
use Rattle.casefile.proofs.Gathering.{Sure, gathered_cases, gathered_has, gathered_sure, meant, sure_none}
use Rattle.casefile.specs.Case.{Case, Reading, whole, refused, case_after, case_of, case_with, done_of, ending, held_by, parse_of, parsed_of, records_from, with_item, with_record}
use Rattle.casefile.specs.declared.Parsed.{Parsed}
use Rattle.items.proofs.Taken.{Each, Faultless, Limited, header_limited, header_onward, record_each, record_onward}
use Rattle.items.specs.Items.{Header, Item, header_from, record_from}
use Rattle.numbers.proofs.Numbers.{Onward}
use Rattle.numbers.specs.Numbers.{Taken, got, bad}
use Rattle.replies.specs.Replies.{number_of}
use Rattle.std.specs.Prelude.{Ok}
use Rattle.rules.specs.Held.{held_of, held_right, said_by}
use Rattle.theory.specs.Limits.{limits}
use Rattle.theory.specs.Stages.{Justification}

-- ---- the records

-- n items without fault, or a fault that is not done
Recorded : ℕ → ℕ → Reading (List Item) → Type 0
Recorded N n (whole l) = (length l ≡ n) × ((i : Item) → Mem i l → Faultless N i)
Recorded N n (refused f r) = eqb (number_of f) 0 ≡ false

ending_recorded : (N r : ℕ) (l : List ℕ) → Recorded N 0 (ending r l)
unfolding Recorded
ending_recorded N r [] = (refl, λ i m. elim m [ ])
ending_recorded N r (b ∷ l) = refl

item_recorded : (N n : ℕ) (i : Item) → Faultless N i → (R : Reading (List Item)) → Recorded N n R → Recorded N (suc n) (with_item i R)
unfolding Recorded
item_recorded N n i d (whole l) p = (ap suc p.0, λ x m. ⊎_elim (λ e. subst (Faultless N) (sym e) d) (λ k. p.1 x k) (Memᴰ.cases_cons m))
item_recorded N n i d (refused f r) p = p

record_recorded : (N r n : ℕ) (l : List ℕ) (t : Taken Item) (later : List ℕ → Reading (List Item)) → Onward l t → Each (Faultless N) t → ((m : List ℕ) → Recorded N n (later m)) → Recorded N (suc n) (with_record r t later)
unfolding Onward Each Recorded
record_recorded N r n l (got i rest) later o d f = item_recorded N n i d (later rest) (f rest)
record_recorded N r n l (bad f) later o d g = o

recorded : (N r n : ℕ) (l : List ℕ) → Recorded N n (records_from N r n l)
unfolding records_from
recorded N r zero l = ending_recorded N r l
recorded N r (suc n) l = record_recorded N (suc r) n l (record_from N l) (records_from N (suc r) n) (record_onward N l 0) (record_each N l) (recorded N (suc r) n)

-- ---- the case

-- counts within the limits, as many items as announced, none with a fault
pub record Sound (s : Case) : Type 0 where
  pub limited : Limited s.header
  pub many : length s.items ≡ s.header.records
  pub faultless : (i : Item) → Mem i s.items → Faultless (s.header.assumptions + s.header.claims) i

-- a sound case, or a fault that is not done
unfoldable pub Checked : Reading Case → Type 0
Checked (whole s) = Sound s
Checked (refused f r) = eqb (number_of f) 0 ≡ false

with_checked : (h : Header) → Limited h → (R : Reading (List Item)) → Recorded (h.assumptions + h.claims) h.records R → Checked (case_with h R)
unfolding Recorded Checked
with_checked h d (whole l) p = record { limited = d; many = p.0; faultless = p.1 }
with_checked h d (refused f r) p = p

after_checked : (l : List ℕ) (t : Taken Header) → Onward l t → Each Limited t → Checked (case_after t)
unfolding Onward Each Checked
after_checked l (got h rest) o d = with_checked h d (records_from (h.assumptions + h.claims) 0 h.records rest) (recorded (h.assumptions + h.claims) 0 h.records rest)
after_checked l (bad f) o d = o

pub case_checked : (l : List ℕ) → Checked (case_of l)
unfolding case_of
case_checked l = after_checked l (header_from l) (header_onward l) (header_limited l)

-- ---- what is held

module _ (s : Case) (p : Sound s) where
  abbrev A : ℕ
  A = s.header.assumptions

  abbrev M : ℕ
  M = s.header.claims

  pub case_sure : Sure A M (held_by s)
  case_sure = gathered_sure A M [] s.items (sure_none A M) p.faultless (omega (arith, p.many, p.limited.records))

  -- each item's justification is held, and nothing else is
  pub held_item : {i : Item} → Mem i s.items → Mem (meant (A + M) i) (held_by s)
  held_item m = gathered_has (A + M) [] m

  pub held_only : {x : Justification} → Mem x (held_by s) → (i : Item) × Mem i s.items × (x ≡ meant (A + M) i)
  held_only m = ⊎_elim (λ n. elim n [ ]) (λ r. r) (gathered_cases (A + M) [] s.items m)

-- a file that is not refused: the case that it spells, and what is held of it
pub record Loadable (l : List ℕ) (p : Parsed) : Type 0 where
  pub spelled : Case
  pub spells : case_of l ≡ whole spelled
  pub parsed : p ≡ done_of spelled
  pub sound : Sound spelled
  pub assumptions : p.held.assumptions ≤ limits.assumptions
  pub claims : p.held.claims ≤ limits.claims
  pub right : held_right p.held ≡ true
  pub said : said_by p.held ≡ held_by spelled

done_case : (o : Reading Case) → Checked o → (p : Parsed) → Ok p ≡ parsed_of o → (s : Case) × (o ≡ whole s) × Sound s × (p ≡ done_of s)
unfolding Checked
done_case (whole s) k p e = (s, refl, k, cc)
done_case (refused f r) k p e = absurd cc

pub parse_right : (l : List ℕ) (p : Parsed) → Ok p ≡ parse_of l → Loadable l p
unfolding parse_of held_of
parse_right l p e =
    let c = done_case (case_of l) (case_checked l) p e in
    let s : Case = c.0 in
    let same : p ≡ done_of s = c.3 in
    let sure : Sure s.header.assumptions s.header.claims (held_by s) = case_sure s c.2 in
    record {
      spelled = s;
      spells = c.1;
      parsed = same;
      sound = c.2;
      assumptions = subst (λ (r : Parsed). r.held.assumptions ≤ limits.assumptions) (sym same) c.2.limited.assumptions;
      claims = subst (λ (r : Parsed). r.held.claims ≤ limits.claims) (sym same) c.2.limited.claims;
      right = subst (λ (r : Parsed). held_right r.held ≡ true) (sym same) sure.right;
      said = subst (λ (r : Parsed). said_by r.held ≡ held_by s) (sym same) sure.said;
    }
