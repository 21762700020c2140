-- The records one after another, as the loop reads them: what the file says is what its rest says after what is held. Assumes nothing.
use mathlib.Core.Bool.{true}
use mathlib.Core.List.{List, []}
use mathlib.Core.Path.{◌∙◌, ◌≡◌, ap, ap₂, refl, subst, sym}
use Prim.Native.Nat.{ℕ, ◌+◌, ◌-◌, ◌<◌, ◌≤◌, suc}
use native.Mathlib.Numerals.{add-one}
use native.Mathlib.Omega.{arith}
use lib.ListN.{drop_of_length-le, length}
use lib.Seq.{drop-cons}
use Rattle.casefile.proofs.Gathering.{Sure, joined_length, joined_sure, meant, meant_fits, meant_said, sure_count, sure_joined, sure_none}
use Rattle.casefile.specs.Case.{Reading, whole, refused, case_of, case_with, gathered, joined, parse_of, parsed_of, records_from, with_item, with_record}
use Rattle.casefile.specs.Steps.{finished, records_of}
use Rattle.casefile.specs.declared.Fault.{Fault}
use Rattle.std.specs.Prelude.{Result, Ok, Err, IsErrAnd, MatchResult}
use Rattle.items.proofs.Taken.{Told, header_fault, header_of, header_read, record_fault, record_read}
use Rattle.items.specs.Items.{Header, Item, record_from}
use Rattle.items.specs.Steps.{counts_from, entry_from}
use Rattle.items.specs.declared.Counts.{Counts}
use Rattle.numbers.specs.Reader.{Takes, left}
use Rattle.numbers.specs.declared.Reader.{Reader}
use Rattle.replies.specs.declared.Reply.TheVariants.{After}
use Rattle.replies.specs.declared.Reply.{Reply}
use Rattle.rules.specs.Held.{fitting, held_of, held_right, meaning, said_by}
use Rattle.rules.specs.declared.Entry.{Entry}
use Rattle.rules.specs.declared.Held.{Held}
use Rattle.theory.specs.Limits.{limits}
use Rattle.theory.specs.Stages.{Justification}

-- ---- an answer whose refusal was turned into another

pub mapped_ok : {X E D : Type 0} (Q : E → D → Type 0) (a : Result X E) (b : Result X D) (x : X) → MatchResult a (λ y. b ≡ Ok y) (λ e. IsErrAnd b (Q e)) → b ≡ Ok x → a ≡ Ok x
mapped_ok Q (Ok y) b x m e = let p : y ≡ x = cc in ap Ok p
mapped_ok Q (Err f) (Ok y) x m e = absurd m
mapped_ok Q (Err f) (Err d) x m e = absurd cc

pub mapped_err : {X E D : Type 0} (Q : E → D → Type 0) (a : Result X E) (b : Result X D) (d : D) → MatchResult a (λ y. b ≡ Ok y) (λ e. IsErrAnd b (Q e)) → b ≡ Err d → (e : E) × (a ≡ Err e) × Q e d
mapped_err Q (Ok y) b d m e = absurd cc
mapped_err Q (Err f) (Ok y) d m e = absurd m
mapped_err Q (Err f) (Err g) d m e = let p : g ≡ d = cc in (f, refl, subst (Q f) p m)

-- ---- the records

finished_more : (A M : ℕ) (H : List Justification) (i : Item) (R : Reading (List Item)) → finished A M H (with_item i R) ≡ finished A M (joined (meant (A + M) i) H) R
unfolding gathered
finished_more A M H i (whole l) = refl
finished_more A M H i (refused f r) = refl

-- so many records are read, what they give is held, and the reading goes on where s stands
pub record Midway (r s : Reader) (A M J : ℕ) (h : Held) (done : ℕ) : Type 0 where
  pub have : List Justification
  pub held : h ≡ held_of A M have
  pub sure : Sure A M have
  pub many : length have ≤ done
  pub few : done ≤ J
  pub rest : records_of A M J (left r) ≡ finished A M have (records_from (A + M) done (J - done) (left s))

module _ (r : Reader) (A M J : ℕ) where
  pub midway_none : (h : Held) → h ≡ held_of A M [] → Midway r r A M J h 0
  unfolding records_of
  midway_none h e = let z : J - 0 ≡ J = omega arith in record { have = []; held = e; sure = sure_none A M; many = omega arith; few = omega arith; rest = rw z }

  module _ (s : Reader) (h : Held) (done : ℕ) (p : Midway r s A M J h done) where
    module _ (less : done < J) (t : Reader) where
      onward : records_from (A + M) done (J - done) (left s) ≡ with_record (suc done) (record_from (A + M) (left s)) (records_from (A + M) (suc done) (J - (done + 1)))
      unfolding records_from
      onward = let e : J - done ≡ suc (J - (done + 1)) = omega arith in rw e

      pub midway_bad : (f : Reply) → Takes (entry_from (A + M)) s t (Err f) → Err (record { reply = f; «record» = done + 1 }) ≡ records_of A M J (left r)
      midway_bad f e = rw (p.rest, onward, record_fault (A + M) s t f e, add-one)

      module _ (e : Entry) (q : Takes (entry_from (A + M)) s t (Ok e)) where
        told : Told (A + M) s t e
        told = record_read (A + M) s t e q

        pub midway_room : J ≤ limits.held → (held_right h ≡ true) × (h.count < limits.held) × (fitting (h.assumptions + h.claims) e ≡ true)
        midway_room small =
            (subst (λ (x : Held). held_right x ≡ true) (sym p.held) p.sure.right, room, ap₂ (λ (x : Held) (y : Entry). fitting (x.assumptions + x.claims) y) p.held told.entered ∙ meant_fits A M p.have p.sure told.item told.faultless)
          where
            room : h.count < limits.held
            room = omega (arith, ap (λ (x : Held). x.count) p.held, sure_count A M p.have, p.many)

        pub midway_more : J ≤ limits.held → (h' : Held) → h' ≡ held_of h.assumptions h.claims (joined (meaning e) (said_by h)) → Midway r t A M J h' (done + 1)
        midway_more small h' w =
            record {
              have = joined j p.have;
              held = w ∙ (ap (λ (x : Held). held_of x.assumptions x.claims (joined (meaning e) (said_by x))) p.held ∙ sure_joined A M p.have p.sure (meaning e) j (ap meaning told.entered ∙ meant_said A M p.have p.sure told.item told.faultless));
              sure = joined_sure A M p.have p.sure told.item told.faultless (omega (arith, p.many));
              many = omega (arith, joined_length j p.have, p.many);
              few = omega arith;
              rest = rw (p.rest, onward, told.taken) (finished_more A M p.have told.item (records_from (A + M) (suc done) (J - (done + 1)) (left t)) ∙ rw add-one);
            }
          where
            j : Justification
            j = meant (A + M) told.item

    pub midway_after : J ≤ done → s.at < length s.bytes.now → Err (record { reply = After; «record» = J }) ≡ records_of A M J (left r)
    unfolding records_from
    midway_after n more =
        let e : J - done ≡ 0 = omega arith in
        let f : done ≡ J = omega (arith, p.few) in
        rw (p.rest, e, drop-cons s.bytes.now s.at 0 more, f)

    pub midway_all : J ≤ done → length s.bytes.now ≤ s.at → Ok h ≡ records_of A M J (left r)
    unfolding records_from gathered
    midway_all n end =
        let e : J - done ≡ 0 = omega arith in
        rw (p.rest, e, drop_of_length-le s.bytes.now {i = s.at} end, p.held)

-- ---- the whole file

parsed_held : (c : Header) (R : Reading (List Item)) (h : Held) → Ok h ≡ finished c.assumptions c.claims [] R → Ok (record { records = c.records; held = h }) ≡ parsed_of (case_with c R)
parsed_held c (whole l) h e = let p : h ≡ held_of c.assumptions c.claims (gathered (c.assumptions + c.claims) [] l) = cc in ap (λ (x : Held). Ok (record { records = c.records; held = x })) p
parsed_held c (refused f r) h e = absurd cc

parsed_fault : (c : Header) (R : Reading (List Item)) (x : Fault) → Err x ≡ finished c.assumptions c.claims [] R → Err x ≡ parsed_of (case_with c R)
parsed_fault c (whole l) x e = absurd cc
parsed_fault c (refused f r) x e = let p : x ≡ record { reply = f; «record» = r } = cc in ap Err p

module _ (r s : Reader) where
  pub parse_refused : (f : Reply) → Takes counts_from r s (Err f) → Err (record { reply = f; «record» = 0 }) ≡ parse_of (left r)
  unfolding parse_of case_of
  parse_refused f e = rw (header_fault r s f e)

  module _ (c : Counts) (e : Takes counts_from r s (Ok c)) where
    pub parse_held : (h : Held) → Ok h ≡ records_of c.assumptions c.claims c.records (left s) → Ok (record { records = c.records; held = h }) ≡ parse_of (left r)
    unfolding parse_of case_of records_of
    parse_held h q = rw (header_read r s c e).taken (parsed_held (header_of c) (records_from (c.assumptions + c.claims) 0 c.records (left s)) h q)

    pub parse_fault : (x : Fault) → Err x ≡ records_of c.assumptions c.claims c.records (left s) → Err x ≡ parse_of (left r)
    unfolding parse_of case_of records_of
    parse_fault x q = rw (header_read r s c e).taken (parsed_fault (header_of c) (records_from (c.assumptions + c.claims) 0 c.records (left s)) x q)

    pub parse_ready : (c.assumptions + c.claims ≤ limits.numbers) × (c.records ≤ limits.held)
    parse_ready = let w = (header_read r s c e).limited in (omega (arith, w.assumptions, w.claims), w.records)
