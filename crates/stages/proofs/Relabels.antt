-- The labels of the next stage put over the old ones, label by label, with their marks. Assumes nothing.
use Rattle.std.specs.Prelude.{None}
use mathlib.Core.Bool.{Bool, false, true}
use mathlib.Core.List.{List, []}
use mathlib.Core.Path.{◌∙◌, ◌≡◌, ap, ap₂, refl, sym}
use Prim.Native.Nat.{◌*◌, ◌+◌, ◌<◌, ◌≤◌, ℕ}
use native.Mathlib.Numerals.{add-one}
use native.Mathlib.Omega.{arith}
use lib.ListN.{get_or, get_or-replicate, length, length-replicate, replicate, set, take}
use lib.Seq.{paste}
use Rattle.joining.specs.Layout.{lying}
use Rattle.labels.specs.Promised.{placed_list}
use Rattle.labels.specs.declared.Built.{Built}
use Rattle.rules.specs.Held.{said_by}
use Rattle.rules.specs.declared.Held.{Held}
use Rattle.stages.proofs.Nexts.{over_none, short_on}
use Rattle.stages.proofs.Parts.{below, wide}
use Rattle.stages.proofs.Stages.{lies, listed_taken}
use Rattle.stages.proofs.Writing.{marks_kept, marks_written, member, members_kept, members_placed, members_written, mixed, mixed_all, size, sizes_kept, sizes_placed, sizes_written}
use Rattle.stages.specs.Steps.{Put, Reached, Relabelled, mark_of, stage_by}
use Rattle.stages.specs.declared.Lists.{Lists}
use Rattle.theory.proofs.Judgement.{same_elim, same_refl, stage_length}
use Rattle.theory.proofs.Places.{is_table, length_table}
use Rattle.theory.specs.Judge.{same_sets}
use Rattle.theory.specs.Limits.{limits}
use Rattle.theory.specs.Lists.{choose}
use Rattle.theory.specs.Places.{padded, table}
use Rattle.theory.specs.Step.{label_in}

module _ (h : Held) (k : ℕ) where
  abbrev N : ℕ
  N = h.assumptions + h.claims

  abbrev old : List (List ℕ)
  old = (stage_by h k).labels

  abbrev new : List (List ℕ)
  new = (stage_by h (k + 1)).labels

  -- i labels are done, hi justifications are of them or of falsity
  pub record Relabelling (later counts marks : List ℕ) (hi i : ℕ) : Type 0 where
    pub low : i ≤ h.assumptions + h.claims
    pub part : hi ≡ below (said_by h) (i + 1)
    pub sizes : counts ≡ table limits.numbers (size (mixed (stage_by h k).labels (stage_by h (k + 1)).labels i))
    pub members : later ≡ table (limits.numbers * limits.label) (member (mixed (stage_by h k).labels (stage_by h (k + 1)).labels i))
    pub marked : marks ≡ table (limits.numbers + 1) (mark_of (stage_by h k).labels (mixed (stage_by h k).labels (stage_by h (k + 1)).labels i))
    pub short : (j : ℕ) → j < i → length (get_or (stage_by h (k + 1)).labels j []) ≤ limits.label

  pub relabelling_none : (later counts marks : List ℕ) (hi : ℕ) → marks ≡ replicate (limits.numbers + 1) 0 → hi ≡ below (said_by h) (0 + 1) → counts ≡ table limits.numbers (size (stage_by h k).labels) → later ≡ table (limits.numbers * limits.label) (member (stage_by h k).labels) → Relabelling later counts marks hi 0
  unfolding mark_of
  relabelling_none later counts marks hi z e s m = record {
    low = omega arith;
    part = e;
    sizes = s;
    members = m;
    marked = z ∙ is_table (replicate (limits.numbers + 1) 0) (limits.numbers + 1) (mark_of old old) 0 (length-replicate {A = ℕ} (limits.numbers + 1) 0)
        (λ i p. get_or-replicate {A = ℕ} (limits.numbers + 1) i 0 0 p ∙ sym (ap (λ (b : Bool). choose b 0 1) (same_refl (label_in old i))));
    short = λ j p. absurd (omega arith);
  }

  module _ (later counts marks : List ℕ) (hi i : ℕ) (inv : Relabelling later counts marks hi i) (few : h.assumptions + h.claims ≤ limits.numbers) (less : i < h.assumptions + h.claims) (hi' : ℕ) (on : hi' ≡ below (said_by h) (i + 1 + 1)) where
    there : i < length new
    there = omega (arith, stage_length h.assumptions N (said_by h) (k + 1))

    pub relabelling_kept : get_or (stage_by h (k + 1)).labels i [] ≡ get_or (stage_by h k).labels i [] → length (get_or (stage_by h k).labels i []) ≤ limits.label → Relabelling later counts marks hi' (i + 1)
    relabelling_kept e s = record {
      low = omega arith;
      part = on;
      sizes = sizes_kept old new i there e counts inv.sizes;
      members = members_kept old new i there e later inv.members;
      marked = marks_kept old new i there e marks inv.marked;
      short = short_on (stage_by h (k + 1)) i (omega (arith, ap length e)) inv.short;
    }

    pub relabelling_put : (label : Built) → label ≡ placed_list (get_or (stage_by h (k + 1)).labels i []) → length (get_or (stage_by h (k + 1)).labels i []) ≤ limits.label
        → (o : List ℕ) → o ≡ get_or (stage_by h k).labels i [] → (later' counts' marks' : List ℕ) → Put (same_sets (take label.count label.sets) o) i label later counts marks later' counts' marks' → Relabelling later' counts' marks' hi' (i + 1)
    unfolding placed_list
    relabelling_put label is few' o oe later' counts' marks' p = go (same_sets X (get_or old i [])) refl
      where
        X : List ℕ
        X = get_or new i []

        c : label.count ≡ length X
        c = ap (λ (b : Built). b.count) is

        s : label.sets ≡ padded 0 limits.nogoods X
        s = ap (λ (b : Built). b.sets) is

        taken : take label.count label.sets ≡ X
        taken = listed_taken X label.count label.sets (record { counted = c; few = omega (arith, c, few'); lie = s })

        test : same_sets (take label.count label.sets) o ≡ same_sets X (get_or old i [])
        test = ap₂ same_sets taken oe

        go : (b : Bool) → same_sets X (get_or old i []) ≡ b → Relabelling later' counts' marks' hi' (i + 1)
        go true q =
            let at : (x y : List ℕ) → choose (same_sets (take label.count label.sets) o) x y ≡ x = λ x y. ap (λ (b : Bool). choose b x y) (test ∙ q) in
            let e : X ≡ get_or old i [] = same_elim X (get_or old i []) q in
            record {
              low = omega arith;
              part = on;
              sizes = sizes_kept old new i there e counts' (p.1 ∙ at counts (set counts i label.count) ∙ inv.sizes);
              members = members_kept old new i there e later' (p.0 ∙ at later (paste later (limits.label * i) label.sets limits.label) ∙ inv.members);
              marked = marks_kept old new i there e marks' (p.2 ∙ at marks (set marks (i + 1) 1) ∙ inv.marked);
              short = short_on (stage_by h (k + 1)) i few' inv.short;
            }
        go false q =
            let at : (x y : List ℕ) → choose (same_sets (take label.count label.sets) o) x y ≡ y = λ x y. ap (λ (b : Bool). choose b x y) (test ∙ q) in
            record {
              low = omega arith;
              part = on;
              sizes = p.1 ∙ at counts (set counts i label.count) ∙ sizes_written old new i there (omega arith) counts inv.sizes label.count c;
              members = members_written old new i there (omega arith) later inv.members label.sets s later' (p.0 ∙ at later (paste later (limits.label * i) label.sets limits.label));
              marked = p.2 ∙ at marks (set marks (i + 1) 1) ∙ marks_written old new i there (omega arith) q marks inv.marked;
              short = short_on (stage_by h (k + 1)) i few' inv.short;
            }

  pub relabelling_lengths : (later counts marks : List ℕ) (hi i : ℕ) → Relabelling later counts marks hi i → (length later ≡ limits.numbers * limits.label) × (length counts ≡ limits.numbers) × (length marks ≡ limits.numbers + 1)
  relabelling_lengths later counts marks hi i inv = (ap length inv.members ∙ length_table (limits.numbers * limits.label) _, ap length inv.sizes ∙ length_table limits.numbers _, ap length inv.marked ∙ length_table (limits.numbers + 1) _)

  pub relabelling_end : (later counts marks : List ℕ) (hi i : ℕ) → Relabelling later counts marks hi i → h.assumptions + h.claims ≤ i → Relabelled h k later counts marks None
  relabelling_end later counts marks hi i inv p =
      let a = stage_length h.assumptions N (said_by h) k in
      let b = stage_length h.assumptions N (said_by h) (k + 1) in
      let e : mixed old new i ≡ new = mixed_all old new i (omega arith) (omega arith) in
      record {
        over = over_none h k i inv.short (omega arith);
        members_are = λ z. inv.members ∙ ap (λ (x : List (List ℕ)). table (limits.numbers * limits.label) (member x)) e ∙ members_placed (k + 1) (stage_by h (k + 1));
        sizes_are = λ z. inv.sizes ∙ ap (λ (x : List (List ℕ)). table limits.numbers (size x)) e ∙ sizes_placed (k + 1) (stage_by h (k + 1));
        marks_are = λ z. inv.marked ∙ ap (λ (x : List (List ℕ)). table (limits.numbers + 1) (mark_of old x)) e;
      }

-- the old label, as it lies
pub old_is : (h : Held) (l : Lists) → Reached h l → (i : ℕ) → i < h.assumptions + h.claims → (o : List ℕ) → o ≡ lying l.members l.sizes (i + 1) → o ≡ get_or (stage_by h l.depth).labels i []
unfolding label_in
old_is h l re i low o e =
    e ∙ lies l.depth (stage_by h l.depth) re.room l re.is (i + 1) (omega (arith, wide h re.judgeable)) ∙ ap (label_in (stage_by h l.depth).labels) (add-one i)
