-- What is left of a list where sets are struck, set by set; and so of a label. Assumes nothing.
use mathlib.Core.Bool.{Bool, false, not, true}
use mathlib.Core.List.{List, [], ◌++◌, ◌∷◌, append-nil}
use Rattle.std.specs.Prelude.{Option, is_some}
use mathlib.Core.Path.{◌∙◌, ◌≡◌, ap, ap₂, sym}
use Prim.Native.Nat.{◌+◌, ◌<◌, ◌≤◌, ℕ}
use native.Mathlib.Numerals.{add-one}
use native.Mathlib.Omega.{arith}
use lib.ListN.{get_or, length, length-append, length-take, replicate, set, take}
use lib.Seq.{take_all, take-suc}
use Rattle.joining.specs.Layout.{lying}
use Rattle.labels.specs.Promised.{placed_list}
use Rattle.labels.specs.declared.Built.{Built}
use Rattle.members.proofs.First.{contains_first}
use Rattle.members.specs.Promised.{first_within}
use Rattle.rules.proofs.Entries.{length_padded}
use Rattle.rules.proofs.Taking.{padded_push, those_append}
use Rattle.rules.specs.declared.Held.{Held}
use Rattle.stages.proofs.Keeps.{label_struck}
use Rattle.stages.proofs.Parts.{wide}
use Rattle.stages.proofs.Stages.{lies, room_short}
use Rattle.stages.proofs.Tables.{replicate_table}
use Rattle.stages.specs.Steps.{Reached, Stale, spared_of, stage_by}
use Rattle.stages.specs.declared.Lists.{Lists}
use Rattle.theory.proofs.Depth.{count_all}
use Rattle.theory.specs.Limits.{limits}
use Rattle.theory.specs.Lists.{keep, those}
use Rattle.theory.specs.Places.{padded}
use Rattle.theory.specs.Sets.{contains}
use Rattle.theory.specs.Step.{label_in}

-- those of the first i sets that are left, in their places
pub record Left (list struck sets : List ℕ) (count i : ℕ) : Type 0 where
  pub inside : i ≤ length list
  pub counted : count ≡ length (spared_of struck (take i list))
  pub lie : sets ≡ padded 0 limits.nogoods (spared_of struck (take i list))

left_few : (struck list : List ℕ) → length (spared_of struck list) ≤ length list
left_few struck list = count_all (λ E. not (contains struck E)) list

pub left_none : (list struck : List ℕ) → Left list struck (replicate limits.nogoods 0) 0 0
unfolding those padded
left_none list struck = record { inside = omega arith; counted = omega arith; lie = replicate_table limits.nogoods 0 }

module _ (list struck sets : List ℕ) (count i : ℕ) (l : Left list struck sets count i) where
  pub left_long : length sets ≡ limits.nogoods
  left_long = ap length l.lie ∙ length_padded 0 limits.nogoods (spared_of struck (take i list))

  pub left_room : i < length list → length list ≤ limits.nogoods → count < limits.nogoods
  left_room h few = omega (arith, l.counted, left_few struck (take i list), length-take i list)

  module _ (h : i < length list) (r : Option ℕ) (first : r ≡ first_within struck (get_or list i 0)) where
    more : (b : Bool) → not (contains struck (get_or list i 0)) ≡ b → spared_of struck (take (i + 1) list) ≡ spared_of struck (take i list) ++ keep b (get_or list i 0) []
    unfolding those
    more b e =
        ap (λ (n : ℕ). spared_of struck (take n list)) (add-one i) ∙ ap (spared_of struck) (take-suc list i 0 h)
        ∙ those_append (λ E. not (contains struck E)) (take i list) (get_or list i 0 ∷ []) ∙ ap (λ (c : Bool). spared_of struck (take i list) ++ keep c (get_or list i 0) []) e

    pub left_more : length list ≤ limits.nogoods → is_some r ≡ false → Left list struck (set sets count (get_or list i 0)) (count + 1) (i + 1)
    left_more few e =
        let m : spared_of struck (take (i + 1) list) ≡ spared_of struck (take i list) ++ get_or list i 0 ∷ [] =
        more true (ap not (contains_first struck (get_or list i 0) ∙ ap is_some (sym first) ∙ e)) in
        record {
          inside = omega arith;
          counted = omega (arith, l.counted, ap length m, length-append (spared_of struck (take i list)) (get_or list i 0 ∷ []));
          lie = ap₂ (λ (x : List ℕ) (n : ℕ). set x n (get_or list i 0)) l.lie l.counted
              ∙ padded_push (spared_of struck (take i list)) limits.nogoods (get_or list i 0) (omega (arith, l.counted, left_room h few)) ∙ ap (padded 0 limits.nogoods) (sym m);
        }

    pub left_on : is_some r ≡ true → Left list struck sets count (i + 1)
    left_on e =
        let m : spared_of struck (take (i + 1) list) ≡ spared_of struck (take i list) =
        more false (ap not (contains_first struck (get_or list i 0) ∙ ap is_some (sym first) ∙ e)) ∙ append-nil (spared_of struck (take i list)) in
        record { inside = omega arith; counted = l.counted ∙ ap length (sym m); lie = l.lie ∙ ap (padded 0 limits.nogoods) (sym m) }

  pub left_all : length list ≤ i → ◌≡◌ {A = Built} (record { count = count; sets = sets }) (placed_list (spared_of struck list))
  unfolding placed_list
  left_all h =
      let e : spared_of struck (take i list) ≡ spared_of struck list = ap (spared_of struck) (take_all i list h) in
      ap₂ (λ (n : ℕ) (s : List ℕ). record { count = n; sets = s }) (l.counted ∙ ap length e) (l.lie ∙ ap (padded 0 limits.nogoods) e)

-- where the two ways meet
pub left_came : (list struck : List ℕ) {sets sets' : List ℕ} {count count' : ℕ} (i : ℕ) → sets ≡ sets' → count ≡ count' → Left list struck sets' count' i → Left list struck sets count i
left_came list struck i s e l = record { inside = l.inside; counted = e ∙ l.counted; lie = s ∙ l.lie }

-- ---- a label without a mark, struck by the nogoods of the next stage
module _ (h : Held) (l : Lists) (re : Reached h l) (stale : List ℕ) (f : Stale h l.depth stale) (i : ℕ) (low : i < h.assumptions + h.claims) (z : get_or stale (i + 1) 0 ≡ 0) where
  abbrev next : List ℕ
  next = get_or (stage_by h (l.depth + 1)).labels i []

  struck_next : next ≡ spared_of (stage_by h (l.depth + 1)).nogoods (get_or (stage_by h l.depth).labels i [])
  struck_next = label_struck h re.judgeable l.depth stale f i low z

  pub struck_short : length next ≤ limits.label
  struck_short = omega (arith, ap length struck_next, left_few (stage_by h (l.depth + 1)).nogoods (get_or (stage_by h l.depth).labels i []), room_short (stage_by h l.depth) re.room i)

  module _ (struck : List ℕ) (se : struck ≡ (stage_by h (l.depth + 1)).nogoods) (old : List ℕ) (oe : old ≡ lying l.members l.sizes (i + 1)) where
    pub struck_is : placed_list (spared_of struck old) ≡ placed_list next
    unfolding label_in
    struck_is =
        let o : old ≡ get_or (stage_by h l.depth).labels i [] =
        oe ∙ lies l.depth (stage_by h l.depth) re.room l re.is (i + 1) (omega (arith, wide h re.judgeable)) ∙ ap (label_in (stage_by h l.depth).labels) (add-one i) in
        ap placed_list (ap₂ spared_of se o ∙ sym struck_next)
