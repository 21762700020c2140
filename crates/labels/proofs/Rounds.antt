-- Pass after pass: each begins with the first so many of the list, and gives the list or more of it. Assumes nothing.
use mathlib.Core.Bool.{Bool, false, not, true}
use mathlib.Core.List.{List, [], ◌++◌}
use mathlib.Core.Logic.{⊎_elim}
use Rattle.std.specs.Prelude.{Option, None, Some, Result, Ok, Err, is_some}
use mathlib.Core.Path.{◌∙◌, ◌≡◌, ap, refl, subst, sym}
use Prim.Native.Nat.{◌+◌, ◌<◌, ◌≤◌, ℕ}
use native.Mathlib.Omega.{arith}
use native.Mathlib.Decide.{dec_lt}
use lib.ListN.{length, length-take, take}
use lib.Seq.{take_all, take-take}
use borrow.Author.Tests.{lt-ltb}
use Rattle.joining.proofs.Refusals.{by_struck, offered_append, refused_all, refused_more}
use Rattle.joining.specs.Pool.{Filled, Offered, Refused, Well, offered_all}
use Rattle.labels.proofs.Passes.{begin, pass, pass_grows, pass_prefix, pass_whole, well_begin}
use Rattle.labels.proofs.Selects.{admitted_all, pass_selects, sound_none}
use Rattle.labels.specs.Moved.{Hushed, Still}
use Rattle.labels.specs.Promised.{built_of, placed_first, placed_list}
use Rattle.labels.specs.declared.Built.{Built}
use Rattle.labels.specs.declared.Full.{Full}
use Rattle.theory.proofs.Label.{contains_elim}
use Rattle.theory.proofs.Lists.{clash}
use Rattle.theory.proofs.Picks.{picks_selection}
use Rattle.theory.proofs.Select.{Selection}
use Rattle.theory.specs.Limits.{limits}
use Rattle.theory.specs.Lists.{choose}
use Rattle.theory.specs.Places.{padded}
use Rattle.theory.specs.Sets.{contains}
use Rattle.theory.specs.Stages.{Justification}
use Rattle.theory.specs.Step.{picks}

-- what stands after the first above the limit is not looked at
pub built_first : (limit : ℕ) (l : List ℕ) → built_of limit (take (limit + 1) l) ≡ built_of limit l
unfolding built_of placed_first
built_first limit l = elim (dec_lt limit (length l)) [
  | yes h ↦
      ap (by_length (take (limit + 1) l)) (lt-ltb limit (length (take (limit + 1) l)) (omega (arith, length-take (limit + 1) l)))
      ∙ ap (λ (m : List ℕ). Err (record { first = padded 0 limits.nogoods m })) (take-take limit (limit + 1) l (omega arith)) ∙ sym (ap (by_length l) (lt-ltb limit (length l) h))
  | no h ↦ ap (built_of limit) (take_all (limit + 1) l (omega arith))
]
  where
    by_length : List ℕ → Bool → Result Built Full
    by_length m b = choose b (Err (placed_first limit m)) (Ok (placed_list m))

module _ (limit : ℕ) (struck cands : List ℕ) where
  abbrev X : List ℕ
  X = admitted_all struck [] cands

  selected : Selection X cands (λ E. not (contains struck E))
  selected = pass_selects struck cands [] (sound_none struck cands)

  -- what is kept between two passes: the first so many of the list
  pub record Prefix (P : List ℕ) : Type 0 where
    pub few : length P ≤ limit
    pub are : P ≡ take (length P) X

  prefix_none : Prefix []
  prefix_none = record { few = omega arith; are = refl }

  prefix_well : (P : List ℕ) → Prefix P → Well (begin P)
  prefix_well P inv = well_begin struck cands X selected limit P inv.are

  built : (l : List ℕ) → take (limit + 1) l ≡ take (limit + 1) X → built_of limit l ≡ built_of limit (picks (limit + 1) struck [] cands)
  built l q = sym (built_first limit l) ∙ ap (built_of limit) (q ∙ sym (picks_selection struck cands (limit + 1) X selected))

  module _ (room : ℕ) (P : List ℕ) (inv : Prefix P) (f : Filled) (is : f ≡ pass room struck cands P) where
    abbrev end : Filled
    end = pass room struck cands P

    first_many : f.sets ≡ take (length f.sets) X
    first_many = ap (λ (g : Filled). g.sets) is ∙ pass_prefix struck cands X selected room P inv.are ∙ ap (λ (g : Filled). take (length g.sets) X) (sym is)

    -- nothing went out
    pass_done : f.bound ≡ None → built_of limit f.sets ≡ built_of limit (picks (limit + 1) struck [] cands)
    pass_done h =
        built f.sets (ap (take (limit + 1)) (ap (λ (g : Filled). g.sets) is ∙ pass_whole struck cands X selected room P inv.are (sym (ap (λ (g : Filled). g.bound) is) ∙ h)))

    -- more than the limit
    pass_full : limit < length f.sets → built_of limit f.sets ≡ built_of limit (picks (limit + 1) struck [] cands)
    pass_full h = built f.sets (ap (take (limit + 1)) first_many ∙ take-take (limit + 1) (length f.sets) X (omega arith))

    -- else more of the list than before
    pass_more : limit < room → (d : ℕ) → f.bound ≡ Some d → length P < length f.sets
    pass_more fits d h =
        let k : length P < length end.sets = pass_grows struck cands X selected room P inv.are (omega (arith, inv.few)) d (sym (ap (λ (g : Filled). g.bound) is) ∙ h) in
        omega (arith, ap (λ (g : Filled). length g.sets) is)

    pass_on : length f.sets ≤ limit → Prefix f.sets
    pass_on h = record { few = h; are = first_many }

-- a pass in two parts: the old list, then the joins
pass_parts : (room : ℕ) (struck old new P : List ℕ) (f g : Filled) → f ≡ offered_all room struck (begin P) old → g ≡ offered_all room struck f new → g ≡ pass room struck (old ++ new) P
pass_parts room struck old new P f g p q = q ∙ ap (λ (x : Filled). offered_all room struck x new) p ∙ sym (offered_append room struck old new (begin P))

-- ---- with room for one more than the nogoods' limit
module _ (struck old new : List ℕ) (limit : ℕ) where
  -- the sets of the pool are the first of the list
  pub record Rounding (f : Filled) : Type 0 where
    pub begun : f.bound ≡ None
    pub are : Prefix limit struck (old ++ new) f.sets

  pub rounding_none : (f : Filled) → f ≡ begin [] → Rounding f
  rounding_none f e = record { begun = ap (λ (x : Filled). x.bound) e; are = subst (Prefix limit struck (old ++ new)) (sym (ap (λ (x : Filled). x.sets) e)) (prefix_none limit struck (old ++ new)) }

  module _ (low : limit ≤ limits.nogoods) (f : Filled) (inv : Rounding f) where
    fresh : f ≡ begin f.sets
    fresh = ap (λ (b : Option ℕ). with f.sets b) inv.begun
      where
        with : List ℕ → Option ℕ → Filled
        with l b = record { sets = l; bound = b }

    -- the old list is offered
    module _ (seen : Filled) (a : Offered struck old f seen) where
      half : seen ≡ offered_all (limits.nogoods + 1) struck (begin f.sets) old
      half = a ∙ ap (λ (x : Filled). offered_all (limits.nogoods + 1) struck x old) fresh

      -- so what is not stirred is refused
      pub half_hushed : (L : ℕ → List ℕ) (J : List Justification) (n : ℕ) (moved : List ℕ) → Still L J n old struck moved → Hushed L J n struck moved seen
      half_hushed L J n moved s = record {
        refused = λ r m e u H o. subst (λ (x : Filled). Refused struck x H) (sym half)
            (⊎_elim (λ c. let i = contains_elim old H c in refused_more struck (offered_all (limits.nogoods + 1) struck (begin f.sets) old) i.0 H i.2 (refused_all (limits.nogoods + 1) struck old (begin f.sets) (prefix_well limit struck (old ++ new) f.sets inv.are) i.0 i.1))
            (λ c. by_struck struck (offered_all (limits.nogoods + 1) struck (begin f.sets) old) H c) (s.quiet r m e u H o));
      }

      -- .. and the joins
      module _ (all : Filled) (b : Offered struck new seen all) where
        whole : all ≡ pass (limits.nogoods + 1) struck (old ++ new) f.sets
        whole = pass_parts (limits.nogoods + 1) struck old new f.sets seen all half b

        -- more of the list than before, where one went out
        pub rounding_more : is_some all.bound ≡ true → length f.sets < length all.sets
        rounding_more h = go all.bound refl h
          where
            go : (b : Option ℕ) → all.bound ≡ b → is_some b ≡ true → length f.sets < length all.sets
            go None e q = clash q refl
            go (Some d) e q = pass_more limit struck (old ++ new) (limits.nogoods + 1) f.sets inv.are all whole (omega arith) d e

        -- the bound is taken away
        module _ (next : Filled) (e : next ≡ begin all.sets) where
          same : next.sets ≡ all.sets
          same = ap (λ (x : Filled). x.sets) e

          pub rounding_done : is_some all.bound ≡ false → built_of limit next.sets ≡ built_of limit (picks (limit + 1) struck [] (old ++ new))
          rounding_done h = ap (built_of limit) same ∙ pass_done limit struck (old ++ new) (limits.nogoods + 1) f.sets inv.are all whole (none all.bound h)
            where
              none : (b : Option ℕ) → is_some b ≡ false → b ≡ None
              none None q = refl
              none (Some d) q = clash refl q

          pub rounding_full : limit < length next.sets → built_of limit next.sets ≡ built_of limit (picks (limit + 1) struck [] (old ++ new))
          rounding_full h = ap (built_of limit) same ∙ pass_full limit struck (old ++ new) (limits.nogoods + 1) f.sets inv.are all whole (omega (arith, ap length same))

          pub rounding_on : length next.sets ≤ limit → Rounding next
          rounding_on h = record {
            begun = ap (λ (x : Filled). x.bound) e;
            are = subst (Prefix limit struck (old ++ new)) (sym same) (pass_on limit struck (old ++ new) (limits.nogoods + 1) f.sets inv.are all whole (omega (arith, ap length same)));
          }
