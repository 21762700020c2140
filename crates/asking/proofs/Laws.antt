-- Question, context and member: a refusal, and what is known where there is none. Assumes nothing.
use mathlib.Core.Bool.{Bool, ◌&&◌}
use mathlib.Core.List.{List}
use mathlib.Core.Path.{◌∙◌, ◌≡◌, ap, ap₂, sym}
use Prim.Native.Nat.{◌<◌, ◌+◌, ◌≤◌, ℕ}
use native.Mathlib.Omega.{arith}
use lib.Dec.{eqb, ltb}
use lib.ListN.{get_or, length}
use borrow.Author.Tests.{le-ltb, lt-ltb, ne_eqb}
use Rattle.std.specs.Prelude.{◌≢◌, Option, Result, Ok, Err, Some, None, ⊤}
use Rattle.asking.specs.Asking.{Room, byte_of, context_reply, first_in, member_at, member_of, question_of, reasoned, standing}
use Rattle.asking.specs.declared.Answer.{Answer}
use Rattle.asking.specs.declared.Answer.TheVariants.{Inconsistent, Supported, Unsupported}
use Rattle.following.proofs.Places.{all_told}
use Rattle.following.proofs.Sowing.{marks_long}
use Rattle.following.specs.Marks.{all_marks}
use Rattle.following.specs.Promised.{Followable}
use Rattle.members.proofs.First.{placed_find, placed_none}
use Rattle.members.specs.Promised.{first_within}
use Rattle.replies.proofs.Checked.{checked_done, checked_refusal, refusal_checked}
use Rattle.replies.specs.Replies.{checked, number_of}
use Rattle.replies.specs.declared.Reply.{Reply}
use Rattle.replies.specs.declared.Reply.TheVariants.{Done, Short}
use Rattle.rules.specs.Held.{said_by}
use Rattle.rules.specs.declared.Held.{Held}
use Rattle.shape.proofs.Elim.{label_few, lists_elim}
use Rattle.stages.specs.declared.Lists.{Lists}
use Rattle.store.proofs.Reading.{Readable, readable, refused, refused_number, refused_set}
use Rattle.store.proofs.Shapes.{shape_elim}
use Rattle.store.specs.Calls.{is_done}
use Rattle.store.specs.Reading.{contradicted_in, label_held, nogoods_held, refusal_of, unlabelled}
use Rattle.store.specs.Shape.{top}
use Rattle.store.specs.declared.Store.{Store}
use Rattle.theory.specs.Demands.{follows_from_all}
use Rattle.theory.specs.Limits.{limits}
use Rattle.theory.specs.Lists.{choose}
use Rattle.theory.specs.Sets.{within}

-- ---- the first member within a set, by its place
pub first_named : (l : List ℕ) (E p : ℕ) → first_within l E ≡ Some p → first_in l E ≡ Some (get_or l p 0)
unfolding first_in
first_named l E p e = placed_find (λ F. within F E) l p e

pub first_none : (l : List ℕ) (E : ℕ) → first_within l E ≡ None → first_in l E ≡ None
unfolding first_in
first_none l E e = placed_none (λ F. within F E) l e

-- ---- what the lists say, by the places of the first nogood and of the first member of the label
module _ (l : Lists) (n E : ℕ) (bad : List ℕ) (is : bad ≡ nogoods_held l) where
  pub stands_struck : (place : ℕ) → first_within bad E ≡ Some place → Inconsistent (get_or bad place 0) ≡ standing l n E
  unfolding standing
  stands_struck place e = sym (ap (λ (o : Option ℕ). reasoned o (first_in (label_held l n) E)) (ap (λ (m : List ℕ). first_in m E) (sym is) ∙ first_named bad E place e))

  module _ (clear : first_within bad E ≡ None) (own : List ℕ) (its : own ≡ label_held l n) where
    no_nogood : first_in (nogoods_held l) E ≡ None
    no_nogood = ap (λ (m : List ℕ). first_in m E) (sym is) ∙ first_none bad E clear

    pub stands_yes : (place : ℕ) → first_within own E ≡ Some place → Supported (get_or own place 0) ≡ standing l n E
    unfolding standing
    stands_yes place e = sym (ap₂ reasoned no_nogood (ap (λ (m : List ℕ). first_in m E) (sym its) ∙ first_named own E place e))

    pub stands_no : first_within own E ≡ None → Unsupported ≡ standing l n E
    unfolding standing
    stands_no e = sym (ap₂ reasoned no_nogood (ap (λ (m : List ℕ). first_in m E) (sym its) ∙ first_none own E e))

-- the marks of what follows from all assumptions together are one for each number
pub marks_all : (h : Held) (m : List ℕ) → m ≡ all_marks h → length m ≡ limits.numbers + 1
marks_all h m e = ap length e ∙ marks_long (follows_from_all h.assumptions (said_by h))

module _ (s : Store) where
  -- the byte by the mark of a number is the byte of the store
  pub byte_told : (marks : List ℕ) (E n : ℕ) → marks ≡ all_marks s.held → n ≤ limits.numbers
      → byte_of (unlabelled s.lists n && eqb (get_or marks n 0) 0) (standing s.lists n E) ≡ byte_of (contradicted_in s n) (standing s.lists n E)
  byte_told marks E n e h =
      ap (λ (c : Bool). byte_of (unlabelled s.lists n && c) (standing s.lists n E)) (all_told s.held n (get_or marks n 0) h (ap (λ (m : List ℕ). get_or m n 0) e))

  -- a call that is not refused finds the lists in their places, and counts and numbers within their limits
  module _ (n E : ℕ) (u : ⊤) (k : Ok u ≡ checked (refusal_of s n E)) where
    known : Readable s n E
    known = readable s n E u k

    pub room_found : Room s.lists
    room_found =
        let l = lists_elim s.lists s.held.assumptions (top s.held) (shape_elim s known.right).1 in
        record { nogoods = l.nogoods.few; labels = label_few s.lists s.held.assumptions (top s.held) l }

    pub low_found : n ≤ limits.numbers
    low_found = omega (arith, known.number, known.fit.few, known.fit.claims)

    pub top_found : s.held.assumptions + s.held.claims ≤ limits.numbers
    top_found = omega (arith, known.fit.few, known.fit.claims)

    pub followable_found : Followable s.held
    followable_found = record { right = known.fit.right; low = omega (arith, known.fit.few, known.fit.claims) }

  pub question_refused : (n E : ℕ) (r : Reply) → Err r ≡ checked (refusal_of s n E) → Err r ≡ question_of s n E
  unfolding question_of
  question_refused n E r e = refused s n E r e Err (Ok (standing s.lists n E))

  pub question_stands : (n E : ℕ) (u : ⊤) → Ok u ≡ checked (refusal_of s n E) → (a : Answer) → a ≡ standing s.lists n E → Ok a ≡ question_of s n E
  unfolding question_of
  question_stands n E u k a q = let known : Readable s n E = readable s n E u k in rw (known.right, le-ltb (top s.held) n known.number, known.set) (ap Ok q)

  pub member_refused : (n place : ℕ) (r : Reply) → Err r ≡ checked (refusal_of s n 0) → Err r ≡ member_of s n place
  unfolding member_of
  member_refused n place r e = refused_number s n r e Err (member_at s.lists n place)

  pub member_found : (n place : ℕ) (u : ⊤) → Ok u ≡ checked (refusal_of s n 0) → (a : Result ℕ Reply) → a ≡ member_at s.lists n place → a ≡ member_of s n place
  unfolding member_of
  member_found n place u k a q = let known : Readable s n 0 = readable s n 0 u k in rw (known.right, le-ltb (top s.held) n known.number) q

  -- a context into the lent bytes, which are x where it is done
  module _ (E : ℕ) (out : List ℕ) where
    abbrev t : Reply
    t = context_reply s E (length out)

    refused_is : (r : Reply) → Err r ≡ checked (refusal_of s 0 E) → (r ≡ t) × (number_of r ≢ 0)
    unfolding context_reply
    refused_is r e = (refused_set s E r e (λ t. t) (choose (ltb (length out) (top s.held + 1)) Short Done), (checked_refusal (refusal_of s 0 E) r (sym e)).1)

    pub refused_reply : (r : Reply) → Err r ≡ checked (refusal_of s 0 E) → Err r ≡ checked t
    refused_reply r e = let p = refused_is r e in refusal_checked t r (sym p.0) p.1

    pub refused_bytes : (x : List ℕ) (r : Reply) → Err r ≡ checked (refusal_of s 0 E) → choose (is_done t) x out ≡ out
    refused_bytes x r e = let p = refused_is r e in ap (λ (q : Reply). choose (is_done q) x out) (sym p.0) ∙ ap (λ (b : Bool). choose b x out) (ne_eqb (number_of r) 0 p.1)

    module _ (u : ⊤) (k : Ok u ≡ checked (refusal_of s 0 E)) where
      set_known : Readable s 0 E
      set_known = readable s 0 E u k

      pub short_reply : length out < top s.held + 1 → Err Short ≡ checked t
      unfolding checked context_reply
      short_reply h = rw (set_known.right, set_known.set, lt-ltb (length out) (top s.held + 1) h)

      pub short_bytes : (x : List ℕ) → length out < top s.held + 1 → choose (is_done t) x out ≡ out
      unfolding context_reply
      short_bytes x h = rw (set_known.right, set_known.set, lt-ltb (length out) (top s.held + 1) h)

      pub done_reply : top s.held + 1 ≤ length out → Ok tt ≡ checked t
      unfolding checked context_reply
      done_reply h = rw (set_known.right, set_known.set, le-ltb (length out) (top s.held + 1) h)

      pub done_bytes : (x : List ℕ) → top s.held + 1 ≤ length out → choose (is_done t) x out ≡ x
      unfolding context_reply
      done_bytes x h = rw (set_known.right, set_known.set, le-ltb (length out) (top s.held + 1) h)

-- the reply of a call that answered nothing, or a refusal
pub reply_done : (r : Reply) (u : ⊤) → Ok u ≡ checked r → r ≡ Done
reply_done r u e = checked_done r u (sym e)

pub reply_refused : (r e : Reply) → Err e ≡ checked r → r ≡ e
reply_refused r e h = (checked_refusal r e (sym h)).0

-- what the calls cite
pub ruleset of_question = (question_refused, question_stands, room_found, low_found)

pub ruleset of_member = (member_refused, member_found, room_found, low_found)

pub ruleset of_context = (refused_reply, refused_bytes, short_reply, short_bytes, done_reply, top_found, followable_found)

pub ruleset of_reply = (reply_done, reply_refused)
