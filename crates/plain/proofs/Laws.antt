-- Question and context of the plain path, test by test. Assumes nothing.
use mathlib.Core.Bool.{Bool, ◌&&◌, false, not, true}
use mathlib.Core.List.{List, ◌++◌}
use mathlib.Core.Logic.{⊎_elim}
use mathlib.Core.Path.{◌∙◌, ◌≡◌, ap, ap₂, refl, sym}
use Prim.Native.Nat.{◌+◌, ◌<◌, ◌≤◌, suc, zero, ℕ}
use native.Mathlib.Omega.{arith}
use lib.Dec.{eqb, ltb}
use lib.ListN.{drop, get_or, length, replicate, set}
use borrow.Author.Tests.{eq-eqb, eqb-false, eqb-true, le-ltb, lt-ltb, ltb-false, ltb-true, ne_eqb}
use Rattle.std.specs.Prelude.{Result, Ok, Err, ⊤}
use lib.ListN.{take}
use lib.Seq.{length-take-le}
use Rattle.asking.proofs.Laws.{followable_found, refused_bytes, refused_reply}
use Rattle.asking.specs.Asking.{context_reply}
use Rattle.following.proofs.First.{stages_since}
use Rattle.following.specs.First.{stages_from}
use Rattle.replies.proofs.Checked.{checked_done, checked_refusal, done_checked, refusal_checked}
use Rattle.replies.proofs.Laws.{zero_done}
use Rattle.replies.specs.Replies.{checked}
use Rattle.store.proofs.Reading.{readable}
use Rattle.theory.proofs.Lists.{clash}
use Rattle.following.proofs.Places.{held_placed}
use Rattle.following.proofs.Staging.{Placed}
use Rattle.following.specs.First.{since_of}
use Rattle.following.specs.Marks.{marks_of, sown}
use Rattle.following.specs.Promised.{Followable}
use Rattle.plain.proofs.Since.{since_ever}
use Rattle.plain.specs.Plainly.{byte_of, fill_bytes, fill_reply, followed_of, plain_after, plain_by, plain_bytes, plain_of, read_from}
use Rattle.plain.specs.declared.Plain.{Plain}
use Rattle.plain.specs.declared.Plain.TheVariants.{Inconsistent, Supported, Unsupported}
use Rattle.replies.specs.Replies.{number_of}
use Rattle.replies.specs.declared.Reply.{Reply}
use Rattle.replies.specs.declared.Reply.TheVariants.{Done, Short}
use Rattle.rules.specs.Held.{said_by}
use Rattle.sets.proofs.Membership.{range_members}
use Rattle.stages.proofs.Tables.{replicate_table, set_table, table_same}
use Rattle.store.proofs.Reading.{Readable, refused}
use Rattle.store.proofs.Shapes.{Fitting}
use Rattle.store.specs.Calls.{is_done}
use Rattle.store.specs.Reading.{refusal_of}
use Rattle.store.specs.Shape.{top}
use Rattle.store.specs.declared.Store.{Store}
use Rattle.theory.proofs.Lists.{either, not_so}
use Rattle.theory.proofs.Places.{get_d_table}
use Rattle.theory.specs.Demands.{carries, contradicts}
use Rattle.theory.specs.Limits.{limits}
use Rattle.theory.specs.Lists.{choose}
use Rattle.theory.specs.Places.{table}
use Rattle.theory.specs.Sets.{among, in_range}
use Rattle.theory.specs.Stages.{Justification, follows}

-- ---- the marks of stage 0, assumption by assumption

-- those below k
pub sowing : ℕ → ℕ → ℕ → ℕ
sowing E k n = choose (ltb n k && among E n) 0 255

pub sow_start : (E : ℕ) → replicate (limits.numbers + 1) 255 ≡ table (limits.numbers + 1) (sowing E 1)
unfolding sowing among
sow_start E = replicate_table (limits.numbers + 1) 255 ∙ table_same (limits.numbers + 1) (λ n. 255) (sowing E 1) 255 go
  where
    go : (n : ℕ) → n < limits.numbers + 1 → 255 ≡ sowing E 1 n
    go zero h = refl
    go (suc i) h = ap (λ (b : Bool). choose (b && among E (suc i)) 0 255) (sym (le-ltb (suc i) 1 (omega arith)))

pub sow_turn : (E k v : ℕ) (m : List ℕ) → k < limits.numbers + 1 → m ≡ table (limits.numbers + 1) (sowing E k) → v ≡ choose (among E k) 0 255 → set m k v ≡ table (limits.numbers + 1) (sowing E (k + 1))
unfolding sowing
sow_turn E k v m h e q =
    ap (λ (l : List ℕ). set l k v) e
    ∙ set_table (limits.numbers + 1) (sowing E k) (sowing E (k + 1)) k v 255 h (ap (λ (b : Bool). choose (b && among E k) 0 255) (lt-ltb k (k + 1) (omega arith)) ∙ sym q)
    (λ n ne. ap (λ (b : Bool). choose (b && among E n) 0 255)
    (⊎_elim (λ (t : ltb n k ≡ true). t ∙ sym (lt-ltb n (k + 1) (omega (arith, ltb-true n k t))))
    (λ (t : ltb n k ≡ false). let l : k ≤ n = ltb-false n k t in t ∙ sym (le-ltb n (k + 1) (above n k l ne)))
    (either (ltb n k))))
  where
    above : (n k : ℕ) → k ≤ n → (n ≡ k → ⊥) → k + 1 ≤ n
    above n k l ne = omega arith

pub sow_skip : (E k : ℕ) → among E k ≡ false → table (limits.numbers + 1) (sowing E k) ≡ table (limits.numbers + 1) (sowing E (k + 1))
unfolding sowing
sow_skip E k q = table_same (limits.numbers + 1) (sowing E k) (sowing E (k + 1)) 255 (λ n l.
    ⊎_elim (λ (t : ltb n k ≡ true). ap (λ (b : Bool). choose (b && among E n) 0 255) (t ∙ sym (lt-ltb n (k + 1) (omega (arith, ltb-true n k t)))))
    (λ (t : ltb n k ≡ false).
    ⊎_elim (λ (u : eqb n k ≡ true).
    let e : among E n ≡ false = ap (among E) (eqb-true n k u) ∙ q in
    ap₂ (λ (b c : Bool). choose (b && c) 0 255) t e ∙ sym (ap₂ (λ (b c : Bool). choose (b && c) 0 255) (lt-ltb n (k + 1) (omega (arith, eqb-true n k u))) e))
    (λ (u : eqb n k ≡ false). ap (λ (b : Bool). choose (b && among E n) 0 255) (t ∙ sym (le-ltb n (k + 1) (above n k (ltb-false n k t) (eqb-false n k u)))))
    (either (eqb n k)))
    (either (ltb n k)))
  where
    above : (n k : ℕ) → k ≤ n → (n ≡ k → ⊥) → k + 1 ≤ n
    above n k l ne = omega arith

pub sow_end : (E a k : ℕ) (m : List ℕ) → a < k → in_range a E ≡ true → m ≡ table (limits.numbers + 1) (sowing E k) → m ≡ sown E
unfolding sowing marks_of
sow_end E a k m h r e = e ∙ table_same (limits.numbers + 1) (sowing E k) (λ n. choose (among E n) 0 255) 255 (λ n l.
    ⊎_elim (λ (t : ltb n k ≡ true). ap (λ (b : Bool). choose (b && among E n) 0 255) t)
    (λ (t : ltb n k ≡ false).
    let none : among E n ≡ false = not_so (among E n) (λ i. absurd (omega (arith, (range_members a E).0 r n i, ltb-false n k t))) in
    ap₂ (λ (b c : Bool). choose (b && c) 0 255) t none ∙ ap (λ (b : Bool). choose b 0 255) (sym none))
    (either (ltb n k)))

-- the marks of the first stages give the answers
module _ (J : List Justification) (w : Placed J) (E : ℕ) (m : List ℕ) (e : m ≡ table (limits.numbers + 1) (since_of J E)) where
  pub read_plain : (n : ℕ) → n ≤ limits.numbers → read_from m n ≡ plain_by J E n
  unfolding read_from plain_by carries contradicts
  read_plain n l =
      let at : (i : ℕ) → i ≤ limits.numbers → ltb (get_or m i 255) 255 ≡ follows J (length J) E i =
      λ i p. ap (λ (x : List ℕ). ltb (get_or x i 255) 255) e ∙ ap (λ (x : ℕ). ltb x 255) (get_d_table (limits.numbers + 1) (since_of J E) i 255 (omega arith)) ∙ since_ever J E i w in
      ap₂ (λ (b c : Bool). choose b Inconsistent (choose c Supported Unsupported)) (at 0 (omega arith)) (at n l) ∙ go (follows J (length J) E 0) (follows J (length J) E n)
    where
      go : (b c : Bool) → choose b Inconsistent (choose c Supported Unsupported) ≡ choose b Inconsistent (choose (not b && c) Supported Unsupported)
      go true c = refl
      go false c = refl

  pub bytes_plain : (end : ℕ) → end ≤ limits.numbers + 1 → table end (λ n. byte_of (read_from m n)) ≡ table end (λ n. byte_of (plain_by J E n))
  bytes_plain end l = table_same end (λ n. byte_of (read_from m n)) (λ n. byte_of (plain_by J E n)) 0 (λ n q. ap byte_of (read_plain n (omega arith)))

-- ---- the bytes, where they fit and where not
module _ (m : List ℕ) (N : ℕ) (out : List ℕ) where
  pub short_reply : length out < N + 1 → Err Short ≡ checked (fill_reply N (length out))
  unfolding checked
  short_reply h = rw (lt-ltb (length out) (N + 1) h)

  pub short_bytes : length out < N + 1 → out ≡ fill_bytes m N out
  unfolding fill_bytes
  short_bytes h = rw (lt-ltb (length out) (N + 1) h)

  pub full_reply : N + 1 ≤ length out → Ok tt ≡ checked (fill_reply N (length out))
  unfolding checked
  full_reply h = rw (le-ltb (length out) (N + 1) h)

  pub full_bytes : N + 1 ≤ length out → (l : List ℕ) → l ≡ table (length (take (N + 1) out)) (λ n. byte_of (read_from m n)) → l ++ drop (N + 1) out ≡ fill_bytes m N out
  unfolding fill_bytes
  full_bytes h l e = rw (le-ltb (length out) (N + 1) h) (ap (λ (x : List ℕ). x ++ drop (N + 1) out) (e ∙ ap (λ (k : ℕ). table k (λ n. byte_of (read_from m n))) (length-take-le (N + 1) out h)))

-- ---- the calls
module _ (s : Store) where
  pub followable : Fitting s.held → Followable s.held
  followable f = record { right = f.right; low = omega (arith, f.few, f.claims) }

  pub placed : Fitting s.held → Placed (said_by s.held)
  placed f = held_placed s.held (followable f)

  abbrev marks : ℕ → List ℕ
  marks E = table (limits.numbers + 1) (since_of (said_by s.held) E)

  module _ (n E : ℕ) where
    pub followed_refused : (r : Reply) → Err r ≡ checked (refusal_of s n E) → Err r ≡ followed_of s n E
    unfolding followed_of
    followed_refused r e =
        let p = checked_refusal (refusal_of s n E) r (sym e) in
        sym (rw p.0 (ap (λ (b : Bool). choose b (Ok (marks E)) (Err r)) (ne_eqb (number_of r) 0 p.1)))

    pub followed_done : (u : ⊤) → Ok u ≡ checked (refusal_of s n E) → (m : List ℕ) → m ≡ stages_from (said_by s.held) (limits.numbers + 1) 0 (sown E) → Ok m ≡ followed_of s n E
    unfolding followed_of
    followed_done u e m q =
        let k = readable s n E u e in
        let same : m ≡ marks E = q ∙ stages_since (said_by s.held) (placed k.fit) E in
        rw (checked_done (refusal_of s n E) u (sym e)) (ap Ok same)

    -- what a call that followed knows
    pub followed_known : (m : List ℕ) → Ok m ≡ followed_of s n E → Readable s n E × (m ≡ marks E)
    unfolding followed_of
    followed_known m e = go (is_done (refusal_of s n E)) refl e
      where
        go : (b : Bool) → is_done (refusal_of s n E) ≡ b → Ok m ≡ choose b (Ok (marks E)) (Err (refusal_of s n E)) → Readable s n E × (m ≡ marks E)
        go true d e = (readable s n E tt (done_checked (refusal_of s n E) (zero_done (refusal_of s n E) (eqb-true (number_of (refusal_of s n E)) 0 d))), cc)
        go false d e = cc

    pub refusal_known : (r : Reply) → Err r ≡ followed_of s n E → Err r ≡ checked (refusal_of s n E)
    unfolding followed_of
    refusal_known r e = go (is_done (refusal_of s n E)) refl e
      where
        go : (b : Bool) → is_done (refusal_of s n E) ≡ b → Err r ≡ choose b (Ok (marks E)) (Err (refusal_of s n E)) → Err r ≡ checked (refusal_of s n E)
        go true d e = cc
        go false d e = let same : refusal_of s n E ≡ r = cc in refusal_checked (refusal_of s n E) r same (λ z. clash (eq-eqb (number_of (refusal_of s n E)) 0 (ap number_of same ∙ z)) d)

    pub question_refused : (r : Reply) → Err r ≡ followed_of s n E → Err r ≡ plain_of s n E
    unfolding plain_of
    question_refused r e = refused s n E r (refusal_known r e) Err (Ok (plain_by (said_by s.held) E n))

    pub question_says : (m : List ℕ) → Ok m ≡ followed_of s n E → (a : Plain) → a ≡ read_from m n → Ok a ≡ plain_of s n E
    unfolding plain_of
    question_says m e a q =
        let p = followed_known m e in
        let k = p.0 in
        rw (k.right, le-ltb (top s.held) n k.number, k.set)
        (ap Ok (q ∙ read_plain (said_by s.held) (placed k.fit) E m p.1 n (omega (arith, k.number, k.fit.few, k.fit.claims))))

  -- the context: a refusal, or what is filled in
  module _ (E : ℕ) (out : List ℕ) where
    pub context_refused_reply : (r : Reply) → Err r ≡ followed_of s 0 E → Err r ≡ checked (context_reply s E (length out))
    context_refused_reply r e = refused_reply s E out r (refusal_known 0 E r e)

    pub context_refused_bytes : (r : Reply) → Err r ≡ followed_of s 0 E → out ≡ plain_after s E out
    unfolding plain_after
    context_refused_bytes r e = sym (refused_bytes s E out (plain_bytes s E ++ drop (top s.held + 1) out) r (refusal_known 0 E r e))

    module _ (m : List ℕ) (e : Ok m ≡ followed_of s 0 E) where
      known : Readable s 0 E
      known = (followed_known 0 E m e).0

      pub top_known : s.held.assumptions + s.held.claims ≤ limits.numbers
      top_known = omega (arith, known.fit.few, known.fit.claims)

      pub context_filled_reply : (r : Result ⊤ Reply) → r ≡ checked (fill_reply (top s.held) (length out)) → r ≡ checked (context_reply s E (length out))
      unfolding context_reply
      context_filled_reply r q = rw (known.right, known.set) q

      pub context_filled_bytes : (after : List ℕ) → after ≡ fill_bytes m (top s.held) out → after ≡ plain_after s E out
      unfolding context_reply plain_after plain_bytes fill_bytes
      context_filled_bytes after q =
          q
          ∙ ap (λ (b : List ℕ). choose (ltb (length out) (top s.held + 1)) out (b ++ drop (top s.held + 1) out))
          (bytes_plain (said_by s.held) (placed known.fit) E m (followed_known 0 E m e).1 (top s.held + 1) (omega (arith, top_known)))
          ∙ rw (known.right, known.set) (go (ltb (length out) (top s.held + 1)) (table (top s.held + 1) (λ n. byte_of (plain_by (said_by s.held) E n)) ++ drop (top s.held + 1) out))
        where
          go : (b : Bool) (x : List ℕ) → choose b out x ≡ choose (is_done (choose b Short Done)) x out
          go true x = refl
          go false x = refl

-- what the calls cite
pub ruleset of_follow = (followed_done, followable_found)

pub ruleset of_fill = (short_reply, short_bytes, full_reply, full_bytes)

pub ruleset of_context = (context_refused_bytes, top_known)
