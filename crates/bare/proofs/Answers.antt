-- What a list that was followed to the end answers is what is asked of it. Assumes nothing.
use mathlib.Core.Bool.{Bool, false, true}
use mathlib.Core.List.{List, ◌++◌}
use mathlib.Core.Path.{◌∙◌, ◌≡◌, ap, refl, sym}
use Prim.Native.Nat.{◌+◌, ◌≤◌, ℕ}
use native.Mathlib.Omega.{arith}
use lib.Dec.{ltb}
use lib.ListN.{drop, length}
use borrow.Author.Tests.{ltb-false, ne_eqb}
use Rattle.bare.proofs.Items.{bare_placed}
use Rattle.bare.specs.Bare.{answered, ask_of, barely, faults_of, said_as, tell_of, told_in, wrote_as}
use Rattle.bare.specs.declared.Told.TheVariants.{Filled, Word}
use Rattle.bare.specs.declared.Told.{Told}
use Rattle.replies.proofs.Checked.{checked_done, checked_refusal}
use Rattle.replies.specs.Replies.{checked, number_of}
use Rattle.std.specs.Prelude.{Result, Ok, Err, ⊤}
use Rattle.bare.specs.declared.Query.{Query}
use Rattle.bare.specs.declared.What.{What}
use Rattle.bare.specs.declared.What.TheVariants.{Context, Number as Of, Stages}
use Rattle.following.proofs.Staging.{Placed}
use Rattle.following.specs.First.{since_of}
use Rattle.handed.specs.declared.Handed.{Handed}
use Rattle.lent.specs.Lent.{fitted}
use Rattle.plain.proofs.Laws.{bytes_plain, read_plain}
use Rattle.plain.specs.Plainly.{byte_of, fill_bytes, plain_by, read_from}
use Rattle.plain.specs.declared.Plain.{Plain}
use Rattle.replies.specs.declared.Reply.{Reply}
use Rattle.replies.specs.declared.Reply.TheVariants.{Counts, Done, Number, Short}
use Rattle.stagetext.proofs.Laws.{put_within, text_is}
use Rattle.stagetext.specs.Stagetext.{rows_in}
use Rattle.theory.specs.Limits.{limits, over_counts}
use Rattle.theory.specs.Lists.{choose}
use Rattle.theory.specs.Places.{table}
use Rattle.theory.specs.Sets.{in_range}
use Rattle.theory.specs.Stages.{Justification}

-- the marks of the first stages tell what follows
module _ (N : ℕ) (low : N ≤ limits.numbers) (J : List Justification) (w : Placed J) (E : ℕ) (m : List ℕ) (e : m ≡ table (limits.numbers + 1) (since_of J E)) where
  word_plain : (n : ℕ) (b : Bool) → ltb N n ≡ b → said_as Word (choose b (Err Number) (Ok (read_from m n))) ≡ choose b (Err Number) (Ok (Word (plain_by J E n)))
  word_plain n true t = refl
  word_plain n false t = ap (λ (x : Plain). Ok (Word x)) (read_plain J w E m e n (omega (arith, low, ltb-false N n t)))

  pub told_plain : (x : What) (out : List ℕ) → told_in m N x out ≡ tell_of N J E x out
  unfolding fill_bytes checked
  told_plain (Of n) out = ap (λ (r : Result Told Reply). answered r out) (word_plain n (ltb N n) refl)
  told_plain Context out =
      go (ltb (length out) (N + 1)) (table (N + 1) (λ n. byte_of (read_from m n)) ++ drop (N + 1) out)
      ∙ ap (λ (t : List ℕ). choose (ltb (length out) (N + 1)) (answered (Err Short) out) (answered (Ok Filled) (t ++ drop (N + 1) out))) (bytes_plain J w E m e (N + 1) (omega (arith, low)))
    where
      go : (b : Bool) (x : List ℕ) → answered (said_as (λ _. Filled) (checked (choose b Short Done))) (choose b out x) ≡ choose b (answered (Err Short) out) (answered (Ok Filled) x)
      go true x = refl
      go false x = refl
  told_plain Stages out = ap wrote_as (sym (put_within m N out low) ∙ ap (λ (t : List ℕ). fitted t out) (ap (rows_in (N + 1)) e ∙ text_is J w E N low))

-- the call, test by test
module _ (q : Query) (l : List Handed) (out : List ℕ) where
  abbrev N : ℕ
  N = q.assumptions + q.claims

  pub asked_over : over_counts q.assumptions q.claims ≡ true → answered (Err Counts) out ≡ ask_of q l out
  unfolding ask_of
  asked_over t = rw t

  module _ (free : over_counts q.assumptions q.claims ≡ false) where
    pub asked_fault : (r : Reply) → Err r ≡ checked (faults_of N l) → answered (Err r) out ≡ ask_of q l out
    unfolding ask_of
    asked_fault r e = let p = checked_refusal (faults_of N l) r (sym e) in rw (free, p.0, ne_eqb (number_of r) 0 p.1)

    module _ (u : ⊤) (k : Ok u ≡ checked (faults_of N l)) where
      sound : faults_of N l ≡ Done
      sound = checked_done (faults_of N l) u (sym k)

      pub asked_set : in_range q.assumptions q.set ≡ false → answered (Err Number) out ≡ ask_of q l out
      unfolding ask_of
      asked_set t = rw (free, sound, t)

      pub asked_told : in_range q.assumptions q.set ≡ true → N ≤ limits.numbers → (m : List ℕ) → m ≡ table (limits.numbers + 1) (since_of (barely N l) q.set) → (r : Result Told Reply) (after : List ℕ)
          → answered r after ≡ told_in m N q.what out → answered r after ≡ ask_of q l out
      unfolding ask_of
      asked_told t low m e r after p = rw (free, sound, t) (p ∙ told_plain N low (barely N l) (bare_placed N low l sound) q.set m e q.what out)
