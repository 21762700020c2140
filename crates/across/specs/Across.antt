-- What goes out to a program in C or Rust: what the product's calls answer, in numbers. Assumes nothing.
use Rattle.std.proofs.Math.Option.{Option, none, some}
use Rattle.std.specs.Prelude.{ℕ, suc, zero, Result, Ok, Err}
use Rattle.asking.specs.declared.Answer.{Answer}
use Rattle.asking.specs.declared.Answer.TheVariants.{Inconsistent, Supported, Unsupported}
use Rattle.bare.specs.declared.Query.{Query}
use Rattle.bare.specs.declared.Told.{Told as Barely}
use Rattle.bare.specs.declared.Told.TheVariants.{Filled, Lines, Word}
use Rattle.bare.specs.declared.What.{What}
use Rattle.bare.specs.declared.What.TheVariants.{Context, Number as Of, Stages}
use Rattle.casefile.specs.declared.Loaded.{Loaded}
use Rattle.across.specs.declared.Asked.{Asked}
use Rattle.across.specs.declared.Kept.{Kept}
use Rattle.across.specs.declared.Reasoned.{Reasoned}
use Rattle.across.specs.declared.Told.{Told}
use Rattle.plain.specs.declared.Plain.{Plain}
use Rattle.plain.specs.declared.Plain.TheVariants.{Inconsistent as Contradicted, Supported as Followed, Unsupported as Unreached}
use Rattle.replies.specs.Replies.{named_by, number_of}
use Rattle.replies.specs.declared.Reply.{Reply}
use Rattle.store.specs.declared.Outcome.{Outcome}
use Rattle.store.specs.declared.Store.{Store}

abbrev pub or_zero : Option ℕ → ℕ
or_zero none = 0
or_zero (some n) = n

-- the number that a reply names, or 0
abbrev pub named_or0 : Reply → ℕ
named_or0 r = or_zero (named_by r)

-- ---- the calls that make a store

abbrev pub kept_by : Reply → ℕ → Store → Kept
kept_by r k s = record { reply = number_of r; named = named_or0 r; «record» = k; store = s }

-- of no file
abbrev pub made_by : Outcome → Kept
made_by o = kept_by o.reply 0 o.store

abbrev pub loaded_by : Loaded → Kept
loaded_by l = kept_by l.reply l.«record» l.store

-- ---- the calls that read one

abbrev pub reasoned : ℕ → ℕ → ℕ → Reasoned
reasoned r a e = record { reply = r; answer = a; reason = e }

abbrev pub reasoned_by : Result Answer Reply → Reasoned
reasoned_by (Ok (Inconsistent G)) = reasoned 0 2 G
reasoned_by (Ok (Supported F)) = reasoned 0 1 F
reasoned_by (Ok Unsupported) = reasoned 0 0 0
reasoned_by (Err r) = reasoned (number_of r) 0 0

abbrev pub told : ℕ → ℕ → Told
told r v = record { reply = r; value = v }

abbrev pub found_by : Result ℕ Reply → Told
found_by (Ok E) = told 0 E
found_by (Err r) = told (number_of r) 0

-- the plain path names no set
abbrev pub plainly_by : Result Plain Reply → Told
plainly_by (Ok Contradicted) = told 0 2
plainly_by (Ok Followed) = told 0 1
plainly_by (Ok Unreached) = told 0 0
plainly_by (Err r) = told (number_of r) 0

abbrev pub wrote_by : Result ℕ Reply → Told
wrote_by (Ok n) = told 0 n
wrote_by (Err r) = told (number_of r) 0

-- ---- the bare list

-- what is asked, by its number: 0, 1, and 2 or more
abbrev pub what_by : ℕ → ℕ → What
what_by zero n = Of n
what_by (suc zero) n = Context
what_by (suc (suc k)) n = Stages

abbrev pub query_by : Asked → Query
query_by q = record { assumptions = q.assumptions; claims = q.claims; what = what_by q.what q.number; set = q.set }

-- a word, the reply of the context, or the length of the lines: as the call of a store has it
abbrev pub barely_by : Result Barely Reply → Told
barely_by (Ok (Word a)) = plainly_by (Ok a)
barely_by (Ok Filled) = told 0 0
barely_by (Ok (Lines n)) = wrote_by (Ok n)
barely_by (Err r) = told (number_of r) 0
