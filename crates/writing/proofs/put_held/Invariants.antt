-- The invariant: the records from here on are left to be written. Assumes nothing.
use Rattle.std.proofs.Common.{drop}
use Rattle.text.proofs.Added.{Left}
use Rattle.theory.specs.Lists.{each}
use Rattle.writing.proofs.Turns.{entry_bytes}
use Rattle.writing.specs.Writing.{file_of}
use Rattle.writing.proofs.put_held.Given as goal

abbrev pub invariant-loop-entry : goal.invariant-loop-entry
invariant-loop-entry l = Left (each entry_bytes (drop l.entry-index l.entry-items)) l.out (file_of l.fn.held) l.fn.out
