-- The invariant: the rest of the list is left to be written. Assumes nothing.
use Rattle.std.proofs.Common.{drop}
use Rattle.text.proofs.Added.{Left}
use Rattle.theory.specs.Lists.{each}
use Rattle.writing.specs.Writing.{bytes_of}
use Rattle.writing.proofs.put_numbers.Given as goal

abbrev pub invariant-loop-n : goal.invariant-loop-n
invariant-loop-n l = Left (each bytes_of (drop l.n-index l.list)) l.out (each bytes_of l.list) l.initial.out
