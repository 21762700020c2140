-- `printing::Console::set` is safe and ends: the text of a set has 88 bytes at most. Assumes nothing.
use Rattle.text.proofs.Added.{fresh_room, whole_room}
use Rattle.text.proofs.Lengths.{braced_length}
use Rattle.printing.proofs.Console.set.Goals as goal

pub braces-requires : goal.braces-requires
braces-requires c = fresh_room c.new-writer.ensures _ (braced_length c.args.e)

pub text-requires : goal.text-requires
text-requires c = whole_room c.new-writer.ensures _ c.braces.ensures (braced_length c.args.e)
