-- `replay::command`: the words that the code has are those of `command_of`. Assumes nothing.
use Rattle.std.proofs.Common.{rules}
use Rattle.replay.specs.Commands.{command_of}
use Rattle.replay.proofs.command.CommandTryFromRefSliceU8.try_from.Goals as goal

pub returns : goal.returns
unfolding command_of
returns c = search rules
