-- `replay::command::find`: what is left of the words has the command that all of them have; one fewer each time. Assumes nothing.
use Rattle.std.proofs.Common.{◌≡◌, length, map}
use Rattle.replay.specs.Commands.{among}
use Rattle.replay.proofs.command.find.Given as goal

abbrev pub invariant-loop-words : goal.invariant-loop-words
invariant-loop-words l = among (map (λ p. (p.0.now, p.1)) l.words) l.word ≡ among (map (λ p. (p.0.now, p.1)) l.fn.words) l.word

abbrev pub decreases-loop-words : goal.decreases-loop-words
decreases-loop-words l = length l.words
