-- The label of a number is the part of the members that lies from its place on. Assumes nothing.
use Rattle.joining.proofs.Lying.{lying_part}
use Rattle.joining.proofs.laid.Labels.of.Goals as goal

pub returns : goal.returns
returns c = lying_part c.args.self.now.members.now c.args.self.now.sizes.now c.args.n c.requires.0
