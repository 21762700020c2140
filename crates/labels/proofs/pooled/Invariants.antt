-- `labels::pooled` meets its contract. Assumes nothing.
use Rattle.std.proofs.Common.{drop, map}
use Rattle.joining.specs.Layout.{lying}
use Rattle.joining.specs.Places.{filled}
use Rattle.labels.proofs.Walks.{Left}
use Rattle.labels.specs.Moved.{Hushed}
use Rattle.rules.specs.Held.{meaning}
use Rattle.theory.specs.Step.{joins_for}
use Rattle.labels.proofs.pooled.Given as goal

abbrev pub invariant-loop-entry : goal.invariant-loop-entry
invariant-loop-entry l = record {
  left : Left l.struck (joins_for (lying l.labels.members.now l.labels.sizes.now) l.n (map meaning l.rules)) (filled l.initial.pool) (joins_for (lying l.labels.members.now l.labels.sizes.now) l.n (map meaning (drop l.entry-index l.rules))) (filled l.pool);
  hushed : Hushed (lying l.labels.members.now l.labels.sizes.now) (map meaning l.rules) l.n l.struck l.moved (filled l.pool);
}
