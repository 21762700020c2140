-- `lines::contradicted` meets its contract. Assumes nothing.
use mathlib.Core.Bool.{Bool, ◌&&◌}
use mathlib.Core.Path.{◌∙◌, ◌≡◌, ap, sym}
use Prim.Native.Nat.{◌*◌}
use native.Mathlib.Omega.{arith}
use borrow.Author.Rules.{rules}
use lib.ListN.{get_or, length}
use Rattle.following.proofs.Places.{all_told}
use Rattle.lines.proofs.Follows.{followable}
use Rattle.store.proofs.Reading.{unlabelled_no, unlabelled_yes}
use Rattle.store.specs.Reading.{contradicted_in, held_from_all}
use Rattle.theory.specs.Limits.{limits}
use Rattle.lines.proofs.contradicted.Goals as goal

pub returns-then-n-eq0 : goal.returns-then-n-eq0
returns-then-n-eq0 c = sym (ap (contradicted_in c.args.store.now) c.if-n-eq0.true)

pub returns-then-store-n-gt0 : goal.returns-then-store-n-gt0
returns-then-store-n-gt0 c =
    let long : length c.args.store.now.lists.members ≡ limits.numbers * limits.label = search rules in
    sym (ap (λ (b : Bool). b && held_from_all c.args.store.now c.args.n) (unlabelled_no c.args.store.now.lists c.args.n c.if-n-eq0.false (omega (arith, long, c.requires.1)) c.if-store-n-gt0.true))

pub from_all-requires : goal.from_all-requires
from_all-requires c = followable c.args.store.now c.requires.0

pub returns : goal.returns
returns c =
    all_told c.args.store.now.held c.args.n _ c.requires.1 (ap (λ m. get_or m c.args.n 0) c.from_all.ensures)
    ∙ sym (ap (λ (b : Bool). b && held_from_all c.args.store.now c.args.n) (unlabelled_yes c.args.store.now.lists c.args.n c.if-n-eq0.false c.if-store-n-gt0.false))
