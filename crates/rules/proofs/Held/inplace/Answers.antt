-- `inplace` meets its contract. The loop: before the place looked at all is right, and the least number that may follow is known. Assumes nothing.
use mathlib.Core.Path.{◌∙◌, ◌≡◌, sym}
use native.Mathlib.Omega.{arith}
use Prim.Native.Nat.{◌<◌, ◌≤◌}
use lib.ListN.{length}
use borrow.Author.Rules.{rules}
use lib.Seq.{length-take-le}
use Rattle.rules.proofs.Keys.{key_small}
use Rattle.rules.proofs.Placed.{past_end, past_mixed, past_none, past_on, past_out}
use Rattle.rules.proofs.Steps.{length_mapped}
use Rattle.theory.specs.Limits.{limits}
use Rattle.rules.proofs.Held.inplace.Goals as goal
use Rattle.rules.proofs.Held.inplace.Goals.{then-not-fits-via-then-not-fits, then-not-fits-via-else-not-fits+then-key-least}

pub loop-entry-init : goal.loop-entry-init
loop-entry-init c = past_none _ _ _

pub returns-then-not-fits : goal.returns-then-not-fits
returns-then-not-fits c =
    let s = c.args.self in
    let l = c.loop-entry in
    let e : length s.entries ≡ limits.held = search (rules, length_mapped) in
    let room : s.count ≤ length s.entries = omega (arith, c.requires) in
    let h : l.entry-index < s.count = omega (arith, l.auto.entry-index-end, c.loop-entry-test.true) in
    elim c.then-not-fits.branch [
      | then-not-fits-via-then-not-fits w ↦ past_out c.args.top s.entries s.count room l.entry-index l.least l.invariant h (sym c.fits.ensures ∙ w.if-not-fits.true)
      | then-not-fits-via-else-not-fits+then-key-least w ↦ past_mixed c.args.top s.entries s.count room l.entry-index l.least l.invariant h (sym c.fits.ensures ∙ w.if-not-fits.false) _ c.key-key.ensures.0 c.key-key.ensures.1 w.if-key-least.true
    ]

pub overflow_add-least : goal.overflow_add-least
overflow_add-least c = let k = c.key-key.ensures in omega (arith, k.0, key_small _ k.1)

pub loop-entry-preserved : goal.loop-entry-preserved
loop-entry-preserved c =
    let s = c.args.self in
    let l = c.loop-entry in
    let e : length s.entries ≡ limits.held = search (rules, length_mapped) in
    let room : s.count ≤ length s.entries = omega (arith, c.requires) in
    let h : l.entry-index < s.count = omega (arith, l.auto.entry-index-end, c.loop-entry-test.true) in
    past_on c.args.top s.entries s.count room l.entry-index l.least l.invariant h (sym c.fits.ensures ∙ c.if-not-fits.false) _ c.key-key.ensures.0 c.key-key.ensures.1 c.if-key-least.false

pub returns : goal.returns
returns c =
    let s = c.args.self in
    let l = c.loop-entry in
    let e : length s.entries ≡ limits.held = search (rules, length_mapped) in
    let room : s.count ≤ length s.entries = omega (arith, c.requires) in
    past_end c.args.top s.entries s.count room l.entry-index l.least l.invariant (omega (arith, length-take-le s.count s.entries room))
