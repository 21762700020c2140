-- A text that fits is copied. Assumes nothing.
use Rattle.std.proofs.Common.{◌+◌, ◌++◌, ◌∙◌, ◌≡◌, ap, ap₂, arith, refl, sym, length, take, drop, List, ℕ}
use Rattle.std.proofs.lemmas.Grind.{common_steps}
use Rattle.std.proofs.lemmas.List.{take-append-drop, take_all}
use Rattle.lent.proofs.Fits.{fitted_long}
use Rattle.lent.proofs.fit.Goals as goal

pub loop-i-init : goal.loop-i-init
loop-i-init c = (refl, refl)

pub loop-i-preserved : goal.loop-i-preserved
loop-i-preserved c = (grind (arith, common_steps, c.loop-i.invariant.0), grind (arith, common_steps, c.loop-i.invariant.1))

pub returns : goal.returns
returns c =
    let t : List ℕ = c.args.text.now in
    let end : c.loop-i.i ≡ length t = omega arith in
    fitted_long t c.args.out.now c.if-out-length.false
    (sym (take-append-drop c.loop-i.i c.loop-i.out)
    ∙ ap₂ (λ (a b : List ℕ). a ++ b) (c.loop-i.invariant.0 ∙ take_all c.loop-i.i t (omega arith)) (c.loop-i.invariant.1 ∙ ap (λ (n : ℕ). drop n c.args.out.now) end))
