-- `stagetext::put` meets its contract. Assumes nothing.
use Rattle.std.proofs.Common.{◌≡◌, ◌+◌, ℕ, ap, length, arith, rules}
use Rattle.stagetext.proofs.Laws.{put_done, rows_first}
use Rattle.theory.specs.Limits.{limits}
use Rattle.text.proofs.Added.{texts}
use Rattle.stagetext.proofs.put.Goals as goal

pub returns : goal.returns
returns c =
    let a = c.args in
    let long : length a.marks ≡ limits.numbers + 1 = search rules in
    let whole = put_done a.marks a.top _ a.out.now _ c.if-top-gt-NUMBERS.false (rows_first a.marks a.top (omega (arith, long, c.if-top-gt-NUMBERS.false)) _) (ap (λ (x : ℕ). x + 1) c.last-count.ensures) (omega (arith, c.measured.ensures, c.if-out-measured.false)) in
    grind (arith, texts, whole)
