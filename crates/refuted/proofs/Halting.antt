-- Lines that end where falsity follows are not those of the stages: from {1} by falsity from 1, 2 from 1, 3 from 2, the last line is missing. Assumes nothing.
use mathlib.Core.Bool.{Bool, not, true}
use mathlib.Core.List.{List}
use mathlib.Core.Path.{◌∙◌, ◌≡◌, ap, ap₂, refl, sym}
use Prim.Native.Nat.{◌+◌, ℕ}
use native.Mathlib.Omega.{arith}
use lib.ListN.{length, replicate}
use Rattle.following.specs.First.{since_of, up_to}
use Rattle.lent.specs.Lent.{fitted, kept}
use Rattle.std.proofs.Common.{Result, Ok, Err}
use Rattle.promises.proofs.Form.{form_a, form_m, form_said}
use Rattle.promises.proofs.Right.{form_right}
use Rattle.promises.specs.Calls.{Read, ours, stage_lines, written}
use Rattle.promises.specs.Made.{Made, loaded, put_in}
use Rattle.promises.specs.Plain.{PlainPath}
use Rattle.refuted.proofs.Files.{file_done, file_form}
use Rattle.refuted.proofs.Third.{beyond, beyond_bytes, beyond_held, held, spelled}
use Rattle.refuted.specs.Wrong.{halted_lines, halted_text, halting}
use Rattle.replies.specs.declared.Reply.TheVariants.{Number, Shape}
use Rattle.rules.specs.Held.{said_by}
use Rattle.rules.specs.Items.{set_of}
use Rattle.stagetext.specs.Stagetext.{last_stage, latest, stage_line, stage_text}
use Rattle.store.specs.Shape.{right_shape, top}
use Rattle.store.specs.declared.Store.{Store}
use Rattle.text.specs.Texts.{digits, digits_in, field, word}
use Rattle.theory.specs.Lists.{all_of, choose, each, numbers_below, some_of, those}
use Rattle.theory.specs.Places.{table}
use Rattle.theory.specs.Sets.{among, digit, in_range}
use Rattle.theory.specs.Stages.{Justification, follows, gives}
use Rattle.replies.specs.declared.Reply.{Reply}

abbrev lent : List ℕ
lent = replicate 22 0

-- the lines, and those that end with the stage of falsity
whole : stage_text 3 (put_in beyond) 1 ≡ word "0 1\n1 0 1 2\n2 0 1 2 3\n"
unfolding stage_text stage_line last_stage latest since_of up_to follows among digit gives some_of all_of those each numbers_below table digits digits_in field word set_of
whole = refl

cut : halted_text 3 beyond_held 1 ≡ word "0 1\n1 0 1 2\n"
unfolding stage_line last_stage latest since_of up_to follows among digit gives some_of all_of those each numbers_below table digits digits_in field word
cut = refl

sizes : (length (word "0 1\n1 0 1 2\n2 0 1 2 3\n") ≡ 22) × (length (word "0 1\n1 0 1 2\n") ≡ 12)
unfolding word
sizes = (refl, refl)

cut_written : (fitted (word "0 1\n1 0 1 2\n") lent).answer ≡ Ok 12
unfolding fitted word
cut_written = refl

abbrev reported : Result ℕ Reply → ℕ
reported (Ok n) = n
reported (Err r) = 0

abbrev s : Store
s = (ours.loading beyond_bytes).store

said : (halted_lines s 1 lent).answer ≡ Ok 12
unfolding in_range
said =
    let g = file_form beyond_bytes beyond spelled.0 (omega arith) in
    let right : right_shape s ≡ true = form_right g in
    let tops : top s.held ≡ 3 = ap₂ (λ (a m : ℕ). a + m) (form_a g) (form_m g) in
    ap (λ (b : Bool). (choose (not b) (kept Shape lent) (choose (not (in_range s.held.assumptions 1)) (kept Number lent) (fitted (halted_text (top s.held) (said_by s.held) 1) lent))).answer) right
    ∙ ap (λ (a : ℕ). (choose (not (in_range a 1)) (kept Number lent) (fitted (halted_text (top s.held) (said_by s.held) 1) lent)).answer) (form_a g)
    ∙ ap₂ (λ (t : ℕ) (J : List Justification). (fitted (halted_text t J 1) lent).answer) tops (form_said g ∙ held.0)
    ∙ ap (λ (t : List ℕ). (fitted t lent).answer) cut ∙ cut_written

pub stops_at_falsity : PlainPath halting → ⊥
stops_at_falsity d =
    let m : Made halting 1 2 (put_in beyond) s = loaded beyond_bytes beyond spelled.0 refl refl (file_done beyond_bytes beyond spelled.0 (omega arith)) refl in
    let long : length (stage_text 3 (put_in beyond) 1) ≡ 22 = ap length whole ∙ sizes.0 in
    let w : (halted_lines s 1 lent).answer ≡ written (stage_text 3 (put_in beyond) 1) = ap (λ (x : Read (stage_lines 1 lent)). x.said) (d.lines m 1 lent (omega arith) (omega (arith, long))) in
    let e : 12 ≡ length (stage_text 3 (put_in beyond) 1) = ap reported (sym said ∙ w) in
    omega (arith, e, long)
