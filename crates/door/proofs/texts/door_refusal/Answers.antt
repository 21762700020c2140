-- `door::texts::door_refusal` meets its contract: 30 bytes hold every line of a refusal, and `lent::fit` writes it. Assumes nothing.
use Rattle.std.proofs.Common.{List, ◌∙◌, ap, ℕ}
use Rattle.across.specs.Across.{wrote_by}
use Rattle.door.proofs.Refusing.{refusal_most}
use Rattle.lent.specs.Lent.{Wrote, fitted}
use Rattle.text.proofs.Added.{fresh_room, whole_room, whole_text}
use Rattle.door.proofs.texts.door_refusal.Goals as goal

pub refused-requires : goal.refused-requires
refused-requires c = fresh_room c.new-writer.ensures _ (refusal_most _ _ c.ranges.number.fits c.ranges.«record».fits)

pub text-requires : goal.text-requires
text-requires c = whole_room c.new-writer.ensures _ c.refused.ensures (refusal_most _ _ c.ranges.number.fits c.ranges.«record».fits)

pub returns : goal.returns
returns c =
    let said = c.fit-answer.ensures ∙ ap (λ (t : List ℕ). fitted t c.args.out.now) (c.text.ensures ∙ whole_text c.new-writer.ensures _ c.refused.ensures) in
    (c.from.ensures ∙ ap (λ (w : Wrote). wrote_by w.answer) said, ap (λ (w : Wrote). w.bytes) said)
