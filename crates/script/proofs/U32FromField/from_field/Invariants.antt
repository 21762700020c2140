-- A field's decimal number meets its contract. The invariant: the digits from here on, after those that say `value`, make the same number. Assumes nothing.
use Rattle.std.proofs.Common.{◌≡◌, ◌≤◌, drop}
use Rattle.script.proofs.Numerals.{numeral_from}
use Rattle.script.specs.Script.{numeral}
use Rattle.script.proofs.U32FromField.from_field.Given as goal

abbrev pub invariant-loop-b : goal.invariant-loop-b
invariant-loop-b l = (l.value ≤ 4294967295) × (numeral l.field ≡ numeral_from l.value (drop l.b-index l.field))
