-- `records::read` meets its contract.
use mathlib.Core.Path.{ap, ◌∙◌, sym}
use Rattle.records.specs.Records.{found}
use Rattle.std.specs.Prelude.{Some}
use Rattle.records.proofs.Tabulate.{record-at, record_past}
use Rattle.records.proofs.read.Goals as goal

pub returns-then-number-b : goal.returns-then-number-b
returns-then-number-b c = ap Some c.record_from.ensures ∙ sym (ap found (record-at _ _ c.if-number-b.true))

pub returns-else-number-b : goal.returns-else-number-b
returns-else-number-b c = sym (ap found (record_past _ _ c.if-number-b.false))
