-- `records::scan` meets its contract.
use mathlib.Core.Path.{refl, ap, sym, ◌∙◌}
use mathlib.Core.Option.{some}
use borrow.Author.Tests.{lt-ltb}
use Rattle.records.specs.Records.{records}
use Rattle.records.proofs.Leading.{counted_more, counted_stop}
use Rattle.records.proofs.Tabulate.{record-at}
use Rattle.records.proofs.scan.Goals as goal

pub loop-number-preserved : goal.loop-number-preserved
loop-number-preserved g c =
    counted_more g.F.Form.right (records c.args.b.now) c.loop-number.number
    (record-at _ _ c.loop-number-test.true ∙ ap some (sym c.record_from.ensures))
    (sym c.is_right.ensures ∙ c.if-not-is_right.false) c.loop-number.invariant

pub returns-then-not-is_right : goal.returns-then-not-is_right
returns-then-not-is_right g c =
    let b = c.args.b.now in
    let first =
    counted_stop g.F.Form.right (records b) c.loop-number.number
    (record-at _ _ c.loop-number-test.true ∙ ap some (sym c.record_from.ensures))
    (sym c.is_right.ensures ∙ c.if-not-is_right.true) c.loop-number.invariant in
    rw (sym c.is_whole.ensures, c.if-not-is_whole.false, sym first, lt-ltb _ _ c.loop-number-test.true, sym c.REFUSAL.ensures) refl
