-- `report::putting::put_end` meets its contract: drained where no template is left, and otherwise blocked.
use native.Mathlib.Omega.{arith}
use borrow.Author.Tests.{eq-eqb, ne_eqb}
use Rattle.lines.proofs.Putting.{in_at_most}
use Rattle.report.specs.Report.{end_text}
use Rattle.report.proofs.putting.put_end.Goals as goal

pub returns-then-count-eq0 : goal.returns-then-count-eq0
unfolding end_text
returns-then-count-eq0 c = rw (eq-eqb _ 0 c.if-count-eq0.true) (in_at_most c.put_drained.ensures (omega arith))

pub returns : goal.returns
unfolding end_text
returns c = rw (ne_eqb _ 0 c.if-count-eq0.false, ← c.refusal_of.ensures) c.put_blocked.ensures
