-- `lines::put_drained` meets its contract: a number behind its text.
use native.Mathlib.Omega.{arith}
use Rattle.lines.proofs.Putting.{all_of, count}
use Rattle.lines.specs.Lines.{drained_text}
use Rattle.lines.proofs.put_drained.Goals as goal

pub returns : goal.returns
unfolding drained_text
returns c = count c.put.ensures (omega arith) c.put_decimal.ensures (all_of c.put-2.ensures)
