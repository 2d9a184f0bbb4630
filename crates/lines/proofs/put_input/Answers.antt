-- `lines::put_input` meets its contract: three numbers, each behind its text.
use native.Mathlib.Omega.{arith}
use Rattle.lines.proofs.Putting.{all_of, byte, count}
use Rattle.lines.specs.Lines.{input_text}
use Rattle.lines.proofs.put_input.Goals as goal

pub returns : goal.returns
unfolding input_text
returns c =
    byte c.put.ensures c.from.ensures (omega arith) c.put_decimal.ensures
    (byte c.put-2.ensures c.from-2.ensures (omega arith) c.put_decimal-2.ensures
    (count c.put-3.ensures (omega arith) c.put_decimal-3.ensures (all_of c.put-4.ensures)))
