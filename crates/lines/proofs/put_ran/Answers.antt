-- `lines::put_ran` meets its contract: three numbers, each behind its text.
use native.Mathlib.Omega.{arith}
use Rattle.lines.proofs.Putting.{all_of, byte, count}
use Rattle.lines.specs.Lines.{ran_text}
use Rattle.lines.proofs.put_ran.Goals as goal

pub returns : goal.returns
unfolding ran_text
returns c =
    count c.put.ensures (omega arith) c.put_decimal.ensures
    (byte c.put-2.ensures c.from.ensures (omega arith) c.put_decimal-2.ensures
    (count c.put-3.ensures (omega arith) c.put_decimal-3.ensures (all_of c.put-4.ensures)))
