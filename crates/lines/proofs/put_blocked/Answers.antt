-- `lines::put_blocked` meets its contract: three numbers, each behind its text.
use native.Mathlib.Omega.{arith}
use Rattle.lines.proofs.Putting.{all_of, byte, word, count}
use Rattle.lines.specs.Lines.{blocked_text}
use Rattle.lines.proofs.put_blocked.Goals as goal

pub returns : goal.returns
unfolding blocked_text
returns c =
    word c.put.ensures c.from.ensures (omega arith) c.put_decimal.ensures
    (byte c.put-2.ensures c.from-2.ensures (omega arith) c.put_decimal-2.ensures
    (count c.put-3.ensures (omega arith) c.put_decimal-3.ensures (all_of c.put-4.ensures)))
