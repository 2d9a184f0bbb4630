-- `lines::put_tag` meets its contract: two numbers, each behind its text.
use native.Mathlib.Omega.{arith}
use Rattle.lines.proofs.Putting.{all_of, in_at_most, byte, word}
use Rattle.lines.specs.Lines.{named_text, operand_text}
use Rattle.lines.proofs.put_tag.Goals as goal

pub returns : goal.returns
unfolding operand_text named_text
returns c =
    in_at_most
    (word c.put.ensures c.from.ensures (omega arith) c.put_decimal.ensures
    (byte c.put-2.ensures c.from-2.ensures (omega arith) c.put_decimal-2.ensures (all_of c.put-3.ensures)))
    (omega arith)
