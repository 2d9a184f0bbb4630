-- `lines::put_counter` meets its contract: an address behind its text, or that it stalls.
use native.Mathlib.Omega.{arith}
use Rattle.lines.proofs.Putting.{all_of, adds_within, word}
use Rattle.lines.specs.Lines.{counter_text}
use Rattle.lines.proofs.put_counter.Goals as goal

pub returns-in-At : goal.returns-in-At
unfolding counter_text
returns-in-At c = rw c.in-At.is (word c.put.ensures c.from.ensures (omega arith) c.put_decimal.ensures (all_of c.put-in-At.ensures))

pub returns-in-Stall : goal.returns-in-Stall
unfolding counter_text
returns-in-Stall c = rw c.in-Stall.is (adds_within 14 (omega arith) c.put-in-Stall.ensures)
