-- `lines::put_register` meets its contract: what a register holds is known, or it waits.
use Rattle.lines.specs.Lines.{operand_text}
use Rattle.lines.proofs.put_register.Goals as goal

pub returns-in-Known : goal.returns-in-Known
unfolding operand_text
returns-in-Known c = rw c.in-Known.is c.put_value.ensures

pub returns-in-Waits : goal.returns-in-Waits
returns-in-Waits c = rw c.in-Waits.is c.put_tag.ensures
