-- `table::registers` meets its contract.
use Rattle.value.specs.Operation.{undefined}
use Rattle.templates.specs.declared.Operand.TheVariants.{Known}
use Rattle.templates.specs.Templates.{register}
use Rattle.rows.specs.Shown.{regs_of}
use Rattle.rows.proofs.Walks.{Laying}
use Rattle.table.proofs.registers.Given as goal

abbrev pub invariant-loop-i : goal.invariant-loop-i
invariant-loop-i l = Laying (register (Known undefined)) 32 (regs_of l.rf) l.out l.i
