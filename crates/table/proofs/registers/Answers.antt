-- `table::registers` meets its contract.
use mathlib.Core.Path.{refl, sym, ap, ◌∙◌}
use native.Mathlib.Omega.{arith}
use Rattle.value.specs.Operation.{undefined}
use Rattle.templates.specs.declared.Operand.TheVariants.{Known}
use Rattle.templates.specs.Templates.{register}
use Rattle.rows.proofs.Walks.{lay_on, lay_end}
use Rattle.rows.proofs.Showing.{register_shown, registers_size}
use Rattle.table.proofs.registers.Goals as goal

pub loop-i-init : goal.loop-i-init
loop-i-init c = record { same = refl }

pub loop-i-preserved : goal.loop-i-preserved
loop-i-preserved c = lay_on c.loop-i.invariant (register (Known undefined)) (ap register c.contents.ensures ∙ sym (register_shown c.args.rf.now c.loop-i.i)) (omega (arith, registers_size c.args.rf.now)) (omega arith)

pub returns : goal.returns
returns c = lay_end c.loop-i.invariant (omega (arith, registers_size c.args.rf.now))
