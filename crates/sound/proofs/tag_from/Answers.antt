-- `sound::tag_from` meets its contract.
use mathlib.Core.Path.{sym, ap, ◌∙◌}
use native.Mathlib.Omega.{arith}
use lib.ListN.{length, drop, length-map}
use lib.Seq.{take_all}
use Rattle.value.specs.Operation.{undefined}
use Rattle.templates.specs.declared.Operand.TheVariants.{Known}
use Rattle.templates.specs.declared.Register.{Register}
use Rattle.templates.specs.Templates.{waits, any_reg, register}
use Rattle.templates.proofs.Seeking.{seek_on, seek_hit, seek_end}
use Rattle.rows.specs.Shown.{regs_of}
use Rattle.rows.proofs.Showing.{register_shown}
use Rattle.rows.specs.Rows.{operand_of}
use Rattle.sound.proofs.tag_from.Goals as goal

pub loop-i-init : goal.loop-i-init
loop-i-init c = let rf = c.args.rf.now in
    record { long = length-map rf _; left = ap (λ l. any_reg c.args.t (drop c.args.from l)) (take_all (length rf) (regs_of rf) (omega (arith, length-map rf (λ k. register (operand_of k))))) }

pub returns-then-waits_for : goal.returns-then-waits_for
returns-then-waits_for c = seek_hit c.loop-i.invariant (register (Known undefined)) (omega (arith, c.loop-i-test.true)) (ap (λ (x : Register). waits c.args.t x.holds) (register_shown c.args.rf.now c.loop-i.i) ∙ ap (waits c.args.t) (sym c.contents.ensures) ∙ sym c.waits_for.ensures ∙ c.if-waits_for.true)

pub loop-i-preserved : goal.loop-i-preserved
loop-i-preserved c = seek_on c.loop-i.invariant (register (Known undefined)) (omega (arith, c.loop-i-test.true)) (ap (λ (x : Register). waits c.args.t x.holds) (register_shown c.args.rf.now c.loop-i.i) ∙ ap (waits c.args.t) (sym c.contents.ensures) ∙ sym c.waits_for.ensures ∙ c.if-waits_for.false)

pub returns : goal.returns
returns c = seek_end c.loop-i.invariant (omega (arith, c.loop-i-test.false))
