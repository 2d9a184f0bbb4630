-- `sound::registers_ok` meets its contract.
use mathlib.Core.Path.{refl, sym, ap, ◌∙◌}
use lib.ListN.{drop, length-map}
use Prim.Native.Nat.{◌+◌}
use Rattle.value.specs.Operation.{undefined}
use Rattle.templates.specs.declared.Operand.{Operand}
use Rattle.templates.specs.declared.Operand.TheVariants.{Known}
use Rattle.templates.specs.Templates.{register}
use Rattle.rows.specs.Shown.{regs_of}
use Rattle.rows.proofs.Showing.{register_shown}
use Rattle.sound.specs.Sound.{is_ready, is_alone}
use Rattle.sound.specs.Search.{told}
use Rattle.sound.proofs.Turns.{walk_on, walk_out, walk_end}
use Rattle.sound.proofs.registers_ok.Goals as goal

pub loop-i-init : goal.loop-i-init
loop-i-init c = record { long = length-map c.args.rf.now _; left = refl }

pub returns-then-not-is_ready : goal.returns-then-not-is_ready
returns-then-not-is_ready c = walk_out c.loop-i.invariant (register (Known undefined)) (register_shown c.args.rf.now c.loop-i.i) c.loop-i-test.true (rw (ap (is_ready (told c.args.made)) (sym c.contents-o.ensures) ∙ sym c.is_ready.ensures ∙ c.if-not-is_ready.true))

pub returns-then-not-is_alone : goal.returns-then-not-is_alone
returns-then-not-is_alone c = walk_out c.loop-i.invariant (register (Known undefined)) (register_shown c.args.rf.now c.loop-i.i) c.loop-i-test.true
    (rw (ap (is_ready (told c.args.made)) (sym c.contents-o.ensures) ∙ sym c.is_ready.ensures ∙ c.if-not-is_ready.false, ap (λ (o : Operand). is_alone o (drop (c.loop-i.i + 1) (regs_of c.args.rf.now))) (sym c.contents-o.ensures) ∙ sym c.is_alone.ensures ∙ c.if-not-is_alone.true))

pub loop-i-preserved : goal.loop-i-preserved
loop-i-preserved c = walk_on c.loop-i.invariant (register (Known undefined)) (register_shown c.args.rf.now c.loop-i.i) c.loop-i-test.true
    (rw (ap (is_ready (told c.args.made)) (sym c.contents-o.ensures) ∙ sym c.is_ready.ensures ∙ c.if-not-is_ready.false, ap (λ (o : Operand). is_alone o (drop (c.loop-i.i + 1) (regs_of c.args.rf.now))) (sym c.contents-o.ensures) ∙ sym c.is_alone.ensures ∙ c.if-not-is_alone.false))

pub returns : goal.returns
returns c = walk_end c.loop-i.invariant c.loop-i-test.false
