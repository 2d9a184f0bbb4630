-- `sound::first_jz` meets its contract.
use mathlib.Core.Path.{sym, ap, ◌∙◌}
use native.Mathlib.Omega.{arith}
use Rattle.templates.specs.declared.Template.{Template}
use Rattle.templates.specs.Machine.{nothing}
use Rattle.rows.proofs.Showing.{held_size, at_shown}
use Rattle.sound.specs.Sound.{is_jz}
use Rattle.sound.proofs.Turns.{walk_on, walk_out, walk_end}
use Rattle.sound.proofs.first_jz.Goals as goal

pub loop-i-init : goal.loop-i-init
loop-i-init c = record { long = held_size c.args.n c.args.ts.now c.requires; left = omega arith }

pub returns-then-is_jz : goal.returns-then-is_jz
returns-then-is_jz c = walk_out c.loop-i.invariant nothing (at_shown c.args.n c.args.ts.now c.loop-i.i c.loop-i-test.true c.requires) c.loop-i-test.true
    (rw (ap (λ (x : Template). is_jz x.work) (sym c.template.ensures) ∙ sym c.is_jz.ensures ∙ c.if-is_jz.true) (omega arith))

pub loop-i-preserved : goal.loop-i-preserved
loop-i-preserved c = walk_on c.loop-i.invariant nothing (at_shown c.args.n c.args.ts.now c.loop-i.i c.loop-i-test.true c.requires) c.loop-i-test.true
    (rw (ap (λ (x : Template). is_jz x.work) (sym c.template.ensures) ∙ sym c.is_jz.ensures ∙ c.if-is_jz.false) (omega arith))

pub returns : goal.returns
returns c = omega (arith, walk_end c.loop-i.invariant c.loop-i-test.false)
