-- `sound::counter_ok` meets its contract.
use native.Mathlib.Omega.{arith}
use Rattle.rows.specs.Shown.{held_of}
use Rattle.rows.proofs.Showing.{held_size}
use Rattle.sound.proofs.LastJz.{first_within, first-none, first_last}
use Rattle.sound.proofs.counter_ok.Goals as goal

pub overflow_add-result : goal.overflow_add-result
overflow_add-result c = omega (arith, c.first_jz-at.ensures, first_within (held_of c.args.n c.args.ts.now) (held_size c.args.n c.args.ts.now c.requires.1), c.requires.0)

pub returns-in-At : goal.returns-in-At
returns-in-At c = rw (c.in-At.is, c.first_jz-at.ensures) (first-none (held_of c.args.n c.args.ts.now) (held_size c.args.n c.args.ts.now c.requires.1))

pub returns-in-Stall : goal.returns-in-Stall
returns-in-Stall c = rw (c.in-Stall.is, c.first_jz-at.ensures) (first_last (held_of c.args.n c.args.ts.now) (held_size c.args.n c.args.ts.now c.requires.1))
