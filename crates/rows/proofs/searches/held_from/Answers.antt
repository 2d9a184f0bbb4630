-- `rows::searches::held_from` meets its contract.
use mathlib.Core.Path.{refl}
use native.Mathlib.Omega.{arith}
use mathlib.Core.List.{[]}
use Rattle.templates.proofs.Seeking.{seek_on, seek_hit, seek_end}
use Rattle.rows.proofs.Walks.{ask_first, ask_on, ask_hit, ask_end}
use Rattle.rows.proofs.searches.held_from.Goals as goal

pub walk-init : goal.walk-init
walk-init c = record { long = refl; left = refl }

pub loop-j-init : goal.loop-j-init
loop-j-init c = ask_first _ _

pub loop-j-preserved : goal.loop-j-preserved
loop-j-preserved c = ask_on _ c.loop-j.invariant c.loop-j-test.true c.if-ts-i.false

pub walk-preserved : goal.walk-preserved
walk-preserved c = seek_on c.walk.invariant [] (omega (arith, c.requires)) (ask_end c.loop-j.invariant c.loop-j-test.false)

pub returns-then-i-n : goal.returns-then-i-n
returns-then-i-n c = seek_end c.walk.invariant (omega arith)

pub returns-then-ts-i : goal.returns-then-ts-i
returns-then-ts-i c = seek_hit c.walk.invariant [] (omega (arith, c.requires)) (ask_hit _ c.loop-j.invariant c.loop-j-test.true c.if-ts-i.true)
