-- `rows::changes::fill_from` meets its contract.
use mathlib.Core.Path.{refl}
use native.Mathlib.Omega.{arith}
use mathlib.Core.List.{[]}
use lib.ListN.{length-take}
use Rattle.rows.specs.Rows.{map_from, fill_row}
use Rattle.rows.proofs.Walks.{map_end, whole, among_map_on, among_end}
use Rattle.rows.proofs.changes.fill_from.Goals as goal

pub loop-i-init : goal.loop-i-init
loop-i-init c = (whole _ _, record { long = length-take _ _; left = refl })

pub loop-i-preserved : goal.loop-i-preserved
loop-i-preserved c = among_map_on c.loop-i.invariant.0 c.loop-i.invariant.1 [] (rw (c.filled.ensures, c.filled-in-loop-i.ensures) refl) (omega (arith, c.requires, c.loop-i-test.true))

pub returns : goal.returns
returns c = among_end c.loop-i.invariant.0 (map_from (fill_row c.args.tag c.args.v) c.args.from) (map_end c.loop-i.invariant.1 (omega (arith, c.loop-i-test.false)))
