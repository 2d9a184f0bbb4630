-- `rows::changes::fill_registers` meets its contract.
use mathlib.Core.Path.{refl, ap₂, ◌∙◌}
use Prim.Native.Nat.{ℕ}
use native.Mathlib.Omega.{arith}
use mathlib.Core.List.{map}
use Rattle.rows.specs.Rows.{fill_number}
use Rattle.rows.proofs.Walks.{map_on, map_end}
use Rattle.rows.proofs.changes.fill_registers.Goals as goal

pub loop-x-init : goal.loop-x-init
loop-x-init c = record { long = refl; left = refl }

pub loop-x-preserved : goal.loop-x-preserved
loop-x-preserved c = map_on c.loop-x.invariant 0 c.filled.ensures (omega (arith, c.loop-x-test.true, c.loop-x.invariant.long))

pub returns : goal.returns
returns c = record { numbers = map_end c.loop-x.invariant (omega (arith, c.loop-x-test.false, c.loop-x.invariant.long)) ∙ ap₂ (λ (w x : ℕ). map (fill_number w x) c.args.rf.now) c.waiting-tag.ensures c.coded_value-k.ensures.is; small = c.coded_value-k.ensures.small }
