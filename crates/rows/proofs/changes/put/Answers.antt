-- `rows::changes::put` meets its contract.
use mathlib.Core.Path.{sym, ap}
use lib.ListN.{set}
use lib.Seq.{set_out}
use Rattle.rows.proofs.changes.put.Goals as goal

pub returns-then-p-ts : goal.returns-then-p-ts
returns-then-p-ts c = record { rows = ap (set c.args.ts.now c.args.p) c.row-row.ensures.is; small = c.row-row.ensures.small }

pub returns-else-p-ts : goal.returns-else-p-ts
returns-else-p-ts c = record { rows = sym (set_out c.args.ts.now c.args.p _ c.if-p-ts.false); small = c.row-row.ensures.small }
