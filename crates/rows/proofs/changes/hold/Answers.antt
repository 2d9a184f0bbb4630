-- `rows::changes::hold` meets its contract.
use mathlib.Core.Path.{sym, ap}
use lib.ListN.{set}
use lib.Seq.{set_out}
use Rattle.rows.proofs.changes.hold.Goals as goal

pub returns-then-i-rf : goal.returns-then-i-rf
returns-then-i-rf c = record { numbers = ap (set c.args.rf.now c.args.r.0) c.coded-k.ensures.is; small = c.coded-k.ensures.small }

pub returns-else-i-rf : goal.returns-else-i-rf
returns-else-i-rf c = record { numbers = sym (set_out c.args.rf.now c.args.r.0 _ c.if-i-rf.false); small = c.coded-k.ensures.small }
