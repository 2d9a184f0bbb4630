-- `judge::refusal_at` meets its contract.
use native.Mathlib.Omega.{arith}
use Rattle.cells.specs.Cells.{cells}
use Rattle.judge.proofs.Asking.{asked}
use Rattle.judge.proofs.refusal_at.Goals as goal

pub returns : goal.returns
returns c = asked c.args.state c.rows-ts.ensures c.numbers-rf.ensures c.args.rule c.args.place (cells c.args.memory.now) c.refusal_on.ensures (omega arith)
