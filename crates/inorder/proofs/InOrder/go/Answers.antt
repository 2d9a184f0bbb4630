-- `inorder::InOrder::go` meets its contract.
use Rattle.inorder.proofs.Running.{goes_on, stops_at, run_ends}
use Rattle.inorder.proofs.InOrder.go.Goals as goal

pub loop-executed-preserved : goal.loop-executed-preserved
loop-executed-preserved c = goes_on c.loop-executed.invariant c.loop-executed-test.true c.turn.ensures c.in_default.is

pub returns-in-Err : goal.returns-in-Err
returns-in-Err c = rw c.from.ensures (stops_at c.loop-executed.invariant c.loop-executed-test.true c.turn.ensures c.in-Err.is)

pub returns : goal.returns
returns c = run_ends c.loop-executed.invariant c.loop-executed-test.false c.loop-executed.auto.executed-end
