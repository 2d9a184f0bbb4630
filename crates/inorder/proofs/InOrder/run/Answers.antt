-- `inorder::InOrder::run` meets its contract.
use Rattle.std.proofs.Common.{rules}
use Rattle.kernel.proofs.Checking.{checked-program}
use Rattle.inorder.proofs.Entering.{run-refused, run-done}
use Rattle.inorder.proofs.InOrder.run.Goals as goal

pub go-requires : goal.go-requires
go-requires c = checked-program c.args.program.now c.args.memory.now c.enter.ensures c.in-Ok.is

pub returns-in-Ok : goal.returns-in-Ok
returns-in-Ok c = run-done c.args.program.now c.args.self c.args.memory.now c.enter.ensures c.args.budget c.in-Ok.is (λ i. search rules) c.go.ensures

pub returns-in-Err : goal.returns-in-Err
returns-in-Err c = run-refused c.args.program.now c.args.self c.args.memory.now c.enter.ensures c.args.budget c.in-Err.is
