-- `inorder::InOrder::step` meets its contract.
use Rattle.inorder.proofs.Entering.{run_of_one}
use Rattle.inorder.proofs.InOrder.step.Goals as goal

pub returns : goal.returns
returns c = run_of_one c.args.program.now c.args.self c.args.memory.now c.run-ran.ensures
