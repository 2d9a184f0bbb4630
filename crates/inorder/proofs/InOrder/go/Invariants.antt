-- What is left of the run is kept at each turn of the loop.
use Rattle.inorder.proofs.Running.{Left}
use Rattle.inorder.proofs.InOrder.go.Given as goal

abbrev pub invariant-loop-executed : goal.invariant-loop-executed
invariant-loop-executed l = Left l.program l.initial.machine l.initial.memory l.budget l.machine l.memory l.executed
