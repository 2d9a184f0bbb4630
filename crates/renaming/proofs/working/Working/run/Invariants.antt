-- What is left of the run is kept at each record.
use Rattle.isa.specs.Program.{program as instructions}
use Rattle.cells.specs.Cells.{cells}
use Rattle.rules.specs.Run.{commands, run}
use Rattle.renaming.proofs.Going.{Left}
use Rattle.renaming.proofs.working.Working.run.Given as goal

abbrev pub invariant-loop-i : goal.invariant-loop-i
invariant-loop-i l = Left l.program (run (instructions l.program) (commands l.records) l.initial.self (cells l.initial.memory)) l.initial.memory l.records l.self l.memory l.i l.issued
