-- What is left of the drain is kept at each rule.
use Prim.Native.Nat.{◌+◌, ◌-◌, ◌*◌}
use Rattle.cells.specs.Cells.{cells}
use Rattle.rules.specs.Drain.{drain}
use Rattle.renaming.proofs.Emptying.{Left}
use Rattle.renaming.proofs.working.Working.drain.Given as goal

abbrev pub invariant-loop-rules : goal.invariant-loop-rules
invariant-loop-rules l = Left (drain l.initial.self (cells l.initial.memory)) l.initial.memory l.self l.memory l.rules l.p

abbrev pub decreases-loop-rules : goal.decreases-loop-rules
decreases-loop-rules l = (256 - l.rules) * 66 + (65 - l.p)
