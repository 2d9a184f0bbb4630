-- `renaming::working::Working::run` meets its contract.
use mathlib.Core.Path.{sym}
use native.Mathlib.Omega.{arith}
use Rattle.renaming.proofs.Going.{run_begins, run_again, run_stops, run_ends, ready_within}
use Rattle.renaming.proofs.working.Working.run.Goals as goal

pub loop-i-init : goal.loop-i-init
loop-i-init c = run_begins c.args.program.now c.args.records.now c.args.self.now c.args.memory.now c.requires

pub obey-verdict-requires : goal.obey-verdict-requires
obey-verdict-requires c = (ready_within c.loop-i.invariant.ready, c.loop-i.invariant.ready.scanned)

pub returns-then-is_err : goal.returns-then-is_err
returns-then-is_err c = run_stops c.loop-i.invariant c.loop-i-test.true c.read-command.ensures c.obey-verdict.ensures (sym c.if-is_err.ensures.value)

pub count-issued-requires : goal.count-issued-requires
count-issued-requires c = let l = c.loop-i.invariant.issues in omega (arith, c.well_formed)

pub loop-i-preserved : goal.loop-i-preserved
loop-i-preserved c = run_again c.loop-i.invariant c.loop-i-test.true c.read-command.ensures c.obey-verdict.ensures (sym c.if-is_err.ensures.value) c.count-issued.ensures

pub returns : goal.returns
returns c = run_ends c.loop-i.invariant (omega (arith, c.loop-i-test.false, c.loop-i.auto.i-end))
