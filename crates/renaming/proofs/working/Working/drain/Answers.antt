-- `renaming::working::Working::drain` meets its contract.
use Prim.Native.Nat.{◌<◌}
use native.Mathlib.Omega.{arith}
use lib.ListN.{length}
use Rattle.renaming.proofs.Steps.{counted}
use Rattle.renaming.proofs.Fitting.{inside_within}
use Rattle.renaming.proofs.Emptying.{drain_begins, drain_again, drain_on, drain_stops, drain_spent}
use Rattle.renaming.proofs.working.Working.drain.Goals as goal

pub loop-rules-init : goal.loop-rules-init
loop-rules-init c = drain_begins c.args.self.now c.args.memory.now c.requires

pub returns-then-p-self : goal.returns-then-p-self
returns-then-p-self c = drain_stops c.loop-rules.invariant c.loop-rules-test.true (omega (arith, counted c.self.invariant c.self.view_is, c.if-p-self.true))

pub apply-requires : goal.apply-requires
apply-requires c = inside_within c.loop-rules.self c.loop-rules.invariant.inside

pub loop-rules-preserved-in-Ok : goal.loop-rules-preserved-in-Ok
loop-rules-preserved-in-Ok c =
    let here : c.loop-rules.p < length c.loop-rules.self.held = omega (arith, counted c.self.invariant c.self.view_is, c.if-p-self.false) in
    drain_again c.loop-rules.invariant c.loop-rules-test.true here c.due.ensures c.apply.ensures c.in-Ok.is

pub loop-rules-preserved : goal.loop-rules-preserved
loop-rules-preserved c =
    let here : c.loop-rules.p < length c.loop-rules.self.held = omega (arith, counted c.self.invariant c.self.view_is, c.if-p-self.false) in
    drain_on c.loop-rules.invariant c.loop-rules-test.true here c.due.ensures c.apply.ensures c.in-Err.is

pub returns : goal.returns
returns c = drain_spent c.loop-rules.invariant c.loop-rules-test.false
