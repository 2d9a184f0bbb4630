-- `renaming::entries::drain` meets its contract.
use Rattle.std.proofs.Common.{rules}
use Rattle.renaming.proofs.Going.{ready_inside}
use Rattle.renaming.proofs.Emptying.{drain-out, drain-in}
use Rattle.renaming.proofs.Turning.{kept_out, came_in, in_coded, in_machine, in_ready, in_memory}
use Rattle.renaming.proofs.entries.drain.Goals as goal

pub returns-in-Err : goal.returns-in-Err
returns-in-Err c =
    let s = c.args.state in
    let p = c.args.program.now in
    let b = c.args.memory.now in
    drain-out p s b (kept_out p b s c.turn_in.ensures c.numbers-working-inside.ensures c.enter.ensures c.in-Err.is)

pub invariant_of-working : goal.invariant_of-working
invariant_of-working c = in_coded c.args.program.now c.args.memory.now c.args.state c.turn_in.ensures c.numbers-working-inside.ensures c.enter.ensures c.in_default.is

pub drain-rules-requires : goal.drain-rules-requires
drain-rules-requires c =
    ready_inside (in_ready c.args.program.now c.args.memory.now c.args.state c.turn_in.ensures c.numbers-working-inside.ensures c.enter.ensures c.in_default.is)

pub returns : goal.returns
returns c =
    let s = c.args.state in
    let p = c.args.program.now in
    let b = c.args.memory.now in
    let came = came_in p b s c.turn_in.ensures c.numbers-working-inside.ensures c.enter.ensures c.in_default.is in
    let shown = in_machine p b s c.turn_in.ensures c.numbers-working-inside.ensures c.enter.ensures c.in_default.is in
    let formed = in_memory p b s c.turn_in.ensures c.numbers-working-inside.ensures c.enter.ensures c.in_default.is (λ i. search rules) in
    drain-in p s b came formed shown c.drain-rules.ensures c.state.ensures c.blocking.ensures c.faulted.ensures c.blocked_at.ensures
