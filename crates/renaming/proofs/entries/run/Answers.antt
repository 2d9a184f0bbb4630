-- `renaming::entries::run` meets its contract.
use Rattle.std.proofs.Common.{rules}
use Rattle.renaming.proofs.Going.{run_unwhole, run-out, run-in}
use Rattle.renaming.proofs.Turning.{kept_out, came_in, in_coded, in_machine, in_ready, in_memory}
use Rattle.renaming.proofs.entries.run.Goals as goal

pub returns-then-records-ne0 : goal.returns-then-records-ne0
returns-then-records-ne0 c =
    let s = c.args.state in
    let p = c.args.program.now in
    let b = c.args.memory.now in
    run_unwhole p s b c.args.records.now c.if-records-ne0.true c.from.ensures c.ran_not.ensures

pub returns-in-Err : goal.returns-in-Err
returns-in-Err c =
    let s = c.args.state in
    let p = c.args.program.now in
    let b = c.args.memory.now in
    run-out p s b c.args.records.now c.if-records-ne0.false (kept_out p b s c.turn_in.ensures c.numbers-working-inside.ensures c.enter.ensures c.in-Err.is) c.ran_not-in-Err.ensures

pub invariant_of-working : goal.invariant_of-working
invariant_of-working c = in_coded c.args.program.now c.args.memory.now c.args.state c.turn_in.ensures c.numbers-working-inside.ensures c.enter.ensures c.in_default.is

pub run-went-requires : goal.run-went-requires
run-went-requires c = in_ready c.args.program.now c.args.memory.now c.args.state c.turn_in.ensures c.numbers-working-inside.ensures c.enter.ensures c.in_default.is

pub returns : goal.returns
returns c =
    let s = c.args.state in
    let p = c.args.program.now in
    let b = c.args.memory.now in
    let came = came_in p b s c.turn_in.ensures c.numbers-working-inside.ensures c.enter.ensures c.in_default.is in
    let shown = in_machine p b s c.turn_in.ensures c.numbers-working-inside.ensures c.enter.ensures c.in_default.is in
    let formed = in_memory p b s c.turn_in.ensures c.numbers-working-inside.ensures c.enter.ensures c.in_default.is (λ i. search rules) in
    run-in p s b c.args.records.now c.if-records-ne0.false came formed shown c.run-went.ensures c.state.ensures c.faulted.ensures
