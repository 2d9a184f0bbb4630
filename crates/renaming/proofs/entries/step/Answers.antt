-- `renaming::entries::step` meets its contract.
use mathlib.Core.Path.{◌≡◌}
use Rattle.std.proofs.Common.{rules}
use lib.ListN.{length}
use Rattle.templates.specs.Layout.{places}
use Rattle.renaming.proofs.Going.{step_unwhole, step_run}
use Rattle.renaming.proofs.entries.step.Goals as goal

pub returns-then-one-ne4 : goal.returns-then-one-ne4
returns-then-one-ne4 c = step_unwhole c.args.program.now c.args.state c.args.memory.now c.args.one.now c.if-one-ne4.true c.from.ensures

pub returns : goal.returns
returns c =
    let s = c.args.state in
    let p = c.args.program.now in
    let b = c.args.memory.now in
    let long : length s.templates ≡ places = search rules in
    step_run p s b c.args.one.now c.if-one-ne4.false long c.run-ran.ensures
