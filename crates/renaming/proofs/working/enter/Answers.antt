-- `renaming::working::enter` meets its contract.
use mathlib.Core.Path.{sym, ◌∙◌}
use native.Mathlib.Omega.{arith}
use Rattle.std.proofs.lemmas.Result.{err_from_is_err_and}
use Rattle.kernel.proofs.Checking.{checked-program}
use Rattle.renaming.proofs.Fitting.{few_instructions}
use Rattle.renaming.proofs.Turning.{on_refused, on_unsound, on_sound}
use Rattle.renaming.proofs.working.enter.Goals as goal

pub returns-in_err-check : goal.returns-in_err-check
returns-in_err-check c =
    let p = err_from_is_err_and c.from_residual.result c.from_residual.ensures.1 in
    rw (p.1, p.2) (on_refused c.args.program.now c.args.memory.now c.args.c c.args.n c.args.ts.now c.args.rf.now (sym c.check.ensures ∙ c.in_err-check.was))

pub overflow_cast-program : goal.overflow_cast-program
overflow_cast-program c =
    let few = few_instructions c.args.program.now (checked-program c.args.program.now c.args.memory.now c.check.ensures c.in_ok-check.was) in
    omega (arith, few)

pub returns-then-not-sound_on : goal.returns-then-not-sound_on
returns-then-not-sound_on c = on_unsound c.args.program.now c.args.memory.now c.args.c c.args.n c.args.ts.now c.args.rf.now (sym c.check.ensures ∙ c.in_ok-check.was) c.sound_on.ensures c.if-not-sound_on.true c.from.ensures

pub returns : goal.returns
returns c = on_sound c.args.program.now c.args.memory.now c.args.c c.args.n c.args.ts.now c.args.rf.now (sym c.check.ensures ∙ c.in_ok-check.was) c.sound_on.ensures c.if-not-sound_on.false
