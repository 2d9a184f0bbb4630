-- `entry::enter` meets its contract.
use mathlib.Core.Path.{refl}
use Rattle.std.proofs.Common.{arith, rules}
use Rattle.std.proofs.lemmas.Result.{err_from_is_err_and}
use Rattle.isa.proofs.Programs.{program-whole}
use Rattle.kernel.proofs.Checking.{checked-program}
use Rattle.entry.specs.Entry.{entered}
use Rattle.entry.proofs.enter.Goals as goal

pub returns-in_err-check : goal.returns-in_err-check
unfolding entered
returns-in_err-check c =
    let p = err_from_is_err_and c.from_residual.result c.from_residual.ensures.1 in
    record { verdict = rw (p.1, p.2, ← c.check.ensures, c.in_err-check.was) refl; long = search rules }

pub overflow_cast-program : goal.overflow_cast-program
overflow_cast-program c =
    let few = (program-whole c.args.program.now (checked-program c.args.program.now c.args.memory.now c.check.ensures c.in_ok-check.was)).few in
    omega (arith, few)

pub returns-then-not-is_sound : goal.returns-then-not-is_sound
unfolding entered
returns-then-not-is_sound c =
    record {
      verdict = rw (c.from.ensures, ← c.check.ensures, c.in_ok-check.was, ← c.is_sound.ensures, c.if-not-is_sound.true) refl;
      long = search rules;
    }

pub returns : goal.returns
unfolding entered
returns c =
    record {
      verdict = rw (← c.check.ensures, c.in_ok-check.was, ← c.is_sound.ensures, c.if-not-is_sound.false) refl;
      long = search rules;
    }
