-- `kernel::check` meets its contract.
use mathlib.Core.Path.{refl}
use Rattle.std.proofs.lemmas.Result.{err_from_is_err_and}
use Rattle.kernel.specs.Checks.{checked}
use Rattle.kernel.proofs.check.Goals as goal

pub returns-then-not-is_whole : goal.returns-then-not-is_whole
unfolding checked
returns-then-not-is_whole c = rw (c.from.ensures, ← c.is_whole.ensures, ← c.is_whole-2.ensures, c.if-not-is_whole.true) refl

pub returns-in_err-scan : goal.returns-in_err-scan
unfolding checked
returns-in_err-scan c =
    let p = err_from_is_err_and c.from_residual.result c.from_residual.ensures.1 in
    rw (p.1, p.2, ← c.is_whole.ensures, ← c.is_whole-2.ensures, c.if-not-is_whole.false, ← c.scan.ensures, c.in_err-scan.was) refl

pub returns : goal.returns
unfolding checked
returns c = rw (← c.is_whole.ensures, ← c.is_whole-2.ensures, c.if-not-is_whole.false, ← c.scan.ensures, c.in_ok-scan.was) c.scan-2.ensures
