-- `report::judging::judge` meets its contract: the first of the lengths that is refused, or what the records say.
use mathlib.Core.Path.{refl, ◌∙◌}
use Rattle.std.proofs.lemmas.Result.{err_from_is_err_and}
use Rattle.report.specs.Report.{judged}
use Rattle.report.proofs.Files.{unless_refused, unless_fit}
use Rattle.report.proofs.judging.judge.Goals as goal

pub returns-then-not-is_whole : goal.returns-then-not-is_whole
unfolding judged
returns-then-not-is_whole c = rw (c.bad_length.ensures, ← c.is_whole.ensures, c.if-not-is_whole.true) refl

pub returns-then-not-is_whole-2 : goal.returns-then-not-is_whole-2
unfolding judged
returns-then-not-is_whole-2 c =
    rw (c.bad_length-then-not-is_whole-2.ensures, ← c.is_whole.ensures, c.if-not-is_whole.false, ← c.is_whole-2.ensures, c.if-not-is_whole-2.true) refl

pub returns-then-not-is_schedule : goal.returns-then-not-is_schedule
unfolding judged
returns-then-not-is_schedule c =
    rw (c.bad_length-then-not-is_schedule.ensures, ← c.is_whole.ensures, c.if-not-is_whole.false, ← c.is_whole-2.ensures, c.if-not-is_whole-2.false, ← c.is_schedule.ensures, c.if-not-is_schedule.true) refl

pub returns-in_err-in_file : goal.returns-in_err-in_file
unfolding judged
returns-in_err-in_file c =
    let p = err_from_is_err_and c.from_residual.result c.from_residual.ensures.1 in
    rw (← c.is_whole.ensures, c.if-not-is_whole.false, ← c.is_whole-2.ensures, c.if-not-is_whole-2.false, ← c.is_schedule.ensures, c.if-not-is_schedule.false, ← c.scan.ensures, p.1, p.2)
    (unless_refused 1 _ _ c.in_err-in_file.ensures)

pub returns : goal.returns
unfolding judged
returns c =
    rw (← c.is_whole.ensures, c.if-not-is_whole.false, ← c.is_whole-2.ensures, c.if-not-is_whole-2.false, ← c.is_schedule.ensures, c.if-not-is_schedule.false, ← c.scan.ensures, ← c.scan-2.ensures)
    (c.in_file-2.ensures ∙ unless_fit 1 _ _ c.in_ok-in_file.ensures)
