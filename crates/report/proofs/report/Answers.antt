-- `report::report` meets its contract: no room, a file that is refused, or a run.
use borrow.Author.Rules.{rules}
use mathlib.Core.Path.{sym, ◌∙◌}
use Rattle.report.proofs.Writing.{reports_none, reports_input, reports_run, fit_few}
use Rattle.report.proofs.report.Goals as goal

pub returns-then-out-lt-ROOM : goal.returns-then-out-lt-ROOM
returns-then-out-lt-ROOM c = reports_none _ _ _ _ c.if-out-lt-ROOM.true

pub returns-in-Err : goal.returns-in-Err
returns-in-Err c = reports_input _ _ _ _ c.if-out-lt-ROOM.false {f = c.in-Err.input} (sym c.in-Err.is ∙ c.judge.ensures) c.number-refusal.ensures c.put_input.ensures.puts (search rules)

pub put_run-requires : goal.put_run-requires
put_run-requires c = fit_few c.args.program.now c.args.memory.now c.args.schedule.now c.args.out.now c.if-out-lt-ROOM.false (sym c.in_default.is ∙ c.judge.ensures)

pub returns : goal.returns
returns c =
    reports_run _ _ _ _ c.if-out-lt-ROOM.false (sym c.in_default.is ∙ c.judge.ensures) c.put_run.ensures.text.puts (search rules) c.put_run.ensures.memory
