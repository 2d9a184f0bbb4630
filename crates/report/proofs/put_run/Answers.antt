-- `report::put_run` meets its contract: what the run, the drain and the lines promise is put together.
use Rattle.report.proofs.Telling.{run-told}
use Rattle.report.proofs.put_run.Goals as goal

pub returns : goal.returns
returns c =
    run-told c.start.ensures c.run-ran.ensures c.drain-end.ensures c.refusal_of-refused.ensures c.put_ran.ensures c.put_end.ensures c.put_contents.ensures
