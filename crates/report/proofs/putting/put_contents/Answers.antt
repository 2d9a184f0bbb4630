-- `report::putting::put_contents` meets its contract: the counter, the registers and the cells, each behind the one before.
use Rattle.lines.proofs.Putting.{then}
use Rattle.report.specs.Report.{contents_text}
use Rattle.report.proofs.putting.put_contents.Goals as goal

pub returns : goal.returns
unfolding contents_text
returns c = then c.put_counter.ensures (then c.put_registers.ensures c.put_cells.ensures)
