-- `report::putting::put_cells` keeps at its loop that the cells before the next are put.
use lib.ListN.{drop}
use Rattle.cells.specs.Cells.{cells}
use Rattle.lines.proofs.Looping.{Going}
use Rattle.lines.specs.Lines.{cell_text}
use Rattle.report.proofs.putting.put_cells.Given as goal

abbrev pub invariant-loop-i : goal.invariant-loop-i
invariant-loop-i l = Going cell_text (λ n. drop n (cells l.memory)) l.initial.page l.i l.page
