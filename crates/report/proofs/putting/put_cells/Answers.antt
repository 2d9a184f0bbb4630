-- `report::putting::put_cells` meets its contract: each cell behind the ones before.
use mathlib.Core.Path.{sym, ◌∙◌}
use native.Mathlib.Omega.{arith}
use lib.ListN.{drop}
use Rattle.cells.specs.Cells.{cells}
use Rattle.lines.proofs.Looping.{going-none, going_more, going-all}
use Rattle.lines.specs.Lines.{cell_text}
use Rattle.report.proofs.Loading.{loaded-first, loaded_past, cells-end}
use Rattle.report.proofs.putting.put_cells.Goals as goal

pub loop-i-init : goal.loop-i-init
loop-i-init c = going-none cell_text (λ n. drop n (cells c.args.memory.now)) c.args.page.now

pub loop-i-preserved : goal.loop-i-preserved
loop-i-preserved c = going_more cell_text (λ n. drop n (cells c.args.memory.now)) _ c.loop-i.invariant (loaded-first _ _ c.in-Ok.ensures) c.put_value.ensures

pub returns-in_default : goal.returns-in_default
returns-in_default c =
    going-all cell_text (λ n. drop n (cells c.args.memory.now)) _ c.loop-i.invariant (loaded_past _ _ (sym c.in_default.is ∙ c.load.ensures)) (omega arith)

pub returns : goal.returns
returns c = going-all cell_text (λ n. drop n (cells c.args.memory.now)) _ c.loop-i.invariant (cells-end _ _ (omega arith)) (omega arith)
