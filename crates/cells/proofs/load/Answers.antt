-- `cells::load` meets its contract.
use mathlib.Core.Path.{refl, ap}
use Rattle.records.proofs.Leading.{read_is, read-none}
use Rattle.std.specs.Prelude.{Ok}
use Rattle.cells.specs.Cells.{load_from}
use Rattle.cells.proofs.Memory.{cell_at, cell_past}
use Rattle.cells.proofs.load.Goals as goal

pub returns-in-Some : goal.returns-in-Some
unfolding load_from
returns-in-Some c = let m = c.args.memory.now in
    let a = c.args.at.0 in
    let here = cell_at m a (read_is m a c.read.ensures c.in-Some.is) in
    rw here (ap Ok c.value_of.ensures)

pub returns-in-None : goal.returns-in-None
unfolding load_from
returns-in-None c = let m = c.args.memory.now in
    let a = c.args.at.0 in
    let past = cell_past m a (read-none m a c.read.ensures c.in-None.is) in
    rw past refl
