-- The checks of a program and a memory, in order: 1 for either, then 2, then 3.
use Rattle.std.specs.Prelude.{cond, ◌&&◌, List, ℕ, Result, Ok, Err}
use Rattle.records.specs.declared.Refusal.TheVariants.{BadLength}
use Rattle.records.specs.declared.Fault.{Fault}
use Rattle.records.specs.Records.{is_whole}
use Rattle.records.specs.Scan.{refused}
use Rattle.isa.specs.Program as Program
use Rattle.cells.specs.Cells as Cells

-- the first refusal of two
abbrev pub first : Result Unit Fault → Result Unit Fault → Result Unit Fault
first (Ok x) w = w
first (Err f) w = Err f

unfoldable pub checked : List ℕ → List ℕ → Result Unit Fault
checked p b = cond (is_whole p && is_whole b) (first (Program.scan_of p) (Cells.scan_of b)) (refused BadLength 0)

-- the work, unless the checks refuse
abbrev pub if_checked : {A : Type 0} → Result Unit Fault → A → A → A
if_checked (Ok x) work refused = work
if_checked (Err f) work refused = refused
