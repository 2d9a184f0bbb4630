-- `table::templates` meets its contract.
use mathlib.Core.List.{map}
use Rattle.templates.specs.Layout.{template, blank}
use Rattle.rows.specs.Shown.{held_of}
use Rattle.rows.proofs.Walks.{Laying}
use Rattle.table.proofs.templates.Given as goal

abbrev pub invariant-loop-i : goal.invariant-loop-i
invariant-loop-i l = Laying blank 64 (map template (held_of l.n l.ts)) l.out l.i
