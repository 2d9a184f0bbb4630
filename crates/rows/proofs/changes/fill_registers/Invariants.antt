-- `rows::changes::fill_registers` meets its contract.
use mathlib.Core.List.{map}
use lib.ListN.{length}
use Rattle.rows.specs.Rows.{fill_number}
use Rattle.rows.proofs.Walks.{Mapping}
use Rattle.rows.proofs.changes.fill_registers.Given as goal

abbrev pub invariant-loop-x : goal.invariant-loop-x
invariant-loop-x l = Mapping (fill_number l.tag l.k) (length l.initial.rf) l.rf l.x-index (map (fill_number l.tag l.k) l.initial.rf)
