-- `rows::changes::fill_from` meets its contract.
use Prim.Native.Nat.{min}
use lib.ListN.{length, take}
use Rattle.rows.specs.Rows.{map_from, fill_row}
use Rattle.rows.proofs.Walks.{Mapping, Among}
use Rattle.rows.proofs.changes.fill_from.Given as goal

abbrev pub invariant-loop-i : goal.invariant-loop-i
invariant-loop-i l = Among (length l.initial.ts) l.n l.initial.ts l.ts × Mapping (fill_row l.tag l.v) (min l.n (length l.initial.ts)) (take l.n l.ts) l.i (map_from (fill_row l.tag l.v) l.from (take l.n l.initial.ts))
