-- `rows::searches::held_from` meets its contract.
use Prim.Native.Nat.{◌-◌}
use mathlib.Core.List.{[]}
use lib.ListN.{length, take, drop, get_or}
use Rattle.templates.specs.Templates.{any}
use Rattle.templates.proofs.Seeking.{Seeking}
use Rattle.rows.specs.Rows.{holds_row}
use Rattle.rows.proofs.Walks.{Asked}
use Rattle.rows.proofs.searches.held_from.Given as goal

abbrev pub invariant-loop-j : goal.invariant-loop-j
invariant-loop-j l = Asked l.tag (get_or l.ts l.i []) l.j

abbrev pub decreases-loop-j : goal.decreases-loop-j
decreases-loop-j l = 3 - l.j

abbrev pub invariant-walk : goal.invariant-walk
invariant-walk l = Seeking (holds_row l.tag) (length l.ts) l.n l.ts l.i (any (holds_row l.tag) (drop l.from (take l.n l.ts)))

abbrev pub decreases-walk : goal.decreases-walk
decreases-walk l = l.n - l.i
