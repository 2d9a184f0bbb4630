-- `rows::changes::fill_behind` meets its contract.
use mathlib.Core.Path.{◌≡◌}
use Prim.Native.Nat.{ℕ, suc, ◌+◌, ◌<◌, min}
use native.Mathlib.Numerals.{add-one}
use mathlib.Core.List.{List}
use lib.ListN.{length}
use Rattle.rows.specs.Rows.{Row, one, waiting, row_at, tag_at, fill_row, among, map_from, filled_behind}
use Rattle.rows.proofs.Walks.{changed_in, changed_out}
use Rattle.rows.proofs.changes.fill_behind.Goals as goal

-- from place i on, of the value and the tag at place p
abbrev filling : List Row → ℕ → ℕ → List Row → List Row
filling ts p i = map_from (fill_row (waiting (tag_at ts p)) (one (row_at ts p))) i

behind : (k n p : ℕ) (ts : List Row) → k ≡ min n (length ts) → p < k → among k (filling ts p (p + 1)) ts ≡ filled_behind n p ts
behind k n p ts e h = rw add-one (changed_in k n p ts e (filling ts p (suc p)) h)

pub returns-then-p-end : goal.returns-then-p-end
returns-then-p-end c = changed_out _ c.args.n c.args.p c.args.ts.now c.held-end.ensures (filling c.args.ts.now c.args.p (suc c.args.p)) c.if-p-end.true

pub returns : goal.returns
returns c = rw (c.fill_from.ensures, c.waiting-tag.ensures, c.tag.ensures, c.row.ensures) (behind _ c.args.n c.args.p c.args.ts.now c.held-end.ensures c.if-p-end.false)
