-- `rows::searches::held_behind` meets its contract.
use mathlib.Core.Path.{ap, ◌∙◌}
use Prim.Native.Nat.{ℕ, ◌+◌}
use lib.ListN.{take, drop}
use Rattle.templates.specs.Templates.{any}
use Rattle.rows.specs.Rows.{holds_row, waiting, tag_at}
use Rattle.rows.proofs.Walks.{sought_in, sought_out}
use Rattle.rows.proofs.searches.held_behind.Goals as goal

pub returns-then-p-end : goal.returns-then-p-end
returns-then-p-end c = sought_out _ c.args.n c.args.p c.args.ts.now c.held-end.ensures (holds_row (waiting (tag_at c.args.ts.now c.args.p))) c.if-p-end.true

pub returns : goal.returns
returns c = c.held_from.ensures ∙ ap (λ (k : ℕ). any (holds_row k) (drop (c.args.p + 1) (take c.held-end.result c.args.ts.now))) (c.waiting-tag.ensures ∙ ap waiting c.tag.ensures) ∙ sought_in _ c.args.n c.args.p c.args.ts.now c.held-end.ensures (holds_row (waiting (tag_at c.args.ts.now c.args.p)))
