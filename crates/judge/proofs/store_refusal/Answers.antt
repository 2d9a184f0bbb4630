-- `judge::store_refusal` meets its contract.
use mathlib.Core.Path.{sym, ◌∙◌}
use Rattle.std.proofs.Common.{rules}
use Rattle.cells.specs.Cells.{cells}
use Rattle.judge.proofs.Asking.{stores_there, refused-alike}
use Rattle.judge.proofs.store_refusal.Goals as goal

pub returns : goal.returns
returns c =
    let m = cells c.args.memory.now in
    let there = stores_there m c.args.p c.args.ts.now (sym c.store.ensures ∙ c.in_ok-address.was) in
    rw (there, ← refused-alike m c.in_ok-address.address c.in_ok-address.field-0-1) (search rules)
