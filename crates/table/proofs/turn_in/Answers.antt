-- `table::turn_in` meets its contract.
use mathlib.Core.Path.{◌≡◌, sym, ◌∙◌}
use native.Mathlib.Omega.{arith}
use lib.ListN.{length}
use lib.Seq.{take_all}
use borrow.Author.Rules.{rules}
use Rattle.templates.specs.Layout.{places}
use Rattle.rows.proofs.Showing.{shows-none, turned_more, turned-whole}
use Rattle.table.proofs.turn_in.Goals as goal

pub loop-i-init : goal.loop-i-init
loop-i-init c = (shows-none _, search rules)

pub loop-i-preserved : goal.loop-i-preserved
loop-i-preserved c =
    let long : length c.args.ts.now ≡ places = search rules in (
      turned_more c.args.ts.now c.loop-i.invariant.0 (omega (arith, c.loop-i.invariant.1, c.loop-i-test.true)) (omega (arith, long, c.loop-i-test.true)) c.put.ensures,
      c.put.auto.ts ∙ c.loop-i.invariant.1,
    )

pub returns : goal.returns
returns c =
    let long : length c.args.ts.now ≡ places = search rules in
    let shown = turned-whole c.args.ts.now long c.loop-i.invariant.0 (omega arith) in
    record { rows = sym (take_all places c.loop-i.out (omega (arith, c.loop-i.invariant.1))) ∙ shown.rows; long = long; small = shown.small }
