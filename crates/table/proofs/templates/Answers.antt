-- `table::templates` meets its contract.
use mathlib.Core.Path.{ap, sym, ◌∙◌}
use native.Mathlib.Omega.{arith}
use lib.ListN.{replicate}
use Rattle.templates.specs.declared.Template.{Template}
use Rattle.templates.specs.Layout.{template}
use Rattle.rows.specs.Rows.{itb_of, blank_row}
use Rattle.rows.proofs.Walks.{long_maps, read_maps, lay_on, lay_end}
use Rattle.table.proofs.templates.Goals as goal

pub loop-i-init : goal.loop-i-init
loop-i-init c = record { same = ap (λ (x : Template). replicate 64 x) c.blank-out.ensures }

pub loop-i-preserved : goal.loop-i-preserved
loop-i-preserved c = let n = c.args.n in
    let ts = c.args.ts.now in
    let size = long_maps itb_of n ts template in
    lay_on c.loop-i.invariant (template (itb_of blank_row))
    (c.template.ensures ∙ sym (read_maps itb_of n ts template c.loop-i.i blank_row (omega (arith, c.held.ensures))))
    (omega (arith, size, c.held.ensures))
    (omega arith)

pub returns : goal.returns
returns c = lay_end c.loop-i.invariant (omega (arith, long_maps itb_of c.args.n c.args.ts.now template, c.held.ensures))
