-- `rows::searches::produced` meets its contract.
use mathlib.Core.Path.{◌∙◌}
use borrow.Author.Rules.{rules}
use borrow.Author.Tests.{tests}
use mathlib.Core.Bool.{Bool}
use lib.Dec.{eqb}
use lib.ListN.{take}
use Rattle.std.proofs.lemmas.Iterator.{YieldsList-from_slice, YieldsList-from_take}
use Rattle.std.proofs.lemmas.Iterator.Search.{any_from_yields_List}
use Rattle.isa.specs.declared.Tag.{Tag}
use Rattle.rows.specs.Rows.{Row, tag_of, head}
use Rattle.rows.proofs.Walks.{any_is}
use Rattle.rows.proofs.searches.produced.Goals as goal

abbrev test : Tag → Row → Bool
test t x = eqb (tag_of (head x)).0 t.0

pub returns : goal.returns
returns c = any_from_yields_List (test c.args.t) _ _ _ c.any.ensures.ran (YieldsList-from_take c.args.n (YieldsList-from_slice c.args.ts.now cc) cc) (λ x b q k. search (rules, tests)) ∙ any_is (test c.args.t) (take c.args.n c.args.ts.now)
