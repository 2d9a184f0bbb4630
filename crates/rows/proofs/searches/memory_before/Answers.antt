-- `rows::searches::memory_before` meets its contract.
use mathlib.Core.Path.{◌∙◌}
use borrow.Author.Rules.{rules}
use borrow.Author.Tests.{tests}
use mathlib.Core.Bool.{Bool}
use lib.Dec.{leb}
use lib.ListN.{take}
use Rattle.std.proofs.lemmas.Iterator.{YieldsList-from_slice, YieldsList-from_take}
use Rattle.std.proofs.lemmas.Iterator.Search.{any_from_yields_List}
use Rattle.rows.specs.Rows.{Row, a_load, kind_of, head}
use Rattle.rows.proofs.Walks.{any_is}
use Rattle.rows.proofs.searches.memory_before.Goals as goal

abbrev test : Row → Bool
test x = leb a_load (kind_of (head x))

pub returns : goal.returns
returns c = any_from_yields_List test _ _ _ c.any.ensures.ran (YieldsList-from_take c.args.n (YieldsList-from_slice c.args.ts.now cc) cc) (λ x b q k. search (rules, tests)) ∙ any_is test (take c.args.n c.args.ts.now)
