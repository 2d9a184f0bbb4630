-- `rows::searches::filled_from` meets its contract.
use mathlib.Core.Path.{◌∙◌}
use borrow.Author.Rules.{rules}
use borrow.Author.Tests.{tests}
use lib.ListN.{drop}
use Rattle.std.proofs.lemmas.Iterator.{YieldsList-from_slice}
use Rattle.std.proofs.lemmas.Iterator.Adapters.{YieldsList-from_skip}
use Rattle.std.proofs.lemmas.Iterator.Search.{any_from_yields_List}
use Rattle.rows.specs.Rows.{is_filled}
use Rattle.rows.proofs.Walks.{any_is}
use Rattle.rows.proofs.searches.filled_from.Goals as goal

pub returns : goal.returns
returns c = any_from_yields_List is_filled _ _ _ c.any.ensures.ran (YieldsList-from_skip c.args.from (YieldsList-from_slice c.args.ts.now cc) cc) (λ x b q k. search (rules, tests)) ∙ any_is is_filled (drop c.args.from c.args.ts.now)
