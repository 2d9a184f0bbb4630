-- `renaming::issue::is_fresh` meets its contract.
use mathlib.Core.Path.{◌∙◌}
use Rattle.rows.proofs.Showing.{searched_makes}
use Rattle.renaming.proofs.issue.is_fresh.Goals as goal

pub returns : goal.returns
returns c = rw (c.produced.ensures ∙ searched_makes c.requires c.args.t)
