-- `listing::put_line` meets its contract: four texts, each behind the one before.
use mathlib.Core.Path.{ap}
use Rattle.text.specs.Text.{decimal}
use Rattle.text.proofs.Pages.{adds_as, adds}
use Rattle.listing.specs.Listing.{line_text}
use Rattle.listing.proofs.put_line.Goals as goal

pub returns : goal.returns
unfolding line_text
returns c = adds (adds_as c.put_decimal.ensures (ap decimal c.from.ensures)) (adds c.put.ensures (adds c.put_body.ensures c.put-2.ensures))
