-- `listing::put_loadc` meets its contract: four texts, each behind the one before.
use mathlib.Core.Path.{ap}
use Rattle.text.specs.Text.{decimal}
use Rattle.text.proofs.Pages.{adds_as, adds}
use Rattle.listing.specs.Listing.{body_text}
use Rattle.listing.proofs.put_loadc.Goals as goal

pub returns : goal.returns
unfolding body_text
returns c = adds c.put_reg.ensures (adds c.put.ensures (adds (adds_as c.put_decimal.ensures (ap decimal c.from.ensures)) c.put-2.ensures))
