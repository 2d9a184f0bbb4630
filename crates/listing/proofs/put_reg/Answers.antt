-- `listing::put_reg` meets its contract: two texts, one behind the other.
use mathlib.Core.Path.{ap}
use Rattle.text.specs.Text.{decimal}
use Rattle.text.proofs.Pages.{adds_as, adds}
use Rattle.listing.specs.Listing.{reg_text}
use Rattle.listing.proofs.put_reg.Goals as goal

pub returns : goal.returns
unfolding reg_text
returns c = adds c.put.ensures (adds_as c.put_decimal.ensures (ap decimal c.from.ensures))
