-- `listing::put_op` meets its contract: four texts, each behind the one before.
use Rattle.text.proofs.Pages.{adds}
use Rattle.listing.specs.Listing.{body_text}
use Rattle.listing.proofs.put_op.Goals as goal

pub returns : goal.returns
unfolding body_text
returns c = adds c.put_reg.ensures (adds c.put.ensures (adds c.put_name.ensures c.put_pair.ensures))
