-- `listing::put_pair` meets its contract: five texts, each behind the one before.
use Rattle.text.proofs.Pages.{adds}
use Rattle.listing.specs.Listing.{pair_text}
use Rattle.listing.proofs.put_pair.Goals as goal

pub returns : goal.returns
unfolding pair_text
returns c = adds c.put.ensures (adds c.put_reg.ensures (adds c.put-2.ensures (adds c.put_reg-2.ensures c.put-3.ensures)))
