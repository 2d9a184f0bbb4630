-- `listing::put_body` meets its contract: a text for each kind of instruction.
use mathlib.Core.Path.{sym, ap}
use Rattle.text.proofs.Pages.{adds_as, adds}
use Rattle.listing.specs.Listing.{body_text}
use Rattle.listing.proofs.put_body.Goals as goal

pub returns-in-Loadc : goal.returns-in-Loadc
returns-in-Loadc c = adds_as c.put_loadc.ensures (sym (ap body_text c.in-Loadc.is))

pub returns-in-Loadpc : goal.returns-in-Loadpc
unfolding body_text
returns-in-Loadpc c = adds_as (adds c.put_reg.ensures c.put.ensures) (sym (ap body_text c.in-Loadpc.is))

pub returns-in-Op : goal.returns-in-Op
returns-in-Op c = adds_as c.put_op.ensures (sym (ap body_text c.in-Op.is))

pub returns-in-Jz : goal.returns-in-Jz
unfolding body_text
returns-in-Jz c = adds_as (adds c.put-in-Jz.ensures c.put_pair.ensures) (sym (ap body_text c.in-Jz.is))

pub returns-in-Load : goal.returns-in-Load
returns-in-Load c = adds_as c.put_load.ensures (sym (ap body_text c.in-Load.is))

pub returns-in-Store : goal.returns-in-Store
unfolding body_text
returns-in-Store c = adds_as (adds c.put-in-Store.ensures c.put_pair-in-Store.ensures) (sym (ap body_text c.in-Store.is))
