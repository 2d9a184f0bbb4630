-- `renaming::issue::rename` meets its contract.
use mathlib.Core.Path.{refl}
use Rattle.renaming.proofs.Issuing.{renames}
use Rattle.renaming.proofs.issue.rename.Goals as goal

pub returns-in-Loadc : goal.returns-in-Loadc
returns-in-Loadc c = renames c.requires c.args.t c.in-Loadc.is _ refl c.hold.ensures

pub returns-in-Loadpc : goal.returns-in-Loadpc
returns-in-Loadpc c = renames c.requires c.args.t c.in-Loadpc.is _ refl c.hold-in-Loadpc.ensures

pub returns-in-Op : goal.returns-in-Op
returns-in-Op c = renames c.requires c.args.t c.in-Op.is _ refl c.hold-in-Op.ensures

pub returns-in-Load : goal.returns-in-Load
returns-in-Load c = renames c.requires c.args.t c.in-Load.is _ refl c.hold-in-Load.ensures
