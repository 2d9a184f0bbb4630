-- `renaming::working::Working::remove` meets its contract.
use Rattle.renaming.proofs.Steps.{removed-coded, removed}
use Rattle.renaming.proofs.working.Working.remove.Goals as goal

pub invariant_of-self : goal.invariant_of-self
invariant_of-self c = removed-coded c.self.invariant c.self.view_is c.requires c.remove.ensures

pub returns : goal.returns
returns c = removed c.self.invariant c.self.view_is c.requires c.remove.ensures
