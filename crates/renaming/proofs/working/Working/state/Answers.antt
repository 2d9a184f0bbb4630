-- `renaming::working::Working::state` meets its contract.
use Rattle.renaming.proofs.Turning.{state_back}
use Rattle.renaming.proofs.working.Working.state.Goals as goal

pub returns : goal.returns
returns c = state_back c.self.invariant c.self.view_is c.templates.ensures c.registers.ensures
