-- `renaming::working::Working::apply` meets its contract.
use Rattle.renaming.proofs.Steps.{past}
use Rattle.renaming.proofs.working.Working.apply.Goals as goal

pub returns-then-p-self : goal.returns-then-p-self
returns-then-p-self c = past c.self.invariant c.self.view_is c.args.rule c.args.memory.now c.if-p-self.true
