-- `renaming::working::Working::blocking` meets its contract.
use Rattle.cells.specs.Cells.{cells}
use Rattle.renaming.proofs.Turning.{oldest_blocks}
use Rattle.renaming.proofs.working.Working.blocking.Goals as goal

pub returns : goal.returns
returns c = oldest_blocks c.self.invariant c.self.view_is c.if-self-eq0.false (cells c.args.memory.now) c.template.ensures c.asks-asked.ensures c.refusal_on.ensures
