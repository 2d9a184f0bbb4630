-- `renaming::working::Working::load` meets its contract.
use mathlib.Core.Path.{sym, ◌∙◌}
use Rattle.std.proofs.lemmas.Result.{err_from_is_err_and}
use Rattle.cells.specs.Cells.{cells}
use Rattle.renaming.proofs.Steps.{finished-coded, load-no, load-done}
use Rattle.renaming.proofs.working.Working.load.Goals as goal

pub returns-in_err-v : goal.returns-in_err-v
returns-in_err-v c =
    let p = err_from_is_err_and c.from_residual.result c.from_residual.ensures.1 in
    rw (p.1, p.2) (load-no c.self.invariant c.self.view_is c.requires (cells c.args.memory.now) (sym c.load.ensures ∙ c.in_err-v.was))

pub invariant_of-self : goal.invariant_of-self
invariant_of-self c = finished-coded c.self.invariant c.self.view_is c.requires c.finish.ensures

pub returns : goal.returns
returns c = load-done c.self.invariant c.self.view_is c.requires c.finish.ensures (cells c.args.memory.now) (sym c.load.ensures ∙ c.in_ok-v.was)
