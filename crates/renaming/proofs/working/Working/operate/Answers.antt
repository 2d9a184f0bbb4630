-- `renaming::working::Working::operate` meets its contract.
use mathlib.Core.Path.{sym, ◌∙◌}
use Rattle.std.proofs.lemmas.Result.{err_from_is_err_and}
use Rattle.renaming.proofs.Steps.{finished-coded, operate-no, operate-done}
use Rattle.renaming.proofs.working.Working.operate.Goals as goal

pub returns-in_err-v : goal.returns-in_err-v
returns-in_err-v c =
    let p = err_from_is_err_and c.from_residual.result c.from_residual.ensures.1 in
    rw (p.1, p.2) (operate-no c.self.invariant c.self.view_is c.requires (sym c.operate.ensures ∙ c.in_err-v.was))

pub invariant_of-self : goal.invariant_of-self
invariant_of-self c = finished-coded c.self.invariant c.self.view_is c.requires c.finish.ensures

pub returns : goal.returns
returns c = operate-done c.self.invariant c.self.view_is c.requires c.finish.ensures (sym c.operate.ensures ∙ c.in_ok-v.was)
