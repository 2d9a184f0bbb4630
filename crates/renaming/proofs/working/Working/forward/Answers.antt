-- `renaming::working::Working::forward` meets its contract.
use mathlib.Core.Path.{sym, ◌∙◌}
use Rattle.std.proofs.lemmas.Result.{err_from_is_err_and}
use Rattle.renaming.proofs.Steps.{forward-no, forwarded-coded, forward-done}
use Rattle.renaming.proofs.working.Working.forward.Goals as goal

pub returns-in_err-forward : goal.returns-in_err-forward
returns-in_err-forward c =
    let p = err_from_is_err_and c.from_residual.result c.from_residual.ensures.1 in
    rw (p.1, p.2) (forward-no c.self.invariant c.self.view_is c.requires (sym c.forward.ensures ∙ c.in_err-forward.was))

pub invariant_of-self : goal.invariant_of-self
invariant_of-self c = forwarded-coded c.self.invariant c.self.view_is c.requires (sym c.forward.ensures ∙ c.in_ok-forward.was) c.fill_behind.ensures

pub returns : goal.returns
returns c = forward-done c.self.invariant c.self.view_is c.requires (sym c.forward.ensures ∙ c.in_ok-forward.was) c.fill_behind.ensures
