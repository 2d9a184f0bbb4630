-- `renaming::working::Working::retire` meets its contract.
use mathlib.Core.Path.{sym, ◌∙◌}
use Rattle.std.proofs.lemmas.Result.{err_from_is_err_and}
use Rattle.renaming.proofs.Steps.{retire-no, retire-done}
use Rattle.renaming.proofs.working.Working.retire.Goals as goal

pub returns-in_err-retire : goal.returns-in_err-retire
returns-in_err-retire c =
    let p = err_from_is_err_and c.from_residual.result c.from_residual.ensures.1 in
    rw (p.1, p.2) (retire-no c.self.invariant c.self.view_is c.requires (sym c.retire.ensures ∙ c.in_err-retire.was))

pub returns : goal.returns
returns c = retire-done c.self.invariant c.self.view_is c.requires (sym c.retire.ensures ∙ c.in_ok-retire.was) c.remove.ensures
