-- `renaming::working::Working::jump` meets its contract.
use mathlib.Core.Path.{sym, ◌∙◌}
use Rattle.std.proofs.lemmas.Result.{err_from_is_err_and}
use Rattle.renaming.proofs.Steps.{jump-no, jump-done}
use Rattle.renaming.proofs.working.Working.jump.Goals as goal

pub returns-in_err-to : goal.returns-in_err-to
returns-in_err-to c =
    let p = err_from_is_err_and c.from_residual.result c.from_residual.ensures.1 in
    rw (p.1, p.2) (jump-no c.self.invariant c.self.view_is c.requires (sym c.jump.ensures ∙ c.in_err-to.was))

pub returns : goal.returns
returns c = jump-done c.self.invariant c.self.view_is c.requires (c.self-2.view_is ∙ c.remove.ensures) (sym c.jump.ensures ∙ c.in_ok-to.was)
