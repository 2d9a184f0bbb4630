-- `renaming::working::Working::no_jump` meets its contract.
use mathlib.Core.Path.{sym, ◌∙◌}
use Rattle.std.proofs.lemmas.Result.{err_from_is_err_and}
use native.Mathlib.Omega.{arith}
use Rattle.renaming.proofs.Steps.{fall-no, fall-done, within_here}
use Rattle.renaming.proofs.working.Working.no_jump.Goals as goal

pub returns-in_err-no_jump : goal.returns-in_err-no_jump
returns-in_err-no_jump c =
    let p = err_from_is_err_and c.from_residual.result c.from_residual.ensures.1 in
    rw (p.1, p.2) (fall-no c.self.invariant c.self.view_is c.requires.0 (sym c.no_jump.ensures ∙ c.in_err-no_jump.was))

pub overflow_add-self : goal.overflow_add-self
overflow_add-self c =
    let near = within_here c.self.invariant c.self.view_is c.requires.0 c.requires.1 in
    rw c.address-at.ensures (omega (arith, near))

pub returns : goal.returns
returns c = fall-done c.self.invariant c.self.view_is c.requires.0 (c.self-2.view_is ∙ c.remove.ensures) (sym c.no_jump.ensures ∙ c.in_ok-no_jump.was) c.address-at.ensures
