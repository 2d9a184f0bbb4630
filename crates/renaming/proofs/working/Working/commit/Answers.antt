-- `renaming::working::Working::commit` meets its contract.
use mathlib.Core.Path.{sym, ◌∙◌}
use Rattle.std.proofs.lemmas.Result.{err_from_is_err_and}
use Rattle.renaming.proofs.Steps.{commit-no, committed-coded, commit-done}
use Rattle.renaming.proofs.working.Working.commit.Goals as goal

pub returns-in_err-commit : goal.returns-in_err-commit
returns-in_err-commit c =
    let p = err_from_is_err_and c.from_residual.result c.from_residual.ensures.1 in
    rw (p.1, p.2) (commit-no c.self.invariant c.self.view_is c.requires (sym c.commit.ensures ∙ c.in_err-commit.was))

pub invariant_of-self : goal.invariant_of-self
invariant_of-self c = committed-coded c.self.invariant c.self.view_is c.requires c.tag.ensures c.value.ensures c.fill_registers.ensures

pub returns : goal.returns
returns c = commit-done c.self.invariant c.self.view_is c.requires c.tag.ensures c.value.ensures c.fill_registers.ensures (sym c.commit.ensures ∙ c.in_ok-commit.was)
