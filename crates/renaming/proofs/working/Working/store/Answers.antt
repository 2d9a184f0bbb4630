-- `renaming::working::Working::store` meets its contract.
use mathlib.Core.Path.{sym, ◌∙◌}
use Rattle.std.proofs.lemmas.Result.{err_from_is_err_and}
use Rattle.renaming.proofs.Steps.{store-no, store-outside, store-done}
use Rattle.renaming.proofs.working.Working.store.Goals as goal

pub returns-in_err-address : goal.returns-in_err-address
returns-in_err-address c =
    let p = err_from_is_err_and c.from_residual.result c.from_residual.ensures.1 in
    rw (p.1, p.2) (store-no c.self.invariant c.self.view_is c.requires c.args.memory.now (sym c.store.ensures ∙ c.in_err-address.was))

pub returns-in_err-write_at : goal.returns-in_err-write_at
returns-in_err-write_at c =
    let p = err_from_is_err_and c.from_residual-in_err-write_at.result c.from_residual-in_err-write_at.ensures.1 in
    rw (p.1, p.2) (store-outside c.self.invariant c.self.view_is c.requires (sym c.store.ensures ∙ c.in_ok-address.was) c.write_at.ensures c.in_err-write_at.was)

pub returns : goal.returns
returns c = store-done c.self.invariant c.self.view_is c.requires (sym c.store.ensures ∙ c.in_ok-address.was) c.write_at.ensures c.in_ok-write_at.was c.remove.ensures
