-- `renaming::working::Working::issue` meets its contract.
use mathlib.Core.Path.{sym, ap, ◌∙◌}
use Rattle.std.proofs.lemmas.Result.{err_from_is_err_and}
use Rattle.isa.specs.Program.{program as instructions}
use Rattle.isa.proofs.Programs.{fetched-program, fetched-inside, decoded-fetched}
use Rattle.templates.specs.Machine.{Mach}
use Rattle.renaming.proofs.Issuing.{issue-stalled, issue-none, issue-there}
use Rattle.renaming.proofs.working.Working.issue.Goals as goal

pub returns-in_default : goal.returns-in_default
returns-in_default c = issue-stalled (instructions c.args.program.now) c.args.t c.args.self.now (sym (ap (λ (x : Mach). x.counter) c.self.view_is) ∙ c.in_default.is)

pub returns-in_err-i : goal.returns-in_err-i
returns-in_err-i c =
    let p = err_from_is_err_and c.from_residual.result c.from_residual.ensures.1 in
    let b = c.args.program.now in
    let ia = c.in-At.ia in
    rw (p.1, p.2)
    (issue-none (instructions b) c.args.t c.args.self.now (sym (ap (λ (x : Mach). x.counter) c.self.view_is) ∙ c.in-At.is)
    (sym (fetched-program b c.requires ia) ∙ sym (decoded-fetched b c.requires ia) ∙ sym c.decode.ensures ∙ c.in_err-i.was))

pub issue_at-requires : goal.issue_at-requires
issue_at-requires c =
    let b = c.args.program.now in
    let ia = c.in-At.ia in
    (fetched-inside b c.requires ia _ (sym (decoded-fetched b c.requires ia) ∙ sym c.decode.ensures ∙ c.in_ok-i.was)).0

pub returns : goal.returns
returns c =
    let b = c.args.program.now in
    let ia = c.in-At.ia in
    issue-there (instructions b) c.args.t c.args.self.now (sym (ap (λ (x : Mach). x.counter) c.self.view_is) ∙ c.in-At.is)
    (sym (fetched-program b c.requires ia) ∙ sym (decoded-fetched b c.requires ia) ∙ sym c.decode.ensures ∙ c.in_ok-i.was) c.issue_at.ensures
