-- `renaming::working::Working::issue_at` meets its contract.
use mathlib.Core.Path.{sym, ap, ◌∙◌}
use mathlib.Core.Bool.{Bool}
use Rattle.rules.specs.Rules.{tag_suits}
use Rattle.renaming.proofs.Issuing.{issued-coded, issues}
use Rattle.renaming.proofs.working.Working.issue_at.Goals as goal

pub invariant_of-self : goal.invariant_of-self
invariant_of-self c = issued-coded c.self.invariant c.self.view_is c.args.t c.args.ia c.args.i c.if-self-ge-ROOM.false c.put.ensures c.rename.ensures

pub returns : goal.returns
returns c =
    issues c.self.invariant c.self.view_is c.args.t c.args.ia c.args.i c.if-self-ge-ROOM.false c.put.ensures c.rename.ensures
    (ap (λ (f : Bool). tag_suits f c.args.t c.args.i) (sym c.is_fresh.ensures) ∙ sym c.tag_suits.ensures ∙ c.if-not-tag_suits.false)
    c.work_for-work.ensures c.counter_after-self-inside.ensures
