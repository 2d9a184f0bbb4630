-- `renaming::working::Working::obey` meets its contract.
use Rattle.renaming.proofs.Going.{obeys_malformed, obeys_issue, obeys_apply}
use Rattle.renaming.proofs.working.Working.obey.Goals as goal

pub returns-in-Malformed : goal.returns-in-Malformed
returns-in-Malformed c = obeys_malformed c.args.program.now c.in-Malformed.is

pub returns-in-Issue : goal.returns-in-Issue
returns-in-Issue c = obeys_issue c.args.program.now c.in-Issue.is c.issue.ensures

pub returns-in-Apply : goal.returns-in-Apply
returns-in-Apply c = obeys_apply c.args.program.now c.in-Apply.is c.apply.ensures
