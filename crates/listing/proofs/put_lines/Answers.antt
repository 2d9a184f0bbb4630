-- `listing::put_lines` meets its contract: at each turn the lines that remain complete the listing.
use native.Mathlib.Omega.{arith}
use mathlib.Core.Path.{sym, ◌∙◌}
use Rattle.text.proofs.Numbered.{added_more, added_all}
use Rattle.isa.specs.Program.{program}
use Rattle.listing.specs.Listing.{line_text, listing}
use Rattle.listing.proofs.Fetched.{rest, fetched-first, fetched-none, rest-end}
use Rattle.listing.proofs.put_lines.Goals as goal

pub loop-address-preserved : goal.loop-address-preserved
loop-address-preserved c =
    let first = fetched-first _ _ c.in-Ok.ensures in
    added_more line_text (rest c.args.program.now) _ c.loop-address.invariant first c.put_line.ensures

pub returns-in_default : goal.returns-in_default
unfolding listing program
returns-in_default c = added_all line_text (rest c.args.program.now) _ c.loop-address.invariant (fetched-none _ _ (sym c.in_default.is ∙ c.fetch.ensures))

pub returns : goal.returns
unfolding listing program
returns c = added_all line_text (rest c.args.program.now) _ c.loop-address.invariant (rest-end _ _ (omega arith))
