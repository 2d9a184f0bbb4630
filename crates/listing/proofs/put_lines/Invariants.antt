-- `listing::put_lines` keeps at its loop what the lines that remain complete to the listing.
use Rattle.text.proofs.Numbered.{Added}
use Rattle.listing.specs.Listing.{line_text}
use Rattle.listing.proofs.Fetched.{rest}
use Rattle.listing.proofs.put_lines.Given as goal

abbrev pub invariant-loop-address : goal.invariant-loop-address
invariant-loop-address l = Added line_text (rest l.program) l.initial.page l.address l.page
