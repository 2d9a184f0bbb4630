-- `listing::list` meets its contract: the lines of an accepted program all have room.
use borrow.Author.Rules.{rules}
use Rattle.listing.proofs.Checked.{accepted_few, lists_all}
use Rattle.listing.proofs.list.Goals as goal

pub put_lines-requires : goal.put_lines-requires
put_lines-requires c = accepted_few c.args.program.now c.args.out.now c.in_ok-check.ensures

pub returns : goal.returns
returns c = lists_all _ _ c.in_ok-check.ensures (λ i. (c.type_inv.program i).fits) c.put_lines.ensures.text (search rules)
