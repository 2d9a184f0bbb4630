-- `report::contents` meets its contract: nothing is written, or what the machine holds.
use borrow.Author.Rules.{rules}
use Rattle.report.proofs.Writing.{shows-none, shows_few, shows-all}
use Rattle.report.proofs.contents.Goals as goal

pub returns-then-not-is_whole-out : goal.returns-then-not-is_whole-out
returns-then-not-is_whole-out c = shows-none _ _ _ (rw (← c.is_whole.ensures) c.if-not-is_whole-out.true)

pub put_contents-requires : goal.put_contents-requires
put_contents-requires c = shows_few c.args.state c.args.memory.now c.args.out.now (rw (← c.is_whole.ensures) c.if-not-is_whole-out.false)

pub returns : goal.returns
returns c =
    shows-all c.args.state c.args.memory.now c.args.out.now (rw (← c.is_whole.ensures) c.if-not-is_whole-out.false) c.put_contents.ensures.puts (search rules)
