-- `isa::fetch` meets its contract.
use mathlib.Core.Path.{refl, ◌∙◌}
use Rattle.records.proofs.Leading.{read_is, read-none}
use Rattle.isa.specs.Program.{fetched}
use Rattle.isa.proofs.fetch.Goals as goal

pub returns-in-Some : goal.returns-in-Some
unfolding fetched
returns-in-Some c = let here = read_is c.args.program.now c.args.at.0 c.read.ensures c.in-Some.is in
    c.parse.ensures ∙ rw here refl

pub returns-in-None : goal.returns-in-None
unfolding fetched
returns-in-None c = let past = read-none c.args.program.now c.args.at.0 c.read.ensures c.in-None.is in
    rw past refl
