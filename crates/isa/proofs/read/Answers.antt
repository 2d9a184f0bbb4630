-- `isa::read` meets its contract.
use mathlib.Core.Path.{refl, ap, ◌∙◌}
use mathlib.Core.List.{List}
use borrow.Author.Tests.{eq-eqb, ne_eqb}
use lib.ListN.{get_elem?}
use Rattle.records.specs.declared.Record.{Record}
use Rattle.records.proofs.Leading.{read_is, read-none}
use Rattle.isa.specs.Instruction.{parse, read_of}
use Rattle.records.proofs.Basics.{same_some, some_not_none}
use Rattle.isa.proofs.Answers.{only_record}
use Rattle.isa.proofs.read.Goals as goal

pub returns-then-bytes-ne8 : goal.returns-then-bytes-ne8
unfolding read_of
returns-then-bytes-ne8 c = rw (ne_eqb _ _ c.if-bytes-ne8.true) refl

pub returns-in-Some : goal.returns-in-Some
unfolding read_of
returns-in-Some c = let b = c.args.bytes.now in
    let one = ap (λ (rs : List Record). get_elem? rs 0) (only_record b c.if-bytes-ne8.false) in
    rw (eq-eqb _ _ c.if-bytes-ne8.false)
    (c.parse.ensures ∙ ap (λ (r : Record). parse r) (same_some (read_is b 0 c.read.ensures c.in-Some.is) one))

pub returns-in-None : goal.returns-in-None
returns-in-None c = let b = c.args.bytes.now in
    let one = ap (λ (rs : List Record). get_elem? rs 0) (only_record b c.if-bytes-ne8.false) in
    some_not_none one (read-none b 0 c.read.ensures c.in-None.is)
