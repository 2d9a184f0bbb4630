-- `sound::sound_on` meets its contract.
use mathlib.Core.Path.{◌≡◌, sym, ap, ◌∙◌}
use mathlib.Core.Bool.{false}
use borrow.Author.Tests.{le-leb, lt-leb}
use Rattle.rows.specs.Shown.{held_of, regs_of}
use Rattle.sound.specs.Sound.{Produced, none, templates_ok, registers_ok}
use Rattle.sound.proofs.Turned.{tests_on}
use Rattle.sound.proofs.sound_on.Goals as goal

pub returns-then-n-gt-ROOM : goal.returns-then-n-gt-ROOM
returns-then-n-gt-ROOM c = rw (lt-leb _ _ c.if-n-gt-ROOM.true)

pub returns-then-n-ts : goal.returns-then-n-ts
returns-then-n-ts c = rw (le-leb _ _ c.if-n-gt-ROOM.false, lt-leb _ _ c.if-n-ts.true)

pub returns-then-filled_from : goal.returns-then-filled_from
returns-then-filled_from c = rw (le-leb _ _ c.if-n-gt-ROOM.false, le-leb _ _ c.if-n-ts.false, sym c.filled_from.ensures ∙ c.if-filled_from.true)

pub returns-in_default : goal.returns-in_default
returns-in_default c =
    let a = c.args in
    let bad : templates_ok a.instructions none (held_of a.n a.ts.now) ≡ false = c.in_default.ensures in
    rw (le-leb _ _ c.if-n-gt-ROOM.false, le-leb _ _ c.if-n-ts.false, sym c.filled_from.ensures ∙ c.if-filled_from.false, tests_on a.instructions a.c a.n a.ts.now a.rf.now c.if-n-gt-ROOM.false c.if-n-ts.false, bad)

pub returns-then-not-registers_ok : goal.returns-then-not-registers_ok
returns-then-not-registers_ok c =
    let a = c.args in
    let checked = c.in-Some.ensures in
    let registers = sym (ap (λ (made : Produced). registers_ok made (regs_of a.rf.now)) checked.1) ∙ sym c.registers_ok.ensures ∙ c.if-not-registers_ok.true in
    rw (le-leb _ _ c.if-n-gt-ROOM.false, le-leb _ _ c.if-n-ts.false, sym c.filled_from.ensures ∙ c.if-filled_from.false, tests_on a.instructions a.c a.n a.ts.now a.rf.now c.if-n-gt-ROOM.false c.if-n-ts.false, checked.0, registers)

pub counter_ok-requires : goal.counter_ok-requires
counter_ok-requires c = (c.if-n-gt-ROOM.false, c.if-n-ts.false)

pub returns : goal.returns
returns c =
    let a = c.args in
    let checked = c.in-Some.ensures in
    let registers = sym (ap (λ (made : Produced). registers_ok made (regs_of a.rf.now)) checked.1) ∙ sym c.registers_ok.ensures ∙ c.if-not-registers_ok.false in
    rw (le-leb _ _ c.if-n-gt-ROOM.false, le-leb _ _ c.if-n-ts.false, sym c.filled_from.ensures ∙ c.if-filled_from.false, tests_on a.instructions a.c a.n a.ts.now a.rf.now c.if-n-gt-ROOM.false c.if-n-ts.false, checked.0, registers) c.counter_ok.ensures
